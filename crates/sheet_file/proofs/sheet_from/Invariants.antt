use Rattle.sheet_file.specs.Window.{of_window}
use Rattle.sheet_file.proofs.Found.{Partly}
use Prim.Native.Nat.{◌+◌, ◌*◌, ◌≤◌}
use mathlib.Core.Path.{◌≡◌}
use lib.ListN.{length}
use Rattle.sheet_file.proofs.sheet_from.Given as goal

abbrev pub invariant-loop-k : goal.invariant-loop-k
invariant-loop-k l =
    (l.places ≤ 64) × (l.place ≤ 15 + 126732 * l.k) × (length l.index ≡ 64) × Partly l.sheet (of_window l.window) l.places l.k l.place l.index
