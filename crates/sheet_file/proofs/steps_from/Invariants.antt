use Rattle.source.specs.Source.{file_of}
use Rattle.sheet_file.specs.SheetFile.{steps, any_cost}
use Rattle.sheet_file.specs.InPlace.{steps_at}
use Rattle.sheet_file.specs.Window.{below}
use Rattle.sheet_file.proofs.Laws.{prepend}
use Prim.Native.Nat.{◌+◌, ◌-◌, ◌*◌, ◌≤◌}
use mathlib.Core.Path.{◌≡◌}
use Rattle.sheet_file.proofs.steps_from.Given as goal

-- the steps from the start on are those that were read, and those that are still to be read
abbrev pub invariant-loop-k : goal.invariant-loop-k
invariant-loop-k l =
    (l.count ≤ 2880) × (l.at ≤ 8500000)
    × (steps l.count l.initial.low.0 l.window.latest.0 any_cost (file_of l.sheet) l.at ≡ prepend (steps_at l.sheet l.at l.k) (steps (l.count - l.k) l.low.0 l.window.latest.0 (below l.last) (file_of l.sheet) (l.at + 44 * l.k)))
