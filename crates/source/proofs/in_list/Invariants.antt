-- `source::in_list`: the numbers passed are the list's.
use Prim.Native.Nat.{ℕ, ◌+◌, ◌<◌}
use mathlib.Core.Path.{◌≡◌}
use lib.ListN.{length, get_or}
use Rattle.source.proofs.in_list.Given as goal

abbrev pub invariant-loop-k : goal.invariant-loop-k
invariant-loop-k g l =
    (length l.value-items ≡ g.row.N) × ((j : ℕ) → j < l.k → get_or l.list (l.at + j) 0 ≡ get_or l.value-items j 0)
