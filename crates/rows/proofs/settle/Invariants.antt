-- `rows::settle`: the columns passed are settled and copied, and `best` is the last of them.
use Rattle.rows.specs.Row.{at, Settle}
use Prim.Native.Nat.{◌-◌}
use mathlib.Core.Path.{◌≡◌}
use Rattle.rows.proofs.settle.Given as goal

abbrev pub invariant-loop-j : goal.invariant-loop-j
invariant-loop-j l = (l.best ≡ at l.part (l.j - 1)) × Settle l.initial.part l.part l.row l.from l.j
