-- `rows::any_lower`: as long as none was lower, every column passed was not.
use Rattle.rows.specs.Row.{Passed}
use mathlib.Core.Path.{◌≡◌}
use mathlib.Core.Bool.{false}
use Rattle.rows.proofs.any_lower.Given as goal

abbrev pub invariant-loop-k : goal.invariant-loop-k
invariant-loop-k l = l.any ≡ false → Passed l.part l.rides.row.now l.rides.from l.k l.rides.time l.rides.add
