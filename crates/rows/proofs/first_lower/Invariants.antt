-- `rows::first_lower`: stretches without a lower column are passed whole.
use Rattle.rows.specs.Row.{Passed}
use Rattle.rows.proofs.first_lower.Given as goal

abbrev pub invariant-loop-i : goal.invariant-loop-i
invariant-loop-i l = Passed l.part l.rides.row.now l.rides.from l.i l.rides.time l.rides.add
