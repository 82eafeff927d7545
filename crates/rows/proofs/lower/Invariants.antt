-- `rows::lower`: the rides from the columns passed are done.
use Rattle.rows.specs.Row.{Lower}
use Rattle.rows.proofs.lower.Given as goal

abbrev pub invariant-loop-j : goal.invariant-loop-j
invariant-loop-j l = Lower l.initial.part l.part l.rides.row.now l.rides.from l.j l.rides.time l.rides.add
