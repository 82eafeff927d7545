-- `rows::search`: no ride from a column passed arrives below what stands there.
use Rattle.rows.specs.Row.{Passed}
use Rattle.rows.proofs.search.Given as goal

abbrev pub invariant-loop-i : goal.invariant-loop-i
invariant-loop-i l = Passed l.part l.rides.row.now l.rides.from l.i l.rides.time l.rides.add
