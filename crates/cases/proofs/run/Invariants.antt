-- No more cases are right than were run.
use Rattle.std.proofs.Common.{◌≤◌}
use Rattle.cases.proofs.run.Given as goal

abbrev pub invariant-loop : goal.invariant-loop
invariant-loop l = l.right ≤ l.counter
