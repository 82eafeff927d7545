use Rattle.sheet_call.proofs.Turns.{Putting}
use Rattle.sheet_call.proofs.put_steps.Given as goal

abbrev pub invariant-loop-column : goal.invariant-loop-column
invariant-loop-column l = Putting l.row l.earliest.0 l.initial.out l.at l.out l.was.0 l.count l.column
