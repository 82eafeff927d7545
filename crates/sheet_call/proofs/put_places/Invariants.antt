use Rattle.sheet_call.proofs.Turns.{Placing}
use Rattle.sheet_call.proofs.put_places.Given as goal

abbrev pub invariant-loop-p : goal.invariant-loop-p
invariant-loop-p l = Placing l.table.cells.now l.table.w l.table.places l.table.earliest.0 l.initial.out l.out l.at l.p
