use Rattle.sheet_call.proofs.Turns.{Weighing}
use Rattle.sheet_call.proofs.weigh.Given as goal

abbrev pub invariant-loop-p : goal.invariant-loop-p
invariant-loop-p l = Weighing l.table.cells.now l.table.w l.table.places l.bits l.p
