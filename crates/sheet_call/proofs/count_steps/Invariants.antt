use Rattle.sheet_call.proofs.Turns.{Counting}
use Rattle.sheet_call.proofs.count_steps.Given as goal

abbrev pub invariant-loop-cell : goal.invariant-loop-cell
invariant-loop-cell l = Counting l.row l.was.0 l.count l.cell-index
