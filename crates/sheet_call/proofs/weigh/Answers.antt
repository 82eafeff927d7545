use native.Mathlib.Omega.{arith}
use Rattle.sheet_call.proofs.Turns.{weighing-more, weighing-done}
use Rattle.sheet_call.proofs.weigh.Goals as goal

pub loop-p-preserved : goal.loop-p-preserved
loop-p-preserved c =
    let l = c.loop-p in
    let t = c.args.table.now in
    let inv = t.table in
    weighing-more t.cells.now t.w t.places l.bits l.p l.invariant inv c.loop-p-test.true _ (rw c.row.ensures at c.count_steps.ensures)

pub returns : goal.returns
returns c =
    let l = c.loop-p in
    let t = c.args.table.now in
    let inv = t.table in
    weighing-done t.cells.now t.w t.places l.bits l.p l.invariant inv (omega arith) _ (omega (arith, c.div_ceil.ensures))
