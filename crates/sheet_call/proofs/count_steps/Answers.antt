use Prim.Native.Nat.{◌/◌}
use native.Mathlib.Omega.{arith}
use mathlib.Core.Path.{◌≡◌}
use lib.ListN.{get_or}
use Rattle.leg.proofs.Order.{earlier, not-earlier}
use Rattle.sheet_call.proofs.Turns.{counting-lower, counting-same, counting-done}
use Rattle.sheet_call.proofs.count_steps.Goals.{then-lt, else-lt}
use Rattle.sheet_call.proofs.count_steps.Goals as goal

pub loop-cell-preserved : goal.loop-cell-preserved
loop-cell-preserved c =
    let l = c.loop-cell in
    let row = c.args.row.now in
    let x = c.cost_of-cost.result.0 in
    let cost : x ≡ get_or row l.cell-index 0 / 64 = omega (arith, c.cost_of-cost.ensures) in
    elim c.if-lt.branch [
      | then-lt w ↦ rw (w.was-is, w.count-is) (counting-lower row l.was.0 l.count l.cell-index l.invariant (omega arith) x cost (earlier x l.was.0 _ c.lt.ensures w.if-lt.true))
      | else-lt w ↦ rw (w.was-is, w.count-is) (counting-same row l.was.0 l.count l.cell-index l.invariant (omega arith) x cost (not-earlier x l.was.0 _ c.lt.ensures w.if-lt.false))
    ]

pub returns : goal.returns
returns c =
    let l = c.loop-cell in
    counting-done c.args.row.now l.was.0 l.count l.cell-index l.invariant (omega arith)
