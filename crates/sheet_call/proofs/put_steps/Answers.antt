use Prim.Native.Nat.{◌/◌, ◌≤◌, ◌<◌}
use native.Mathlib.Omega.{arith}
use mathlib.Core.Path.{◌≡◌}
use mathlib.Core.Bool.{true, false}
use lib.ListN.{get_or}
use Rattle.leg.proofs.Order.{earlier, not-earlier}
use Rattle.sheet_call.proofs.Turns.{putting-lower, putting-same, putting-room, putting-done, counting-done}
use Rattle.sheet_call.proofs.put_steps.Goals.{After-lt, then-lt, else-lt}
use Rattle.sheet_call.proofs.put_steps.Goals as goal

-- the cost is that of the column's cell
cost : (c : After-lt) → c.cost_of-cost.result.0 ≡ get_or c.args.row.now c.loop-column.column 0 / 64
cost c = omega (arith, c.cost_of-cost.ensures)

lower : (c : After-lt) → c.lt.result ≡ true → get_or c.args.row.now c.loop-column.column 0 / 64 < c.loop-column.was.0
lower c e = omega (arith, cost c, earlier c.cost_of-cost.result.0 c.loop-column.was.0 _ c.lt.ensures e)

same : (c : After-lt) → c.lt.result ≡ false → c.loop-column.was.0 ≤ get_or c.args.row.now c.loop-column.column 0 / 64
same c e = omega (arith, cost c, not-earlier c.cost_of-cost.result.0 c.loop-column.was.0 _ c.lt.ensures e)

pub put_step-requires : goal.put_step-requires
put_step-requires c =
    let l = c.loop-column in
    let a = c.args in
    let p = (goal.at.put_step-requires c).After-lt in (
      omega arith,
      putting-room a.row.now a.earliest.0 a.out.now a.at l.out l.was.0 l.count l.column l.invariant
          c.loop-column-test.true c.requires.1 (lower p c.if-lt.true),
      omega arith,
    )

pub loop-column-preserved : goal.loop-column-preserved
loop-column-preserved c =
    let l = c.loop-column in
    let a = c.args in
    let p = (goal.at.loop-column-preserved c).After-lt in
    elim c.if-lt.branch [
      | then-lt w ↦ rw (w.out-is, w.was-is, w.count-is, cost p) (putting-lower a.row.now a.earliest.0 a.out.now a.at l.out l.was.0 l.count l.column l.invariant
          c.loop-column-test.true (lower p w.if-lt.true) _ (rw (cost p) at w.put_step.ensures))
      | else-lt w ↦ rw (w.out-is, w.was-is, w.count-is) (putting-same a.row.now a.earliest.0 a.out.now a.at l.out l.was.0 l.count l.column l.invariant
          c.loop-column-test.true (same p w.if-lt.false))
    ]

pub returns : goal.returns
returns c =
    let l = c.loop-column in
    let a = c.args in (
      counting-done a.row.now l.was.0 l.count l.column l.invariant.counting (omega arith),
      putting-done a.row.now a.earliest.0 a.out.now a.at l.out l.was.0 l.count l.column l.invariant (omega arith),
    )
