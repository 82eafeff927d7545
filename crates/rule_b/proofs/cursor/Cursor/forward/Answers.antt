use Prim.Native.Nat.{◌≤◌, ◌<◌}
use native.Mathlib.Omega.{arith}
use Rattle.leg.proofs.Order.{not-later}
use Rattle.rule_b.proofs.Walks.{some_left, reached-more}
use Rattle.rule_b.proofs.cursor.Cursor.forward.Goals.{In-loop-minute}
use Rattle.rule_b.proofs.cursor.Cursor.forward.Goals as goal

-- the next step has come
due : (c : In-loop-minute) → c.loop-minute.cursor.next.0 ≤ c.args.minute.0
due c = not-later c.loop-minute.cursor.next.0 c.args.minute.0 _ c.le.ensures c.loop-minute-test.true

-- and so there is one
more : (c : In-loop-minute) → 0 < c.loop-minute.cursor.left
more c = some_left c.loop-minute.cursor (omega (arith, due c, c.requires))

pub step-cursor-requires : goal.step-cursor-requires
step-cursor-requires c = more (goal.at.step-cursor-requires c).In-loop-minute

pub loop-minute-smaller : goal.loop-minute-smaller
loop-minute-smaller c = omega (arith, c.step-cursor.ensures.left_is, more (goal.at.loop-minute-smaller c).In-loop-minute)

pub loop-minute-preserved : goal.loop-minute-preserved
loop-minute-preserved c q ss r =
    let l = c.loop-minute in
    reached-more q ss c.args.minute.0 l.cursor c.step-cursor.result (due (goal.at.loop-minute-preserved c).In-loop-minute) c.requires c.step-cursor.ensures (l.invariant q ss r)
