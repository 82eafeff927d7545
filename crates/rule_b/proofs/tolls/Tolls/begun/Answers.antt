use Prim.Native.Nat.{◌≤◌}
use native.Mathlib.Omega.{arith}
use Rattle.leg.proofs.Order.{not-later}
use Rattle.rule_b.specs.Cursor.{leg_of}
use Rattle.rule_b.proofs.Bands.{stands, next_low, banded-more}
use Rattle.rule_b.proofs.tolls.Tolls.begun.Goals.{In-loop-minute}
use Rattle.rule_b.proofs.tolls.Tolls.begun.Goals as goal

-- the next band has begun
due : (c : In-loop-minute) → c.loop-minute.tolls.next.0 ≤ c.args.minute.0
due c = not-later c.loop-minute.tolls.next.0 c.args.minute.0 _ c.le.ensures c.loop-minute-test.true

pub step-tolls-requires : goal.step-tolls-requires
step-tolls-requires c =
    let l = c.loop-minute in
    let leg = leg_of c.args.self.leg in
    let here = due (goal.at.step-tolls-requires c).In-loop-minute in
    omega (arith, next_low leg c.args.minute.0 l.tolls l.invariant here c.requires.2, (stands leg l.tolls l.invariant.is).count_is)

pub loop-minute-preserved : goal.loop-minute-preserved
loop-minute-preserved c =
    let l = c.loop-minute in
    banded-more (leg_of c.args.self.leg) c.args.minute.0 l.tolls c.step-tolls.result c.requires.0 l.invariant (due (goal.at.loop-minute-preserved c).In-loop-minute) c.requires.2
    c.step-tolls.ensures
