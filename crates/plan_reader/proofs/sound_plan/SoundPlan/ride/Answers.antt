use native.Mathlib.Omega.{arith}
use Rattle.plan_reader.proofs.Laws.{says-few, says-room}
use Rattle.plan_reader.proofs.sound_plan.SoundPlan.ride.Goals as goal

pub ride_at-requires : goal.ride_at-requires
ride_at-requires c =
    let plan = c.args.self.now in
    let legs = plan.headed.legs_is in
    (omega (arith, legs, c.requires, says-few plan.bytes.now plan.says), omega (arith, legs, c.requires, says-room plan.bytes.now plan.says))
