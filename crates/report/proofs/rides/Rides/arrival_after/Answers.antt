use Prim.Native.Nat.{◌-◌}
use Rattle.report.proofs.Riding.{leg-below, small-sum}
use native.Mathlib.Omega.{arith}
use Rattle.report.proofs.rides.Rides.arrival_after.Goals as goal

pub leg-ridden-requires : goal.leg-ridden-requires
leg-ridden-requires c =
    let a = c.args in
    leg-below a.self.now a.count c.requires (a.count - 1) (omega (arith, c.if-count-eq0.false)) _ c.ride_at-leg.ensures.0

pub overflow_add-result : goal.overflow_add-result
overflow_add-result c =
    let a = c.args in
    omega (arith, small-sum a.self.now a.count c.requires (a.count - 1) (omega (arith, c.if-count-eq0.false)) _ c.ride_at-leg.ensures.0 _ c.ride_at-leg.ensures.1 _ c.leg-ridden.ensures)
