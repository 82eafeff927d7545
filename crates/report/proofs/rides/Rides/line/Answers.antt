use Rattle.report.proofs.Riding.{ride-there}
use Prim.Native.Nat.{◌+◌}
use native.Mathlib.Omega.{arith}
use Rattle.report.proofs.rides.Rides.line.Goals as goal

pub overflow_sub-wait : goal.overflow_sub-wait
overflow_sub-wait c =
    let a = c.args in
    omega (arith, (ride-there a.self.now (a.k + 1) (omega (arith, c.requires.0)) a.k (omega arith)).after, c.arrival_after-before.ensures, c.ride_at-leg.ensures.1)
