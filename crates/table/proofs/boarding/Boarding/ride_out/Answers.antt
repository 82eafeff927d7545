-- `Boarding::ride_out`: the smaller of what was noted and what is new.
use Prim.Native.Nat.{min}
use native.Mathlib.Omega.{arith}
use mathlib.Core.Path.{◌≡◌}
use Rattle.rows.specs.Row.{at}
use mathlib.Core.Path.{ap}
use lib.ListN.{set}
use Rattle.table.proofs.boarding.Boarding.ride_out.Goals as goal

pub returns : goal.returns
returns c =
    let low = c.args.low.now in
    let to = c.args.self.now.leg.to in
    let least : c.min.result ≡ min (at low to) c.ride-first.result = omega (arith, c.min.ensures) in
    record { first = c.ride-first.result; rode = c.ride-first.ensures; noted = ap (set low to) least }
