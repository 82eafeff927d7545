-- `Boarding::ride`: the rides before the start of band k are done.
use Rattle.table.specs.Ride.{band_start}
use Rattle.table.proofs.Rides.{band-starts, band-ends, rode-none}
use native.Mathlib.Omega.{arith}
use Rattle.table.proofs.boarding.Boarding.ride.Goals as goal

pub returns : goal.returns
returns c =
    let l = c.loop-k in
    let all = band-ends c.args.self.now.leg l.k (omega arith) in
    rw all at l.invariant

pub loop-k-init : goal.loop-k-init
loop-k-init c =
    let b = c.args.self.now in
    let start = band-starts b.leg 0 b.banded.some in
    rode-none b.leg b.earliest.0 b.w b.from b.row.now c.args.cells.now 0 (band_start b.leg 0) (λ i f l u h. omega (arith, start, b.banded.begins))
