-- `Boarding::ride`: the rides before the start of band k are done.
use Rattle.table.specs.Ride.{band_start, Rode}
use Rattle.table.proofs.boarding.Boarding.ride.Given as goal

abbrev pub invariant-loop-k : goal.invariant-loop-k
invariant-loop-k l = Rode l.self.leg l.self.earliest.0 l.self.w l.self.from l.initial.cells l.cells l.self.row.now l.first 0 (band_start l.self.leg l.k)
