-- Each call of the walk has one leg fewer to find, or goes on from the first minute at which the place stands.
use Prim.Native.Nat.{◌+◌, ◌*◌, ◌%◌}
use Rattle.walk.specs.Walk.{cells_of}
use Rattle.walk.proofs.Walk.+arrival_to_leg_departure_to_standing.Given as goal

abbrev pub decreases-arrival_to_leg : goal.decreases-arrival_to_leg
decreases-arrival_to_leg l = 2 * (cells_of l.self.now l.place l.arrival.0 % 64)

abbrev pub decreases-departure_to_standing : goal.decreases-departure_to_standing
decreases-departure_to_standing l = 2 * (cells_of l.self.now l.place l.departure.0 % 64) + 1
