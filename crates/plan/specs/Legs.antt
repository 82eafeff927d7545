-- The network that a number of places and a list of legs make.
use Rattle.std.specs.Prelude.{ℕ, true, List, [], length, get_or}
use Rattle.leg.specs.declared.Leg.{Leg}
use Rattle.leg.specs.Ranges.{minute}
use Rattle.leg.specs.Toll.{toll_at}
use Rattle.plan.specs.Network.{Network}

-- What stands where there is no leg.
abbrev pub no_leg : Leg
no_leg = record { from = 0; to = 0; time = minute 0; bands = []; count = 0 }

-- Legs are numbered from 0 in the order of the list. A leg may be left for at any minute, at the toll of its bands.
abbrev pub network_of : ℕ → List Leg → Network
network_of places legs = record {
  places = places;
  legs = length legs;
  source = λ l. (get_or legs l no_leg).from;
  target = λ l. (get_or legs l no_leg).to;
  time = λ l. (get_or legs l no_leg).time.0;
  goes = λ l d. true;
  toll = λ l d. toll_at (get_or legs l no_leg) d;
}
