-- The network that the bytes of a network file stand for: as it is read, and as the plans see it.
use Rattle.std.specs.Prelude.{ℕ, List, [], get_or}
use Rattle.leg.specs.declared.Leg.{Leg}
use Rattle.plan.specs.Network as Plan
use Rattle.plan.specs.Legs.{network_of, no_leg}
use Rattle.network.specs.Reading.{Found, refused, found}
use Rattle.network.specs.Network.{Network, of_file}

-- the network that was found; where none was, one with no places and no legs
abbrev pub net_of : Found Network → Network
net_of (refused why) = record { places = 0; legs = [] }
net_of (found net end) = net

-- the network that a file's bytes stand for; unfolded only where asked, so that nothing computes the reader
unfoldable pub net_in : List ℕ → Network
net_in s = net_of (of_file s)

-- a network as the plans see it
abbrev pub theory : Network → Plan.Network
theory net = network_of net.places net.legs

-- the network that a file's bytes stand for, as the plans see it
abbrev pub theory_in : List ℕ → Plan.Network
theory_in s = theory (net_in s)

-- leg k of the network that a file's bytes stand for
abbrev pub leg_in : List ℕ → ℕ → Leg
leg_in s k = get_or (net_in s).legs k no_leg
