-- What the judging functions return for what a reading comes to.
use Rattle.std.specs.Prelude.{ℕ, ◌+◌, List, [], ◌∷◌, Result, Ok, Err, length}
use Rattle.answer.specs.declared.Refusal.{Refusal}
use Rattle.leg.specs.declared.Leg.{Leg}
use Rattle.leg.specs.Ranges.{minute}
use Rattle.network.specs.declared.Size.{Size}
use Rattle.network.specs.Reading.{Found, refused, found}
use Rattle.network.specs.Network.{Network, edition1, bare}

-- what the code returns for a reading: what was found and the place after it, or why it is refused
abbrev pub given : {A : Type 0} → Found A → Result (A × ℕ) Refusal
given (refused why) = Err why
given (found a at) = Ok (a, at)

-- no leg: all zeros
abbrev pub no_leg : Leg
no_leg = bare edition1 (record { from = 0; to = 0; time = minute 0; count = 0 })

-- the leg that was found; where none was, no leg
abbrev pub leg_or_none : Found Leg → Leg
leg_or_none (refused why) = no_leg
leg_or_none (found l at) = l

-- how many bands the legs have together
abbrev pub bands_of : List Leg → ℕ
bands_of [] = 0
bands_of (l ∷ ls) = l.count + bands_of ls

-- how large a network is
abbrev pub size_of : Network → Size
size_of net = record { places = net.places; legs = length net.legs; bands = bands_of net.legs }

-- for a whole network: how large it is
abbrev pub network_found : Found Network → Result Size Refusal
network_found (refused why) = Err why
network_found (found net at) = Ok (size_of net)
