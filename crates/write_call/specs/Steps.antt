-- What the private functions say of a file that is being written.
use Rattle.std.specs.Prelude.{ℕ, ◌+◌, ◌*◌, ◌≤◌, ◌<◌, ◌≡◌, List, [], ◌++◌, length, get_or}
use Rattle.bits.specs.Packed.{Entry, bits_of, Written, Packed}
use Rattle.leg.specs.declared.Leg.{Leg}
use Rattle.leg.specs.Ranges.{no_band}
use Rattle.source.specs.Source.{list_of}
use Rattle.network.specs.declared.Size.{Size}
use Rattle.network.specs.Reading.{found}
use Rattle.network.specs.Network.{Network, edition1, legs, of_list}
use Rattle.network.specs.Answers.{size_of}
use Rattle.network.specs.Fields.{legs_fields, fields_of}
use Rattle.write_call.specs.Write.{file_length}

-- whatever fields were written up to bit `at`, these now follow them
pub record Adds (before after : List ℕ) (at : ℕ) (es : List Entry) : Type 0 where
  pub same_length : length after ≡ length before
  pub behind : (fs : List Entry) → bits_of fs ≡ at → Written fs before → Written (fs ++ es) after

-- a leg whose numbers fit their fields
pub record Small (l : Leg) : Type 0 where
  pub from_small : l.from < 64
  pub to_small : l.to < 64
  pub time_small : l.time.0 < 4096
  pub count_small : l.count ≤ 8
  pub bands_small : (k : ℕ) → ((get_or l.bands k no_band).start.0 < 4096) × ((get_or l.bands k no_band).toll.0 < 65536)

-- the list has so many legs behind its head, and so many bytes have room for them
pub record LegsFit (list : List ℕ) (places count room : ℕ) : Type 0 where
  pub places_few : places ≤ 64
  pub count_few : count ≤ 512
  pub all : List Leg
  pub end : ℕ
  pub read : legs edition1 places count [] (list_of list) 3 ≡ found all end
  pub fit : 25 + bits_of (legs_fields edition1 all) ≤ 8 * room

-- the legs of the list follow the 25 bits of a network's head
abbrev pub LegsPut : List ℕ → ℕ → ℕ → List ℕ → List ℕ → Type 0
LegsPut list places count before after =
    (all : List Leg) (end : ℕ) → legs edition1 places count [] (list_of list) 3 ≡ found all end
    → Adds before after 25 (legs_fields edition1 all)

-- the list stands for a network of this size, whose file has so many bytes
pub record Accepted (list : List ℕ) (size : Size) (room : ℕ) : Type 0 where
  pub net : Network
  pub end : ℕ
  pub read : of_list list ≡ found net end
  pub sized : size ≡ size_of net
  pub exact : room ≡ file_length net

-- the bytes are the file of the network that the list stands for
abbrev pub FileOf : List ℕ → List ℕ → Type 0
FileOf list bytes = (net : Network) (end : ℕ) → of_list list ≡ found net end → Packed (fields_of edition1 net) bytes
