-- Document 01, the write call: what it answers to a list of numbers, and what the output then holds.
use Rattle.std.specs.Prelude.{ℕ, Ok, Err, ◌≡◌, Bool, true, false, List, ◌++◌, leb, length, drop}
use Rattle.answer.specs.declared.Refusal.{Refusal}
use Rattle.answer.specs.declared.Refusal.TheVariants.{Room}
use Rattle.answer.specs.Numbers.{Answer}
use Rattle.bits.specs.Packed.{bits_of, bytes_for, Packed}
use Rattle.network.specs.Reading.{Found, refused, found}
use Rattle.network.specs.Network.{Network, edition1, of_list}
use Rattle.network.specs.Fields.{fields_of}

-- how many bytes a network's file has
abbrev pub file_length : Network → ℕ
file_length net = bytes_for (bits_of (fields_of edition1 net))

-- done with so many bytes, if there is room for them
abbrev pub if_room : Bool → ℕ → Answer
if_room true n = Ok n
if_room false n = Err Room

-- the answer: the numbers are judged first, then the room
abbrev pub write_answer : Found Network → ℕ → Answer
write_answer (refused why) room = Err why
write_answer (found net at) room = if_room (leb (file_length net) room) (file_length net)

-- the network's file stands at the front of the output, and the rest keeps its bytes
pub record Fronted (net : Network) (out after : List ℕ) : Type 0 where
  pub file : List ℕ
  pub packed : Packed (fields_of edition1 net) file
  pub front : after ≡ file ++ drop (length file) out

-- the whole promise: a refusal keeps the output, and `Ok` leaves the file of the network that the list stands for
pub record Writes (list out after : List ℕ) (answer : Answer) : Type 0 where
  pub answered : answer ≡ write_answer (of_list list) (length out)
  pub kept : (why : Refusal) → answer ≡ Err why → after ≡ out
  pub written : (net : Network) (end n : ℕ) → of_list list ≡ found net end → answer ≡ Ok n → Fronted net out after
