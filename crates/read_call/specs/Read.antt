-- Document 01: what the read call answers, and what the lent list then holds.
use Rattle.std.specs.Prelude.{ℕ, ◌≡◌, List, ◌++◌, leb, length, drop}
use Rattle.answer.specs.Numbers.{Answer}
use Rattle.std.specs.Prelude.{Ok, Err}
use Rattle.answer.specs.declared.Refusal.TheVariants.{Room}
use Rattle.network.specs.Reading.{Found, refused, found, pick}
use Rattle.network.specs.Network.{Network, edition1, of_file}
use Rattle.network.specs.Fields.{numbers_of}

-- the answer, by what the file stands for and how many numbers the list holds
abbrev pub read_answer : Found Network → ℕ → Answer
read_answer (refused why) room = Err why
read_answer (found net at) room =
    pick (leb (length (numbers_of edition1 net)) room) (Ok (length (numbers_of edition1 net))) (Err Room)

-- the network's numbers at the front of a list that has room for them; the rest keeps what it held
abbrev pub listed : Found Network → List ℕ → List ℕ
listed (refused why) list = list
listed (found net at) list =
    pick (leb (length (numbers_of edition1 net)) (length list)) (numbers_of edition1 net ++ drop (length (numbers_of edition1 net)) list) list

-- the read call's promise, for every file and every list
pub record Reads (net list after : List ℕ) (answer : Answer) : Type 0 where
  pub answer_is : answer ≡ read_answer (of_file net) (length list)
  pub list_is : after ≡ listed (of_file net) list
