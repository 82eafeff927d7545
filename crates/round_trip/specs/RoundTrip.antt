-- Document 01's round trip: what the read call lists, the write call makes into the same file, and the other way round.
use Rattle.std.specs.Prelude.{ℕ, ◌≤◌, ◌<◌, ◌≡◌, List, ◌++◌, length, take, drop, get_or}
use Rattle.answer.specs.Numbers.{Answer}
use Rattle.std.specs.Prelude.{Ok}
use Rattle.read_call.specs.Read.{Reads}
use Rattle.write_call.specs.Write.{Writes}

-- the call is done, and left these numbers at the front of what it was lent; the rest keeps what it held
pub record Leaves (front lent after : List ℕ) (answer : Answer) : Type 0 where
  pub done : answer ≡ Ok (length front)
  pub left : after ≡ front ++ drop (length front) lent

-- a file that the read call lists: written from that list, it comes out again byte for byte
abbrev pub FileRoundTrip : Type 0
FileRoundTrip =
    (file list listed : List ℕ) (n : ℕ) → ((i : ℕ) → get_or file i 0 < 256) → Reads file list listed (Ok n)
    → (out after : List ℕ) (answer : Answer) → length file ≤ length out → Writes (take n listed) out after answer
    → Leaves file out after answer

-- a list that the write call makes into a file: read from that file, it comes out again number for number
abbrev pub ListRoundTrip : Type 0
ListRoundTrip =
    (list out written : List ℕ) (n : ℕ) → Writes list out written (Ok n)
    → (lent after : List ℕ) (answer : Answer) → length list ≤ length lent → Reads (take n written) lent after answer
    → Leaves list lent after answer
