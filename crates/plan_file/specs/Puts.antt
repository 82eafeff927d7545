-- Several fields put into bytes that hold other things.
use Rattle.std.specs.Prelude.{ℕ, ◌+◌, ◌≤◌, ◌<◌, ◌≡◌, List, length, get_or}
use Rattle.bits.specs.Field.{bit}
use Rattle.bits.specs.Packed.{Entry, bits_of, Holds}

-- what puts of these fields, one after another from bit `at` on, leave: the fields stand there, and every other bit is as before
pub record Puts (before after : List ℕ) (at : ℕ) (fields : List Entry) : Type 0 where
  pub same_length : length after ≡ length before
  pub holds : Holds after at fields
  pub bits_before : (p : ℕ) → p < at → bit after p ≡ bit before p
  pub bits_after : (p : ℕ) → at + bits_of fields ≤ p → bit after p ≡ bit before p
  pub byte : (i : ℕ) → get_or after i 0 < 256
