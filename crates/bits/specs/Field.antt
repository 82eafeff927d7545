-- One field of a list of bytes, most significant bit first. Callers go by the laws of proofs/, never by the text here.
use Rattle.std.specs.Prelude.{ℕ, zero, suc, ◌+◌, ◌-◌, ◌*◌, ◌/◌, ◌%◌, ◌^◌, ◌≤◌, ◌<◌, ◌≡◌, List, length, get_or}

-- bit p of the bytes: bit 0 is the most significant bit of byte 0; past the end every bit is 0
unfoldable pub bit : List ℕ → ℕ → ℕ
bit s p = get_or s (p / 8) 0 / 2 ^ (7 - p % 8) % 2

-- the number that the w bits from `at` on spell
unfoldable pub field : List ℕ → ℕ → ℕ → ℕ
field s at zero = zero
field s at (suc w) = field s at w * 2 + bit s (at + w)

-- what a put of v into w bits at `at` leaves: the field has the value, and every other bit is as before
pub record Put (before after : List ℕ) (at w v : ℕ) : Type 0 where
  pub same_length : length after ≡ length before
  pub holds : field after at w ≡ v
  pub bits_before : (p : ℕ) → p < at → bit after p ≡ bit before p
  pub bits_after : (p : ℕ) → at + w ≤ p → bit after p ≡ bit before p
  pub byte : (i : ℕ) → get_or after i 0 < 256
