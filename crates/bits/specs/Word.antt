-- What the private functions say of a number that stands in several bytes.
use Rattle.std.specs.Prelude.{ℕ, ◌+◌, ◌*◌, ◌/◌, ◌%◌, ◌^◌, ◌≤◌, ◌<◌, ◌≡◌, List, length, get_or}
use Rattle.bits.specs.Field.{field}

-- what storing the number x into n bytes from byte i on leaves: those bytes spell x, and every other byte is as before
pub record Stored (before after : List ℕ) (i n x : ℕ) : Type 0 where
  pub same_length : length after ≡ length before
  pub bytes_before : (j : ℕ) → j < i → get_or after j 0 ≡ get_or before j 0
  pub bytes_after : (j : ℕ) → i + n ≤ j → get_or after j 0 ≡ get_or before j 0
  pub holds : field after (8 * i) (8 * n) ≡ x

-- the number `word` with v in place of the w bits above its lowest d
unfoldable pub spliced : ℕ → ℕ → ℕ → ℕ → ℕ
spliced word d w v = (word / 2 ^ d / 2 ^ w * 2 ^ w + v) * 2 ^ d + word % 2 ^ d
