-- A file of fields and nothing else.
use Rattle.std.specs.Prelude.{ℕ, ◌+◌, ◌/◌, ◌≤◌, ◌<◌, ◌≡◌, List, [], ◌∷◌, length, get_or}
use Rattle.bits.specs.Field.{bit, field}

-- one field: how many bits it has, and the number in them
pub record Entry : Type 0 where
  pub width : ℕ
  pub value : ℕ

-- a field of so many bits that holds this number
abbrev pub item : ℕ → ℕ → Entry
item w v = record { width = w; value = v }

-- how many bits the fields have together
abbrev pub bits_of : List Entry → ℕ
bits_of [] = 0
bits_of (e ∷ es) = e.width + bits_of es

-- how many bytes hold n bits
abbrev pub bytes_for : ℕ → ℕ
bytes_for n = (n + 7) / 8

-- the fields stand one after another from bit `at` on
unfoldable pub Holds : List ℕ → ℕ → List Entry → Type 0
Holds s at [] = Unit
Holds s at (e ∷ es) = (field s at e.width ≡ e.value) × Holds s (at + e.width) es

-- the bytes begin with the fields, and every bit after them is zero: what a writer keeps from field to field
pub record Written (fields : List Entry) (bytes : List ℕ) : Type 0 where
  pub holds : Holds bytes 0 fields
  pub fill : (p : ℕ) → bits_of fields ≤ p → bit bytes p ≡ 0
  pub byte : (i : ℕ) → get_or bytes i 0 < 256

-- the bytes are the file of these fields: they begin with them, the last byte is filled with zero bits, and nothing follows
pub record Packed (fields : List Entry) (bytes : List ℕ) : Type 0 where
  pub size : length bytes ≡ bytes_for (bits_of fields)
  pub written : Written fields bytes
