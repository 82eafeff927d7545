-- What the parts of the sheet call go by.
use Rattle.std.specs.Prelude.{ℕ, ◌+◌, ◌*◌, ◌≤◌, ◌<◌, ◌≡◌, List, length, get_or}
use Rattle.bits.specs.Packed.{Entry, bits_of}
use Rattle.plan.specs.Network.{Minute}
use Rattle.sheet_call.specs.Rows.{steps_of, sheet_in}
use Rattle.sheet_file.specs.Fields.{sheet_bytes}

-- how many steps a row has, whatever its first minute
pub record Counted (row : List ℕ) (r : ℕ) : Type 0 where
  pub few : r ≤ length row
  pub count : (t : Minute) → r ≡ length (steps_of t row)

-- room for fields from a bit on, in bytes
pub record RoomAt (out : List ℕ) (at : ℕ) (fields : List Entry) : Type 0 where
  pub room : at + bits_of fields ≤ 8 * length out
  pub near : at ≤ 10000000
  pub byte : (i : ℕ) → get_or out i 0 < 256

-- rows of w cells for n places
pub record Table (cells : List ℕ) (w n : ℕ) : Type 0 where
  pub few : n ≤ 64
  pub narrow : w ≤ 2880
  pub all : n * w ≤ length cells

-- how many bytes the sheet's file has, whatever the first minute
pub record Weighed (cells : List ℕ) (w n r : ℕ) : Type 0 where
  pub small : r ≤ 2000000
  pub weight : (t : Minute) → r ≡ sheet_bytes (sheet_in cells w t n)
