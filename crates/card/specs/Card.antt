-- A card: a few slots of minutes and cents, in a list from an index on.
use Rattle.std.specs.Prelude.{ℕ, ◌+◌, ◌*◌, ◌≤◌, ◌<◌, ◌≡◌, ◌⊎◌, List, length, get_or, Option, Some, None}
use Rattle.bits.specs.Field.{field}
use Rattle.leg.specs.declared.Cents.{Cents}
use Rattle.leg.specs.Ranges.{minute, cents}
use Rattle.card.specs.declared.Slot.{Slot}

-- what stands where a list has no slot
abbrev pub no_slot : Slot
no_slot = record { minute = minute 0; price = cents 0 }

-- slot k of the card from index `at` on
abbrev pub slot : List Slot → ℕ → ℕ → Slot
slot xs at k = get_or xs (at + k) no_slot

-- a minute that never comes
abbrev pub never : ℕ
never = 4096

-- no slot is taken
abbrev pub Blank : List Slot → ℕ → ℕ → Type 0
Blank slots at size = (k : ℕ) → k < size → (slot slots at k).minute.0 ≡ never

-- the first `count` slots hold the pairs that stand in a file from a bit on: a minute of 12 bits, cents of `width` bits
pub record Written (s : List ℕ) (bit width count : ℕ) (slots : List Slot) (at : ℕ) : Type 0 where
  pub minute_is : (k : ℕ) → k < count → (slot slots at k).minute.0 ≡ field s (bit + k * (12 + width)) 12
  pub price_is : (k : ℕ) → k < count → (slot slots at k).price.0 ≡ field s (bit + k * (12 + width) + 12) width

-- nothing but `count` slots was written
pub record Kept (old new : List Slot) (at count : ℕ) : Type 0 where
  pub size : length new ≡ length old
  pub same : (n : ℕ) → (n < at) ⊎ (at + count ≤ n) → get_or new n no_slot ≡ get_or old n no_slot

-- a card of so many slots: the first `count` hold the pairs of a file, and the others never begin
pub record Carded (s : List ℕ) (bit width count size : ℕ) (slots : List Slot) (at : ℕ) : Type 0 where
  pub written : Written s bit width count slots at
  pub few : count ≤ size
  pub rest : (k : ℕ) → count ≤ k → k < size → (slot slots at k).minute.0 ≡ never

-- no slot begins before the one in front of it
abbrev pub Rising : List Slot → ℕ → ℕ → Type 0
Rising slots at size = (k : ℕ) → k + 1 < size → (slot slots at k).minute.0 ≤ (slot slots at (k + 1)).minute.0

-- a card can be looked at: it lies in the list, its slots rise, and none is later than never
pub record Tidy (slots : List Slot) (at size : ℕ) : Type 0 where
  pub near : at ≤ 100000
  pub small : size ≤ 16
  pub room : at + size ≤ length slots
  pub rises : Rising slots at size
  pub within : (k : ℕ) → k < size → (slot slots at k).minute.0 ≤ never

-- just the first n slots have begun at minute t
pub record Begun (slots : List Slot) (at size t n : ℕ) : Type 0 where
  pub few : n ≤ size
  pub before : (k : ℕ) → k < n → (slot slots at k).minute.0 ≤ t
  pub after : (k : ℕ) → n ≤ k → k < size → t < (slot slots at k).minute.0

-- what a card shows: the cents of the last slot that has begun at minute t, if one has
pub record Shows (slots : List Slot) (at size t : ℕ) (r : Option Cents) : Type 0 where
  pub count : ℕ
  pub begun : Begun slots at size t count
  pub nothing : count ≡ 0 → r ≡ None
  pub last : (k : ℕ) → count ≡ k + 1 → r ≡ Some (slot slots at k).price
