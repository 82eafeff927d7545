-- The cards of a sheet's places.
use Rattle.std.specs.Prelude.{ℕ, ◌+◌, ◌*◌, ◌≤◌, ◌<◌, ◌≡◌, List, [], length, get_or}
use Rattle.sheet_file.specs.InPlace.{count_at}
use Rattle.card.specs.declared.Card.{Card}
use Rattle.card.specs.declared.Slot.{Slot}
use Rattle.card.specs.declared.OwnedCard.{OwnedCard}
use Rattle.card.specs.Card.{Blank, Carded}

-- the steps of the place whose count stands at a bit are on the card, if it has room for them
abbrev pub Laid : List ℕ → ℕ → List Slot → Type 0
Laid s place slots = count_at s place ≤ 16 → Carded s (place + 12) 32 (count_at s place) 16 slots 0

-- a place's card has 16 slots, and the place's steps are on it if it has room for them
pub record OnCard (s : List ℕ) (place : ℕ) (card : Card) : Type 0 where
  pub room : length card.slots.now ≡ 16
  pub laid : Laid s place card.slots.now

-- the card of place p
abbrev pub card_of : List (OwnedCard 16) → ℕ → OwnedCard 16
card_of cards p = get_or cards p (record { slots = [] })

-- no slot of any of the 64 places is taken
abbrev pub AllBlank : List (OwnedCard 16) → Type 0
AllBlank cards = (p : ℕ) → p < 64 → Blank (card_of cards p).slots 0 16

-- the cards of the first `places` places
abbrev pub LaidOut : List ℕ → ℕ → List ℕ → List (OwnedCard 16) → Type 0
LaidOut s places index cards = (p : ℕ) → p < places → Laid s (get_or index p 0) (card_of cards p).slots

-- the steps of each place lie in the file
abbrev pub Inside : List ℕ → ℕ → List ℕ → Type 0
Inside s places index = (p : ℕ) → p < places → get_or index p 0 + 12 + 44 * count_at s (get_or index p 0) ≤ 8 * length s
