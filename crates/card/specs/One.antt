-- The slots of one card, taken as a whole.
use Rattle.std.specs.Prelude.{ℕ, Option, length, get_or}
use Rattle.leg.specs.declared.Cents.{Cents}
use Rattle.card.specs.declared.Card.{Card}
use Rattle.card.specs.Card.{no_slot, Tidy, Shows}

-- a card can be looked at
abbrev pub Ready : Card → Type 0
Ready c = Tidy c.slots.now 0 (length c.slots.now)

-- what it shows at minute t
abbrev pub ShownOn : Card → ℕ → Option Cents → Type 0
ShownOn c t r = Shows c.slots.now 0 (length c.slots.now) t r

-- the minute at which slot k begins
abbrev pub begins : Card → ℕ → ℕ
begins c k = (get_or c.slots.now k no_slot).minute.0

-- the cents of slot k
abbrev pub cents_of : Card → ℕ → Cents
cents_of c k = (get_or c.slots.now k no_slot).price
