-- Cards that a leg can be judged by.
use Rattle.std.specs.Prelude.{ℕ, ◌+◌, ◌≤◌, ◌<◌, ◌≡◌, length}
use Rattle.plan.specs.Network.{Minute}
use Rattle.card.specs.declared.Card.{Card}
use Rattle.card.specs.Card.{never}
use Rattle.card.specs.One.{Ready, begins}

-- a card of so many slots can be looked at, and each slot that comes begins before the next one
pub record Slots (c : Card) (size : ℕ) : Type 0 where
  pub ready : Ready c
  pub size_is : length c.slots.now ≡ size
  pub apart : (k : ℕ) → k + 1 < size → begins c k < never → begins c k < begins c (k + 1)

-- the cards of both places and of the leg's bands can be looked at, and the driving time and the latest minute are minutes
pub record Fit (from to bands : Card) (time latest : Minute) : Type 0 where
  pub from_ready : Slots from 16
  pub to_ready : Slots to 16
  pub bands_ready : Slots bands 8
  pub time_within : time ≤ 2879
  pub latest_within : latest ≤ 2879
