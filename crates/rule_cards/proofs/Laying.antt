-- Cards are laid place by place: those that were laid stay, and those ahead are blank. Assumes nothing.
use Prim.Native.Nat.{ℕ, ◌≤◌, ◌<◌}
use mathlib.Core.Path.{◌≡◌, sym, subst}
use mathlib.Core.List.{List}
use lib.ListN.{length, replicate, get_or-replicate}
use Rattle.card.specs.declared.OwnedCard.{OwnedCard}
use Rattle.card.specs.Card.{Blank}
use Rattle.rule_cards.specs.Laid.{LaidOut, AllBlank, card_of}

-- the cards of the first k places are laid
pub record Laying (s index : List ℕ) (cards : List (OwnedCard 16)) (k : ℕ) : Type 0 where
  pub room : length cards ≡ 64
  pub each : LaidOut s k index cards
  pub ahead : (p : ℕ) → k ≤ p → p < 64 → Blank (card_of cards p).slots 0 16

-- one blank card for all places
pub all_blank : (card : OwnedCard 16) → Blank card.slots 0 16 → AllBlank (replicate 64 card)
all_blank card blank = λ p low. subst (λ (c : OwnedCard 16). Blank c.slots 0 16) (sym (get_or-replicate 64 p card _ low)) blank
