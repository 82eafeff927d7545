-- That a place's steps are on its card is one fact: it has one proof at most, so that a type can keep it.
use Rattle.std.specs.Prelude.{ℕ, ◌≡◌, List}
use Rattle.std.specs.Coded.{le_prop}
use Rattle.std.proofs.Props.{props}
use Rattle.card.specs.declared.Card.{Card}
use Rattle.card.specs.declared.OwnedCard.{OwnedCard}
use Rattle.card.specs.declared.Slot.{Slot}
use Rattle.card.specs.Card.{Carded}
use Rattle.rule_cards.specs.Laid.{Laid, OnCard, LaidOut}

same_once : (a b : ℕ) → IsProp (a ≡ b)
same_once a b = Prim.hlevel props

carded_once : (s : List ℕ) (bit width count size : ℕ) (slots : List Slot) (at : ℕ) → IsProp (Carded s bit width count size slots at)
carded_once s bit width count size slots at = λ a b. λ i. record {
  written = record {
    minute_is = λ k h. same_once _ _ (a.written.minute_is k h) (b.written.minute_is k h) i;
    price_is = λ k h. same_once _ _ (a.written.price_is k h) (b.written.price_is k h) i;
  };
  few = le_prop a.few b.few i;
  rest = λ k h l. same_once _ _ (a.rest k h l) (b.rest k h l) i;
}

once : (s : List ℕ) (place : ℕ) (slots : List Slot) → IsProp (Laid s place slots)
once s place slots = λ a b. λ i. λ few. carded_once s _ 32 _ 16 slots 0 (a few) (b few) i

pub on_card_once : (s : List ℕ) (place : ℕ) (card : Card) → IsProp (OnCard s place card)
on_card_once s place card = λ a b. λ i. record {
  room = same_once _ _ a.room b.room i;
  laid = once s place card.slots.now a.laid b.laid i;
}

pub laid_once : (s : List ℕ) (places : ℕ) (index : List ℕ) (cards : List (OwnedCard 16)) → IsProp (LaidOut s places index cards)
laid_once s places index cards = λ a b. λ i. λ p low. once s _ _ (a p low) (b p low) i
