-- One leg by cards: the rule at the steps and the band starts on the cards is rule (b). Assumes nothing.
use Prim.Native.Nat.{ℕ, ◌+◌, ◌≤◌, ◌<◌}
use native.Mathlib.Omega.{arith}
use mathlib.Core.Path.{◌≡◌, sym, ◌∙◌, ap, subst}
use mathlib.Core.Bool.{Bool, true, false}
use mathlib.Core.List.{List}
use lib.ListN.{length, get_or}
use Rattle.bits.specs.Field.{field}
use Rattle.plan.specs.Sheet.{Step}
use Rattle.sheet_file.specs.InPlace.{count_at}
use Rattle.rule_b.specs.Rule.{Is, RuleB, InOrder}
use Rattle.network.specs.InFile.{leg_at}
use Rattle.leg.specs.Ranges.{no_band}
use Rattle.card.specs.declared.Card.{Card}
use Rattle.card.specs.declared.OwnedCard.{OwnedCard}
use Rattle.card.specs.declared.Slot.{Slot}
use Rattle.card.specs.Card.{Blank, Written, Kept, Carded}
use Rattle.card.specs.One.{begins}
use Rattle.card.proofs.Filling.{carded, slot-first}
use Rattle.rule_cards.specs.declared.leg_cards.LegCards.{LegCards}
use Rattle.rule_cards.specs.declared.place.Place.{Place}
use Rattle.sheet_file.specs.Window.{of_window}
use Rattle.rule_b.specs.Cursor.{steps_of}
use Rattle.rule_cards.specs.Fit.{Slots}
use Rattle.rule_cards.specs.Cards.{CardsOf, RuleIf, RuleAtAll, AllTested, HoldsSteps, Joins}
use Rattle.rule_cards.proofs.Enough.{enough}
use Rattle.rule_cards.proofs.Held.{ready, slots-apart, place-ordered, holds-steps, step-slot, bands-ordered, holds-tolls, band-slot}

-- the leg's bands on a card of their own
pub new-card : (s : List ℕ) (bit count bands : ℕ) (old : List Slot) (new : OwnedCard 8) (c : Card) → count ≡ bands → bands ≤ 8 → Blank old 0 8
    → Written s bit 16 count new.slots 0 → Kept old new.slots 0 count
    → c.slots.now ≡ new.slots → length c.slots.now ≡ 8 → Carded s bit 16 bands (length c.slots.now) c.slots.now 0
new-card s bit count bands old new c e few blank written kept same size =
    let whole = carded s bit 16 count 8 old new.slots 0 (omega arith) blank written kept in
    rw (sym e, size, same) whole

pub bands-ready : (net : List ℕ) (at : ℕ) → InOrder (leg_at net at) → (c : Card) → Carded net (at + 28) 16 (leg_at net at).count (length c.slots.now) c.slots.now 0
    → length c.slots.now ≡ 8 → Slots c 8
bands-ready net at order c card long = record {
  ready = ready net (at + 28) 16 (leg_at net at).count c card (omega arith) (bands-ordered net at order c card);
  size_is = long;
  apart = λ k h comes. slots-apart net (at + 28) 16 (leg_at net at).count c card (bands-ordered net at order c card) k (omega (arith, long)) comes;
}

module _ (net : List ℕ) (at : ℕ) (order : InOrder (leg_at net at)) (c : LegCards) (steps bands : ℕ) (i j : List Step)
    (h : Joins c.from c.to steps i j) (few : (leg_at net at).count ≤ bands) (time_is : c.time.0 ≡ field net (at + 12) 12)
    (card : Carded net (at + 28) 16 (leg_at net at).count (length c.bands.slots.now) c.bands.slots.now 0) where
  cards-of : CardsOf c i j (leg_at net at)
  cards-of = record {
    i_held = h.i_held;
    j_held = h.j_held;
    leg_held = holds-tolls net at order c.bands card;
    time_is = sym time_is;
  }

  band-begins : (k : ℕ) → k < (leg_at net at).count → begins c.bands k ≡ (get_or (leg_at net at).bands k no_band).start.0
  band-begins k low = sym (band-slot net at order c.bands card k low ∙ ap (λ (x : Slot). x.minute.0) (slot-first c.bands.slots.now k))

  all-tested : (b : Bool) → Is b (RuleAtAll c.from c.bands c.latest.0 steps bands i j (leg_at net at)) → Is b (RuleB c.latest.0 (leg_at net at) i j)
  all-tested true t =
      enough h.window c.latest.0 (leg_at net at) i j h.falls
      (λ m is. let (k, low, e) = h.all m is in subst (λ (n : ℕ). RuleIf c.latest.0 (leg_at net at) i j n) (sym e) (t.at_steps k low))
      (λ k low. subst (λ (n : ℕ). RuleIf c.latest.0 (leg_at net at) i j n) (band-begins k low) (t.at_bands k (omega (arith, few))))
  all-tested false t =
      λ rule. t (record { at_steps = λ k l d. rule (begins c.from k) d; at_bands = λ k l d. rule (begins c.bands k) d })

  pub leg-tested : (b : Bool) → AllTested c steps bands b → Is b (RuleB c.latest.0 (leg_at net at) i j)
  leg-tested b t = all-tested b (t i j (leg_at net at) cards-of)

-- a place's steps on its card
module _ (p : Place) (few : count_at p.steps.sheet.now p.steps.bit ≤ 16) where
  pub on-card : Carded p.steps.sheet.now (p.steps.bit + 12) 32 (count_at p.steps.sheet.now p.steps.bit) (length p.card.slots.now) p.card.slots.now 0
  on-card =
      subst (λ (n : ℕ). Carded p.steps.sheet.now (p.steps.bit + 12) 32 (count_at p.steps.sheet.now p.steps.bit) n p.card.slots.now 0) (sym p.laid.room) (p.laid.laid few)

  pub place-ready : Slots p.card 16
  place-ready = record {
    ready = ready p.steps.sheet.now (p.steps.bit + 12) 32 (count_at p.steps.sheet.now p.steps.bit) p.card on-card (omega (arith, p.laid.room))
        (place-ordered (of_window p.steps.window) p.steps.sheet.now p.steps.bit p.steps.asked.steps p.card on-card);
    size_is = p.laid.room;
    apart = λ k h comes.
        slots-apart p.steps.sheet.now (p.steps.bit + 12) 32 (count_at p.steps.sheet.now p.steps.bit) p.card on-card
        (place-ordered (of_window p.steps.window) p.steps.sheet.now p.steps.bit p.steps.asked.steps p.card on-card) k (omega (arith, p.laid.room)) comes;
  }

  holds : HoldsSteps p.card (steps_of p.steps)
  holds = holds-steps (of_window p.steps.window) p.steps.sheet.now p.steps.bit p.steps.asked.steps p.card on-card

-- and those of two places
pub joined : (from to : Place) → count_at from.steps.sheet.now from.steps.bit ≤ 16 → count_at to.steps.sheet.now to.steps.bit ≤ 16
    → Joins from.card to.card 16 (steps_of from.steps) (steps_of to.steps)
joined from to i-few j-few =
    let s = from.steps.sheet.now in
    let i-card = on-card from i-few in
    record {
      i_held = holds from i-few;
      j_held = holds to j-few;
      all = λ m is. let (k, low, at) = step-slot s from.steps.bit from.card i-card m is in (k, omega (arith, i-few), at ∙ ap (λ (x : Slot). x.minute.0) (slot-first from.card.slots.now k));
      window = of_window to.steps.window;
      falls = to.steps.asked.steps;
    }
