-- The slots of a card that come: each is what the card shows where it begins, and those that arrive in time are enough. Assumes nothing.
use Prim.Native.Nat.{ℕ, zero, suc, ◌+◌, ◌-◌, ◌≤◌, ◌<◌}
use native.Mathlib.Omega.{arith}
use native.Mathlib.Decide.{dec_lt}
use mathlib.Core.Path.{◌≡◌, ap, subst}
use mathlib.Core.List.{List}
use lib.Seq.{get_or-take}
use lib.ListN.{length, take, get_or}
use Rattle.std.proofs.lemmas.List.{length-take}
use Rattle.std.specs.Prelude.{Some}
use Rattle.leg.specs.declared.Leg.{Leg}
use Rattle.plan.specs.Network.{Minute}
use Rattle.plan.specs.Sheet.{Step}
use Rattle.card.specs.declared.Card.{Card}
use Rattle.card.specs.declared.Slot.{Slot}
use Rattle.card.specs.Card.{no_slot, slot, never, Begun}
use Rattle.card.specs.One.{ShownOn, begins, cents_of}
use Rattle.card.proofs.Filling.{slot-first}
use Rattle.rule_cards.specs.Cards.{RuleIf, RuleOn}
use Rattle.rule_cards.specs.Fit.{Slots}
use Rattle.rule_cards.proofs.Departures.{rule-late}

-- where slot k begins
pub begins-at : (c : Card) (k : ℕ) → (slot c.slots.now 0 k).minute.0 ≡ begins c k
begins-at c k = ap (λ (x : Slot). x.minute.0) (slot-first c.slots.now k)

-- slot k of the first n
pub slot-passed : (c : Card) (n k : ℕ) → k < length (take n c.slots.now) → get_or (take n c.slots.now) k no_slot ≡ get_or c.slots.now k no_slot
slot-passed c n k h = get_or-take n c.slots.now k no_slot (omega (arith, h, length-take n c.slots.now))

module _ (c : Card) (size : ℕ) (h : Slots c size) where
  -- a later slot begins no earlier
  up : (k d : ℕ) → k + d < size → (slot c.slots.now 0 k).minute.0 ≤ (slot c.slots.now 0 (k + d)).minute.0
  up k zero l = let e : k + 0 ≡ k = omega arith in rw e (omega arith)
  up k (suc d) l =
      let e : k + suc d ≡ k + d + 1 = omega arith in
      rw e (omega (arith, up k d (omega arith), h.ready.rises (k + d) (omega (arith, h.size_is))))

  rises-to : (k j : ℕ) → k ≤ j → j < size → (slot c.slots.now 0 k).minute.0 ≤ (slot c.slots.now 0 j).minute.0
  rises-to k j l m =
      let e : k + (j - k) ≡ j = omega arith in
      subst (λ (n : ℕ). (slot c.slots.now 0 k).minute.0 ≤ (slot c.slots.now 0 n).minute.0) e (up k (j - k) (omega arith))

  pub shows-own : (k : ℕ) → k < size → begins c k < never → ShownOn c (begins c k) (Some (cents_of c k))
  shows-own k low comes = record {
    count = k + 1;
    begun = record {
      few = omega (arith, h.size_is);
      before = λ j l. omega (arith, begins-at c k, rises-to j k (omega arith) low);
      after = λ j l m.
          omega (arith, begins-at c (k + 1), h.apart k (omega (arith, h.size_is)) comes, rises-to (k + 1) j l (omega (arith, h.size_is)));
    };
    nothing = λ e. absurd (omega (arith, e));
    last = λ j e. let same : k ≡ 0 + j = omega (arith, e) in ap (λ (i : ℕ). Some (cents_of c i)) same;
  }

-- the slots that have begun at the last departure that arrives in time are enough
module _ (latest : Minute) (leg : Leg) (i j : List Step) (time last : Minute) (time_is : leg.time.0 ≡ time) (last-is : last + time ≡ latest)
    (c : Card) (size n : ℕ) (size-is : length c.slots.now ≡ size) (begun : Begun c.slots.now 0 (length c.slots.now) last n) where
  pub rule-begun : RuleOn latest c n i j leg → RuleOn latest c size i j leg
  rule-begun rule k low = at (dec_lt k n)
    where
      at : Dec (k < n) → RuleIf latest leg i j (begins c k)
      at (yes l) = rule k l
      at (no m) =
          rule-late latest leg i j (begins c k) time time_is
          (omega (arith, last-is, begins-at c k, begun.after k (omega arith) (omega (arith, size-is))))
