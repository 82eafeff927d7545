-- A card that was filled from a file shows what the file says: a place's value, a leg's toll. Assumes nothing.
use Prim.Native.Nat.{ℕ, zero, suc, ◌+◌, ◌-◌, ◌*◌, ◌≤◌, ◌<◌}
use native.Mathlib.Omega.{arith}
use native.Mathlib.Decide.{dec_lt}
use mathlib.Core.Path.{◌≡◌, refl, sym, ◌∙◌, ap, subst}
use mathlib.Core.Bool.{Bool, true, false, cond}
use mathlib.Core.Logic.{inl, inr}
use mathlib.Core.Option.{Option, none, some}
use mathlib.Core.List.{List, [], ◌∷◌}
use borrow.Author.Tests.{le-leb}
use lib.ListN.{length, get_or}
use Rattle.bits.specs.Field.{field}
use Rattle.bits.proofs.Fields.{field_below}
use Rattle.leg.specs.declared.Band.{Band}
use Rattle.leg.specs.Ranges.{no_band}
use Rattle.leg.specs.Toll.{toll_of_first, toll_at}
use Rattle.leg.proofs.Laws.{toll-begun, toll-later}
use Rattle.plan.specs.Network.{Minute, Cents, Query}
use Rattle.plan.specs.Sheet.{Step, or_else, value, Steps}
use Rattle.sheet_file.specs.InPlace.{step_at, steps_at, place_at, count_at}
use Rattle.rule_b.specs.Rule.{InOrder}
use Rattle.network.specs.InFile.{leg_at}
use Rattle.leg.specs.Price.{price_of}
use Rattle.rule_b.specs.Held.{first_of}
use Rattle.rule_b.specs.Cursor.{Sorted}
use Rattle.rule_b.proofs.Walks.{first-none, first_some, none_before, steps-sorted}
use Rattle.network.proofs.InFile.{band-there}
use Rattle.card.specs.declared.Card.{Card}
use Rattle.card.specs.declared.Slot.{Slot}
use Rattle.card.specs.Card.{slot, never, Rising, Carded, Begun}
use Rattle.card.specs.One.{Ready, begins}
use Rattle.card.proofs.Filling.{slot-first}
use Rattle.rule_cards.specs.Cards.{HoldsSteps, HoldsTolls, StepAt, toll_shown}

-- ---- any card

-- the pairs of a file stand in order of their minutes
abbrev pub Ordered : List ℕ → ℕ → ℕ → ℕ → Type 0
Ordered s bit width count = (k : ℕ) → k + 1 < count → field s (bit + k * (12 + width)) 12 < field s (bit + (k + 1) * (12 + width)) 12

module _ (s : List ℕ) (bit width count size : ℕ) (slots : List Slot) (at : ℕ) (card : Carded s bit width count size slots at) where
  -- a slot is never later than never
  pub slot-within : (k : ℕ) → k < size → (slot slots at k).minute.0 ≤ never
  slot-within k h = close (dec_lt k count)
    where
      close : Dec (k < count) → (slot slots at k).minute.0 ≤ never
      close (yes l) = omega (arith, card.written.minute_is k l, field_below s (bit + k * (12 + width)) 12)
      close (no n) = omega (arith, card.rest k (omega arith) h)

  pub slots-rise : Ordered s bit width count → Rising slots at size
  slots-rise order k h = close (dec_lt (k + 1) count)
    where
      close : Dec (k + 1 < count) → (slot slots at k).minute.0 ≤ (slot slots at (k + 1)).minute.0
      close (yes l) = omega (arith, card.written.minute_is k (omega arith), card.written.minute_is (k + 1) l, order k l)
      close (no n) = omega (arith, slot-within k (omega arith), card.rest (k + 1) (omega arith) h)

  -- a slot that has begun is one of those that were filled
  pub begun-few : (t n : ℕ) → t < never → Begun slots at size t n → n ≤ count
  begun-few t n h b = close (dec_lt count n)
    where
      close : Dec (count < n) → n ≤ count
      close (no m) = omega arith
      close (yes l) = absurd (omega (arith, b.before count l, card.rest count (omega arith) (omega (arith, b.few))))

-- a card that was filled can be looked at
pub ready : (s : List ℕ) (bit width count : ℕ) (c : Card) → Carded s bit width count (length c.slots.now) c.slots.now 0
    → length c.slots.now ≤ 16 → Ordered s bit width count → Ready c
ready s bit width count c card small order =
    let size = length c.slots.now in
    record {
      near = omega arith;
      small = small;
      room = omega arith;
      rises = slots-rise s bit width count size c.slots.now 0 card order;
      within = slot-within s bit width count size c.slots.now 0 card;
    }

-- and each slot that comes begins before the next one
pub slots-apart : (s : List ℕ) (bit width count : ℕ) (c : Card) → Carded s bit width count (length c.slots.now) c.slots.now 0 → Ordered s bit width count
    → (k : ℕ) → k + 1 < length c.slots.now → begins c k < never → begins c k < begins c (k + 1)
slots-apart s bit width count c card order k h comes = close (dec_lt k count) (dec_lt (k + 1) count)
  where
    first : (n : ℕ) → (slot c.slots.now 0 n).minute.0 ≡ begins c n
    first n = ap (λ (x : Slot). x.minute.0) (slot-first c.slots.now n)

    close : Dec (k < count) → Dec (k + 1 < count) → begins c k < begins c (k + 1)
    close (no n) m = absurd (omega (arith, comes, first k, card.rest k (omega arith) (omega arith)))
    close (yes l) (yes m) = omega (arith, first k, first (k + 1), card.written.minute_is k l, card.written.minute_is (k + 1) m, order k m)
    close (yes l) (no n) = omega (arith, comes, first (k + 1), card.rest (k + 1) (omega arith) h)

-- ---- a place's steps

-- the cents of the last of n steps from a bit on
abbrev last_of : List ℕ → ℕ → ℕ → Option Cents
last_of s bit zero = none
last_of s bit (suc m) = some (field s (bit + m * 44 + 12) 32)

else-last : (s : List ℕ) (bit m : ℕ) (b : Bool) → b ≡ true → or_else (last_of s (bit + 44) m) (cond b (some (field s (bit + 12) 32)) none) ≡ last_of s bit (suc m)
else-last s bit zero true e = let same : bit + 12 ≡ bit + 0 * 44 + 12 = omega arith in ap (λ (p : ℕ). some (field s p 32)) same
else-last s bit (suc m) true e = let same : bit + 44 + m * 44 + 12 ≡ bit + suc m * 44 + 12 = omega arith in ap (λ (p : ℕ). some (field s p 32)) same
else-last s bit m false e = let bad : ◌≡◌ {A = ℕ} 0 1 = cc in absurd (omega arith)

sorted_tail : (q : Query) (x : Step) (xs : List Step) → Sorted q (x ∷ xs) → Sorted q xs
sorted_tail q x [] h = tt
sorted_tail q x (y ∷ ys) h = h.2

-- the value of steps of which just the first n have begun
value-begun : (q : Query) (s : List ℕ) (t n bit count : ℕ) → t < 4096 → n ≤ count → Sorted q (steps_at s bit count)
    → ((k : ℕ) → k < n → field s (bit + k * 44) 12 ≤ t) → (n < count → t < field s (bit + n * 44) 12)
    → value (steps_at s bit count) t ≡ last_of s bit n
unfolding steps_at
value-begun q s t zero bit count low few sorted before after = none_before q (steps_at s bit count) sorted t (at count refl)
  where
    at : (n : ℕ) → count ≡ n → t < first_of (steps_at s bit count)
    at zero e = omega (arith, first-none s bit count e)
    at (suc n) e =
        let same : bit + 0 * 44 ≡ bit = omega arith in
        let late = subst (λ (p : ℕ). t < field s p 12) same (after (omega arith)) in
        omega (arith, first_some s bit count (omega arith), late)
value-begun q s t (suc n) bit zero low few sorted before after = absurd (omega arith)
value-begun q s t (suc n) bit (suc count) low few sorted before after =
    let here : bit + 0 * 44 ≡ bit = omega arith in
    let due = subst (λ (p : ℕ). field s p 12 ≤ t) here (before 0 (omega arith)) in
    let rest = value-begun q s t n (bit + 44) count low (omega arith) (sorted_tail q (step_at s bit) (steps_at s (bit + 44) count) sorted)
    (λ k h. subst (λ (p : ℕ). field s p 12 ≤ t) (sym (shift k)) (before (suc k) (omega arith)))
    (λ h. subst (λ (p : ℕ). t < field s p 12) (sym (shift n)) (after (omega arith))) in
    ap (λ v. or_else v (cond (lib.Dec.leb (field s bit 12) t) (some (field s (bit + 12) 32)) none)) rest ∙ else-last s bit n _ (le-leb (field s bit 12) t due)
  where
    shift : (k : ℕ) → bit + 44 + k * 44 ≡ bit + suc k * 44
    shift k = omega arith

-- steps stand in order of their minutes
steps-ordered : (q : Query) (s : List ℕ) (bit count : ℕ) → Sorted q (steps_at s bit count) → Ordered s bit 32 count
unfolding steps_at
steps-ordered q s bit zero sorted k h = absurd (omega arith)
steps-ordered q s bit (suc zero) sorted k h = absurd (omega arith)
steps-ordered q s bit (suc (suc count)) sorted zero h =
    let a : bit + 0 * (12 + 32) ≡ bit = omega arith in
    let b : bit + (0 + 1) * (12 + 32) ≡ bit + 44 = omega arith in
    rw (a, b) sorted.0
steps-ordered q s bit (suc (suc count)) sorted (suc k) h =
    let a : bit + suc k * (12 + 32) ≡ bit + 44 + k * (12 + 32) = omega arith in
    let b : bit + (suc k + 1) * (12 + 32) ≡ bit + 44 + (k + 1) * (12 + 32) = omega arith in
    rw (a, b) (steps-ordered q s (bit + 44) (suc count) sorted.2 k (omega arith))

-- an earlier step has an earlier minute
ordered-up : (s : List ℕ) (bit width count : ℕ) → Ordered s bit width count → (i d : ℕ) → i + d < count
    → field s (bit + i * (12 + width)) 12 ≤ field s (bit + (i + d) * (12 + width)) 12
ordered-up s bit width count order i zero h = let e : i + 0 ≡ i = omega arith in rw e (omega arith)
ordered-up s bit width count order i (suc d) h =
    let e : i + suc d ≡ i + d + 1 = omega arith in
    rw e (omega (arith, ordered-up s bit width count order i d (omega arith), order (i + d) (omega arith)))

module _ (q : Query) (s : List ℕ) (place : ℕ) (steps : Steps q (place_at s place)) (c : Card)
    (card : Carded s (place + 12) 32 (count_at s place) (length c.slots.now) c.slots.now 0) where
  sorted : Sorted q (place_at s place)
  sorted = steps-sorted q (place_at s place) steps

  pub place-ordered : Ordered s (place + 12) 32 (count_at s place)
  place-ordered = steps-ordered q s (place + 12) (count_at s place) sorted

  -- THE CARD SHOWS THE PLACE'S VALUE
  pub holds-steps : HoldsSteps c (place_at s place)
  holds-steps t r low shows = close shows.count refl
    where
      n-few : shows.count ≤ count_at s place
      n-few = begun-few s (place + 12) 32 (count_at s place) (length c.slots.now) c.slots.now 0 card t shows.count low shows.begun

      value-is : value (place_at s place) t ≡ last_of s (place + 12) shows.count
      value-is =
          value-begun q s t shows.count (place + 12) (count_at s place) low n-few sorted
          (λ k h. omega (arith, shows.begun.before k h, card.written.minute_is k (omega (arith, n-few))))
          (λ h. omega (arith, shows.begun.after shows.count (omega arith) (omega (arith, card.few)), card.written.minute_is shows.count h))

      close : (n : ℕ) → shows.count ≡ n → value (place_at s place) t ≡ price_of r
      close zero e =
          value-is ∙ ap (last_of s (place + 12)) e ∙ ap (λ x. price_of x) (sym (shows.nothing e))
      close (suc m) e =
          let one : suc m ≡ m + 1 = omega arith in
          let same = card.written.price_is m (omega (arith, n-few, e)) in
          value-is ∙ ap (last_of s (place + 12)) e
          ∙ ap some (sym same) ∙ ap (λ x. price_of x) (sym (shows.last m (e ∙ one)))

-- which step of how many has a minute
step-number : (s : List ℕ) (bit count : ℕ) (m : Minute) → StepAt (steps_at s bit count) m → (k : ℕ) × (k < count) × (m ≡ field s (bit + k * 44) 12)
unfolding steps_at
step-number s bit zero m h = absurd h
step-number s bit (suc count) m (inl e) = (0, omega arith, let same : bit ≡ bit + 0 * 44 = omega arith in e ∙ ap (λ (p : ℕ). field s p 12) same)
step-number s bit (suc count) m (inr h) =
    let (k, low, e) = step-number s (bit + 44) count m h in
    (suc k, omega arith, let same : bit + 44 + k * 44 ≡ bit + suc k * 44 = omega arith in e ∙ ap (λ (p : ℕ). field s p 12) same)

pub step-slot : (s : List ℕ) (place : ℕ) (c : Card) → Carded s (place + 12) 32 (count_at s place) (length c.slots.now) c.slots.now 0
    → (m : Minute) → StepAt (place_at s place) m → (k : ℕ) × (k < count_at s place) × (m ≡ (slot c.slots.now 0 k).minute.0)
step-slot s place c card m h =
    let (k, low, e) = step-number s (place + 12) (count_at s place) m h in
    (k, low, e ∙ sym (card.written.minute_is k low))

-- ---- a leg's bands

tolls-later : (bands : List Band) (t n m : ℕ) → ((k : ℕ) → n ≤ k → k < n + m → t < (get_or bands k no_band).start.0)
    → toll_of_first (n + m) bands t ≡ toll_of_first n bands t
tolls-later bands t n zero late = let e : n + 0 ≡ n = omega arith in rw e
tolls-later bands t n (suc m) late =
    let e : n + suc m ≡ n + m + 1 = omega arith in
    ap (λ (k : ℕ). toll_of_first k bands t) e ∙ toll-later (n + m) bands t (late (n + m) (omega arith) (omega arith))
    ∙ tolls-later bands t n m (λ k l h. late k l (omega arith))

module _ (s : List ℕ) (at : ℕ) (order : InOrder (leg_at s at)) (c : Card)
    (card : Carded s (at + 28) 16 (leg_at s at).count (length c.slots.now) c.slots.now 0) where
  start_is : (k : ℕ) → k < (leg_at s at).count → (get_or (leg_at s at).bands k no_band).start.0 ≡ (slot c.slots.now 0 k).minute.0
  start_is k h =
      let e : at + 28 + 28 * k ≡ at + 28 + k * (12 + 16) = omega arith in
      ap (λ (b : Band). b.start.0) (band-there s (at + 28) (leg_at s at).count k h)
      ∙ ap (λ (p : ℕ). field s p 12) e ∙ sym (card.written.minute_is k h)

  toll-is : (k : ℕ) → k < (leg_at s at).count → (get_or (leg_at s at).bands k no_band).toll.0 ≡ (slot c.slots.now 0 k).price.0
  toll-is k h =
      let e : at + 28 + 28 * k + 12 ≡ at + 28 + k * (12 + 16) + 12 = omega arith in
      ap (λ (b : Band). b.toll.0) (band-there s (at + 28) (leg_at s at).count k h)
      ∙ ap (λ (p : ℕ). field s p 16) e ∙ sym (card.written.price_is k h)

  pub bands-ordered : Ordered s (at + 28) 16 (leg_at s at).count
  bands-ordered k h =
      omega (arith, order.rises k h, start_is k (omega arith), start_is (k + 1) h, card.written.minute_is k (omega arith), card.written.minute_is (k + 1) h)

  -- the toll where just the first n bands have begun
  toll-begun-at : (t n : ℕ) → n + 1 ≤ (leg_at s at).count → (slot c.slots.now 0 n).minute.0 ≤ t → ((k : ℕ) → n + 1 ≤ k → k < (leg_at s at).count → t < (slot c.slots.now 0 k).minute.0)
      → toll_at (leg_at s at) t ≡ (slot c.slots.now 0 n).price.0
  toll-begun-at t n few due late =
      let e : (leg_at s at).count ≡ n + 1 + ((leg_at s at).count - (n + 1)) = omega arith in
      ap (λ (k : ℕ). toll_of_first k (leg_at s at).bands t) e
      ∙ tolls-later (leg_at s at).bands t (n + 1) ((leg_at s at).count - (n + 1)) (λ k l h. omega (arith, late k l (omega (arith, e)), start_is k (omega (arith, e))))
      ∙ toll-begun n (leg_at s at).bands t (omega (arith, due, start_is n (omega arith)))
      ∙ toll-is n (omega arith)

  -- THE CARD SHOWS THE LEG'S TOLL
  pub holds-tolls : HoldsTolls c (leg_at s at)
  unfolding toll_of_first
  holds-tolls t r low shows = close shows.count refl
    where
      n-few : shows.count ≤ (leg_at s at).count
      n-few = begun-few s (at + 28) 16 (leg_at s at).count (length c.slots.now) c.slots.now 0 card t shows.count low shows.begun

      close : (n : ℕ) → shows.count ≡ n → toll_at (leg_at s at) t ≡ toll_shown r
      close zero e =
          let e' : (leg_at s at).count ≡ 0 + (leg_at s at).count = omega arith in
          ap (λ (k : ℕ). toll_of_first k (leg_at s at).bands t) e'
          ∙ tolls-later (leg_at s at).bands t 0 (leg_at s at).count (λ k l h. omega (arith, shows.begun.after k (omega (arith, e)) (omega (arith, card.few)), start_is k (omega arith)))
          ∙ ap (λ x. toll_shown x) (sym (shows.nothing e))
      close (suc m) e =
          let one : suc m ≡ m + 1 = omega arith in
          toll-begun-at t m (omega (arith, n-few, e)) (shows.begun.before m (omega (arith, e)))
          (λ k l h. shows.begun.after k (omega (arith, e)) (omega (arith, card.few)))
          ∙ ap (λ x. toll_shown x) (sym (shows.last m (e ∙ one)))

  -- where band k starts
  pub band-slot : (k : ℕ) → k < (leg_at s at).count → (get_or (leg_at s at).bands k no_band).start.0 ≡ (slot c.slots.now 0 k).minute.0
  band-slot k h = start_is k h
