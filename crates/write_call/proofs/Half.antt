-- Some legs are put and the rest is still to be read: what the loop over the legs goes by.
use Prim.Native.Nat.{ℕ, suc, ◌+◌, ◌-◌, ◌*◌, ◌≤◌, ◌<◌}
use mathlib.Core.Path.{◌≡◌, refl, sym, ap, ◌∙◌}
use mathlib.Core.List.{List, [], ◌∷◌, ◌++◌}
use native.Mathlib.Omega.{arith}
use native.Mathlib.Nat.{sub-zero}
use lib.ListN.{length}
use Rattle.bits.specs.Packed.{bits_of}
use Rattle.bits.proofs.Packing.{bits-append}
use Rattle.leg.specs.declared.Leg.{Leg}
use Rattle.source.specs.Source.{list_of}
use Rattle.network.specs.Reading.{found, next}
use Rattle.network.specs.Network.{edition1, leg, legs}
use Rattle.answer.specs.declared.Refusal.{Refusal}
use Rattle.std.specs.Prelude.{Err}
use Rattle.network.specs.Answers.{given}
use Rattle.network.specs.Fields.{leg_fields, legs_fields}
use Rattle.network.proofs.Inversion.{inner-step}
use Rattle.network.proofs.Legs.{legs-more, legs-done}
use Rattle.network.proofs.Near.{leg-near, list_near}
use Rattle.network.proofs.Fields.{legs-fields-more, leg-bits}
use Rattle.write_call.specs.Steps.{Adds, Small, LegsFit, LegsPut}
use Rattle.write_call.proofs.Adding.{adds_none, adds_then}
use Rattle.write_call.proofs.Judged.{leg_small, legs-further}

legs-step : (places n m : ℕ) (before : List Leg) (list : List ℕ) (at : ℕ) → n ≡ suc m
    → legs edition1 places n before (list_of list) at ≡ next (leg edition1 places (list_of list) at) (λ (l : Leg) (at₁ : ℕ). legs edition1 places m (before ++ (l ∷ [])) (list_of list) at₁)
unfolding legs
legs-step places n m before list at e = rw e

no-legs-fields : legs_fields edition1 [] ≡ []
unfolding legs_fields
no-legs-fields = refl

legs-bits-append : (ls ms : List Leg) → bits_of (legs_fields edition1 (ls ++ ms)) ≡ bits_of (legs_fields edition1 ls) + bits_of (legs_fields edition1 ms)
unfolding legs_fields
legs-bits-append [] ms = omega arith
legs-bits-append (l ∷ ls) ms =
    omega
    (arith, bits-append (leg_fields edition1 l) (legs_fields edition1 (ls ++ ms)), bits-append (leg_fields edition1 l) (legs_fields edition1 ls), legs-bits-append ls ms)

-- where there is room for all legs, there is room for the next
next_fits : (before more all : List Leg) (l : Leg) (room : ℕ) → all ≡ (before ++ (l ∷ [])) ++ more → 25 + bits_of (legs_fields edition1 all) ≤ 8 * room
    → 25 + bits_of (legs_fields edition1 before) + 28 + 28 * l.count ≤ 8 * room
next_fits before more all l room e h =
    let whole = legs-bits-append (before ++ (l ∷ [])) more in
    let front : bits_of (legs_fields edition1 (before ++ (l ∷ []))) ≡ bits_of (legs_fields edition1 before) + bits_of (leg_fields edition1 l) =
    rw (legs-fields-more edition1 before l) (bits-append (legs_fields edition1 before) (leg_fields edition1 l))
    in
    omega (arith, rw e at h, whole, front, leg-bits l)

-- k of the legs are put, up to bit `at`; the rest is read from `place` on
pub record Half (list : List ℕ) (places n k place at : ℕ) (first out : List ℕ) : Type 0 where
  pub before : List Leg
  pub rest : legs edition1 places n [] (list_of list) 3 ≡ legs edition1 places (n - k) before (list_of list) place
  pub near : place ≤ 3 + 252 * k
  pub low : at ≤ 25 + 252 * k
  pub reached : at ≡ 25 + bits_of (legs_fields edition1 before)
  pub added : Adds first out 25 (legs_fields edition1 before)

pub half-none : (list : List ℕ) (places n : ℕ) (out : List ℕ) → Half list places n 0 3 25 out out
half-none list places n out =
    record {
      before = [];
      rest = rw sub-zero;
      near = omega arith;
      low = omega arith;
      reached = rw no-legs-fields;
      added = rw no-legs-fields (adds_none out 25);
    }

-- this turn's leg: its numbers fit, and there is room for it
pub record Turn (at room : ℕ) (l : Leg) : Type 0 where
  pub small : Small l
  pub fits : at + 28 + 28 * l.count ≤ 8 * room

module _ (list : List ℕ) (places n k place at : ℕ) (first out : List ℕ) (fit : LegsFit list places n (length first)) (h : Half list places n k place at first out)
    (below : k < n) where
  -- the next leg is there, and so is room for it
  next-leg : (l : Leg) × (after : ℕ) × (leg edition1 places (list_of list) place ≡ found l after) × (at + 28 + 28 * l.count ≤ 8 * length first)
  next-leg =
      let src = list_of list in
      let m = n - (k + 1) in
      let left : n - k ≡ suc m = omega arith in
      let s =
      inner-step fit.all fit.end (leg edition1 places src place) (λ (l : Leg) (at₁ : ℕ). legs edition1 places m (h.before ++ (l ∷ [])) src at₁)
      (sym (h.rest ∙ legs-step places (n - k) m h.before list place left) ∙ fit.read)
      in
      let f = legs-further list places m (h.before ++ (s.0 ∷ [])) s.1 fit.all fit.end s.3 in
      let room = next_fits h.before f.more fit.all s.0 (length first) f.all_are fit.fit in
      (s.0, s.1, s.2, rw h.reached room)

  -- so it is not refused
  pub not-refused : (why : Refusal) → given (leg edition1 places (list_of list) place) ≡ Err why → ⊥
  not-refused why e = let s = next-leg in cc (ap given s.2)

  module _ (l : Leg) (after : ℕ) (e : leg edition1 places (list_of list) place ≡ found l after) where
    pub turn : Turn at (length first) l
    turn =
        let s = next-leg in
        let same : s.0 ≡ l = cc (s.2, e) in
        record {
          small = leg_small list places place l after fit.places_few e;
          fits = rw same at s.3;
        }

    pub half-more : (next : List ℕ) → Adds out next at (leg_fields edition1 l) → Half list places n (k + 1) after (at + (28 + 28 * l.count)) first next
    half-more next a =
        let b = h.before in
        let fields = legs-fields-more edition1 b l in
        record {
          before = b ++ (l ∷ []);
          rest = h.rest ∙ legs-more edition1 places (list_of list) (n - k) (n - (k + 1)) place b (omega arith) l after e;
          near = omega (arith, h.near, (leg-near (list_of list) (list_near list) places place l after e).0);
          low = omega (arith, h.low, (leg-near (list_of list) (list_near list) places place l after e).1);
          reached = rw (fields, bits-append) (omega (arith, h.reached, leg-bits l));
          added = rw fields (adds_then (legs_fields edition1 b) (leg_fields edition1 l) h.added (rw (← h.reached) a));
        }

pub half-all : (list : List ℕ) (places n k place at : ℕ) (first out : List ℕ) → Half list places n k place at first out → n ≤ k → LegsPut list places n first out
half-all list places n k place at first out h done all end e =
    let none : n - k ≡ 0 = omega arith in
    let same : h.before ≡ all = cc (h.rest ∙ legs-done edition1 places (list_of list) (n - k) place h.before none) in
    rw (← same) h.added
