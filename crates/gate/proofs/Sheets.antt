-- From the steps where they stand in the file to the sheet's values and the two rules. Assumes nothing.
use Prim.Native.Nat.{ℕ, ◌+◌, ◌≤◌, ◌<◌}
use native.Mathlib.Omega.{arith}
use native.Mathlib.Decide.{dec_lt}
use mathlib.Core.Path.{◌≡◌, sym, ◌∙◌, ap, subst}
use mathlib.Core.Bool.{Bool, true, false}
use mathlib.Core.Option.{Option, some}
use mathlib.Core.List.{List, [], ◌∷◌}
use borrow.Author.Tests.{eqb-true, eqb-false}
use lib.Dec.{eqb}
use lib.ListN.{length, get_or}
use Rattle.std.specs.Bool.{MatchBool}
use Rattle.std.specs.List.{range_with_len, AllWithin, HoldsAt}
use Rattle.std.proofs.lemmas.List.FromFn.{length-range_with_len, get_or-range_with_len}
use Rattle.plan.specs.Network.{Minute, Cents, Query, Leaves}
use Rattle.plan.specs.Sheet.{Step, value, value_at, Steps, AtMost, Obeys, TightFor}
use Rattle.sheet_file.specs.InPlace.{place_at, Indexed}
use Rattle.sheet_file.specs.declared.sheet_place.SheetPlace.{SheetPlace}
use Rattle.sheet_file.specs.declared.sound_sheet.SoundSheet.{SoundSheet}
use Rattle.rule_b.specs.Rule.{Is}
use Rattle.rule_b.specs.Cursor.{steps_of}
use Rattle.rule_b.proofs.Walks.{none_before}
use Rattle.chart.specs.declared.tariff.Tariff.{Tariff}
use Rattle.chart.specs.Net.{net_in, theory_in, leg_in}
use Rattle.chart.proofs.Net.{read, tariff-leg-sound}
use Rattle.gate.specs.Parts.{Asked, steps_in, Ruled}

-- ---- the tests of one value

pub value-is : (x y : Cents) (v : Option Cents) → v ≡ some x → (b : Bool) → b ≡ eqb x y → Is b (v ≡ some y)
value-is x y v e true t = e ∙ ap some (eqb-true x y (sym t))
value-is x y v e false t = λ g. eqb-false x y (sym t) (cc)

-- ---- a place of the sheet

-- the steps of a place that was handed on, under the place's number
pub place-is : (p : SheetPlace) (r : SoundSheet) (n m : ℕ) → p.sheet ≡ r.sheet → p.bit ≡ get_or r.index n 0 → n ≡ m → steps_of p ≡ steps_in r m
place-is p r n m e b i = ap (λ x. place_at x.now p.bit) e ∙ ap (λ (x : ℕ). place_at r.sheet.now x) (b ∙ ap (λ (x : ℕ). get_or r.index x 0) i)

-- ---- what is asked of each leg in turn, of all of them

pub all-decide : (P : ℕ → Type 0) (n : ℕ) (r : Bool)
    → MatchBool r (AllWithin P (range_with_len 0 n) 0 (length (range_with_len 0 n)))
    ((k : ℕ) × (k < length (range_with_len 0 n)) × HoldsAt (λ k. P k → ⊥) (range_with_len 0 n) k)
    → Is r ((k : ℕ) → k < n → P k)
all-decide P n true h = λ k low.
    let below : k < length (range_with_len 0 n) = omega (arith, length-range_with_len 0 n) in
    let is : get_or (range_with_len 0 n) k 0 ≡ k = omega (arith, get_or-range_with_len 0 n k 0 low) in
    subst (λ (x : ℕ). P x) is (h k 0 (omega arith) below)
all-decide P n false (k, low, fails) = λ all.
    let below : k < n = omega (arith, length-range_with_len 0 n) in
    let is : k ≡ get_or (range_with_len 0 n) k 0 = omega (arith, get_or-range_with_len 0 n k 0 below) in
    fails 0 (subst (λ (x : ℕ). P x) is (all k below))

-- ---- both rules, of the sheet

early-value : (q : Query) (ss : List Step) (d : Minute) (x : Cents) → Steps q ss → value ss d ≡ some x → q.earliest ≤ d
early-value q [] d x h e = let z : ◌≡◌ {A = ℕ} 0 1 = cc in absurd (omega arith)
early-value q (y ∷ ys) d x h e = at (dec_lt d q.earliest)
  where
    at : Dec (d < q.earliest) → q.earliest ≤ d
    at (no n) = omega arith
    at (yes k) =
        let nothing = none_before q (y ∷ ys) h.1 d (omega (arith, h.0)) in
        let z : ◌≡◌ {A = ℕ} 0 1 = cc in
        absurd (omega arith)

module _ (t : Tariff) (q : Query) (sheet : List (List Step)) (r : SoundSheet) (asked : Asked t.net.now q)
    (i : Indexed r.sheet.now (net_in t.net.now).places r.index sheet) (first : r.window.earliest.0 ≡ q.earliest) (last : r.window.latest.0 ≡ q.latest)
    (steps : (p : ℕ) → p < (net_in t.net.now).places → Steps q (get_or sheet p [])) where
  at_place : (p : ℕ) → p < (net_in t.net.now).places → (m : Minute) → value_at sheet p m ≡ value (steps_in r p) m
  at_place p low m = ap (λ (ss : List Step). value ss m) (i.steps p low)

  pub ruled-obeys : Ruled t.net.now r t.size.legs q.start → Obeys (theory_in t.net.now) q (value_at sheet)
  ruled-obeys rules = record {
    a = at_place q.start asked.known.start q.earliest ∙ ap (λ (m : Minute). value (steps_in r q.start) m) (sym first) ∙ rules.a;
    b = λ l d x go e.
        let low : l < t.size.legs = omega (arith, go.known, (read t).legs) in
        let sound = tariff-leg-sound t l low in
        rw (at_place (leg_in t.net.now l).to sound.to_below (d + (leg_in t.net.now l).time.0))
        (rules.b l low d (omega (arith, last, go.late)) x (sym (at_place (leg_in t.net.now l).from sound.from_below d) ∙ e));
  }

  pub obeys-ruled : Obeys (theory_in t.net.now) q (value_at sheet) → Ruled t.net.now r t.size.legs q.start
  obeys-ruled o = record {
    a = ap (λ (m : Minute). value (steps_in r q.start) m) first ∙ sym (at_place q.start asked.known.start q.earliest) ∙ o.a;
    b = λ l low d arrives x e.
        let sound = tariff-leg-sound t l low in
        let here : value_at sheet (leg_in t.net.now l).from d ≡ some x = at_place (leg_in t.net.now l).from sound.from_below d ∙ e in
        let go : Leaves (theory_in t.net.now) q l d =
        record {
          known = omega (arith, (read t).legs);
          goes = tt;
          early = early-value q (get_or sheet (leg_in t.net.now l).from []) d x (steps (leg_in t.net.now l).from sound.from_below) here;
          late = omega (arith, last, arrives);
        } in
        subst (λ v. AtMost v (x + (theory_in t.net.now).toll l d)) (at_place (leg_in t.net.now l).to sound.to_below (d + (leg_in t.net.now l).time.0))
        (o.b l d x go here);
  }

  -- the value that the tightness goes by
  pub tight-same : (cost : Option Cents) → (value (steps_in r q.end) r.window.latest.0 ≡ cost → TightFor q (value_at sheet) cost)
      × (TightFor q (value_at sheet) cost → value (steps_in r q.end) r.window.latest.0 ≡ cost)
  tight-same cost =
      let same = at_place q.end asked.known.end q.latest ∙ ap (λ (m : Minute). value (steps_in r q.end) m) (sym last) in
      (λ e. same ∙ e, λ e. sym same ∙ e)
