-- RULE (b) NEED BE TESTED ONLY at the steps of the place that a leg leaves and where a band starts: of the two that came last before a departure
-- take the later one; since then only the value at the arrival has changed, and that only falls. Assumes nothing.
use Prim.Native.Nat.{ℕ, zero, suc, ◌+◌, ◌≤◌, ◌<◌}
use native.Mathlib.Omega.{arith}
use native.Mathlib.Decide.{dec_le}
use mathlib.Core.Path.{◌≡◌, refl, sym, ◌∙◌, ap, subst}
use mathlib.Core.Bool.{cond}
use mathlib.Core.Logic.{◌⊎◌, inl, inr}
use mathlib.Core.Option.{Option, none, some}
use mathlib.Core.List.{List, [], ◌∷◌}
use borrow.Author.Tests.{le-leb, lt-leb}
use lib.Dec.{leb}
use lib.ListN.{get_or}
use Rattle.leg.specs.declared.Band.{Band}
use Rattle.leg.specs.declared.Leg.{Leg}
use Rattle.leg.specs.Ranges.{no_band}
use Rattle.leg.specs.Toll.{toll_of_first, toll_at}
use Rattle.leg.proofs.Laws.{toll-begun, toll-later}
use Rattle.plan.specs.Network.{Minute, Cents, Query}
use Rattle.plan.specs.Sheet.{Step, or_else, value, Steps}
use Rattle.rule_b.specs.Rule.{RuleAt, RuleB}
use Rattle.rule_b.proofs.Enough.{rule-covers, covers-rule}
use Rattle.rule_cards.specs.Cards.{RuleIf, StepAt}

-- a place that has no value at a minute had none before
no-value-before : (ss : List Step) (u d : Minute) → u ≤ d → value ss d ≡ none → value ss u ≡ none
no-value-before [] u d h e = refl
no-value-before (x ∷ xs) u d h e = at (value xs d) refl (dec_le x.minute d) (λ f. no-value-before xs u d h f)
  where
    at : (v : Option Cents) → value xs d ≡ v → Dec (x.minute ≤ d) → (value xs d ≡ none → value xs u ≡ none) → value (x ∷ xs) u ≡ none
    at (some y) f l before =
        let z : value (x ∷ xs) d ≡ some y = ap (λ w. or_else w (cond (leb x.minute d) (some x.price) none)) f in
        let bad : ◌≡◌ {A = ℕ} 0 1 = cc in absurd (omega arith)
    at none f (yes l) before =
        let z : value (x ∷ xs) d ≡ some x.price = ap (λ w. or_else w (cond (leb x.minute d) (some x.price) none)) f ∙ ap (λ b. cond b (some x.price) none) (le-leb x.minute d l) in
        let bad : ◌≡◌ {A = ℕ} 0 1 = cc in absurd (omega arith)
    at none f (no n) before =
        ap (λ w. or_else w (cond (leb x.minute u) (some x.price) none)) (before f)
        ∙ ap (λ b. cond b (some x.price) none) (lt-leb x.minute u (omega arith))

-- the step since which a place has the value that it has
pub record Since (ss : List Step) (d : Minute) (x : Cents) : Type 0 where
  pub minute : Minute
  pub is_step : StepAt ss minute
  pub before : minute ≤ d
  pub same : (u : Minute) → minute ≤ u → u ≤ d → value ss u ≡ some x

some_same : (a b : Cents) → ◌≡◌ {A = Option Cents} (some a) (some b) → a ≡ b
some_same a b p = cc

since-step : (ss : List Step) (d : Minute) (x : Cents) → value ss d ≡ some x → Since ss d x
since-step [] d x e = let bad : ◌≡◌ {A = ℕ} 0 1 = cc in absurd (omega arith)
since-step (y ∷ ys) d x e = at (value ys d) refl (dec_le y.minute d) (λ f. since-step ys d x f)
  where
    last : (w : Option Cents) → value ys d ≡ w → value (y ∷ ys) d ≡ or_else w (cond (leb y.minute d) (some y.price) none)
    last w f = ap (λ w. or_else w (cond (leb y.minute d) (some y.price) none)) f

    at : (w : Option Cents) → value ys d ≡ w → Dec (y.minute ≤ d) → (value ys d ≡ some x → Since ys d x) → Since (y ∷ ys) d x
    at (some z) f l further =
        let eq : z ≡ x = some_same z x (sym (last (some z) f) ∙ e) in
        let r = further (f ∙ ap some eq) in
        record {
          minute = r.minute;
          is_step = inr r.is_step;
          before = r.before;
          same = λ u lo hi. ap (λ w. or_else w (cond (leb y.minute u) (some y.price) none)) (r.same u lo hi);
        }
    at none f (no n) further =
        let z : value (y ∷ ys) d ≡ none = last none f ∙ ap (λ b. cond b (some y.price) none) (lt-leb y.minute d (omega arith)) in
        let bad : ◌≡◌ {A = ℕ} 0 1 = cc in absurd (omega arith)
    at none f (yes l) further =
        let z : value (y ∷ ys) d ≡ some y.price = last none f ∙ ap (λ b. cond b (some y.price) none) (le-leb y.minute d l) in
        let eq : y.price ≡ x = some_same y.price x (sym z ∙ e) in
        record {
          minute = y.minute;
          is_step = inl refl;
          before = l;
          same = λ u lo hi.
              ap (λ w. or_else w (cond (leb y.minute u) (some y.price) none)) (no-value-before ys u d hi f)
              ∙ ap (λ b. cond b (some y.price) none) (le-leb y.minute u lo)
              ∙ ap some eq;
        }

-- the band since which a leg has the toll that it has; or none has started, and it is since minute 0
pub record SinceBand (count : ℕ) (bands : List Band) (d : Minute) : Type 0 where
  pub minute : Minute
  pub is_band : (minute ≡ 0) ⊎ ((k : ℕ) × (k < count) × (minute ≡ (get_or bands k no_band).start.0))
  pub before : minute ≤ d
  pub same : (u : Minute) → minute ≤ u → u ≤ d → toll_of_first count bands u ≡ toll_of_first count bands d

since-band : (count : ℕ) (bands : List Band) (d : Minute) → SinceBand count bands d
unfolding toll_of_first
since-band zero bands d = record { minute = 0; is_band = inl refl; before = omega arith; same = λ u lo hi. refl }
since-band (suc k) bands d = at (dec_le (get_or bands k no_band).start.0 d) (since-band k bands d)
  where
    one_more : k + 1 ≡ suc k
    one_more = omega arith

    at : Dec ((get_or bands k no_band).start.0 ≤ d) → SinceBand k bands d → SinceBand (suc k) bands d
    at (yes l) r = record {
      minute = (get_or bands k no_band).start.0;
      is_band = inr (k, omega arith, refl);
      before = l;
      same = λ u lo hi.
          subst (λ (n : ℕ). toll_of_first n bands u ≡ toll_of_first n bands d) one_more (toll-begun k bands u lo ∙ sym (toll-begun k bands d l));
    }
    at (no n) r = record {
      minute = r.minute;
      is_band = more r.is_band;
      before = r.before;
      same = λ u lo hi.
          subst (λ (n : ℕ). toll_of_first n bands u ≡ toll_of_first n bands d) one_more
          (toll-later k bands u (omega arith) ∙ r.same u lo hi ∙ sym (toll-later k bands d (omega arith)));
    }
      where
        more : (r.minute ≡ 0) ⊎ ((j : ℕ) × (j < k) × (r.minute ≡ (get_or bands j no_band).start.0))
            → (r.minute ≡ 0) ⊎ ((j : ℕ) × (j < suc k) × (r.minute ≡ (get_or bands j no_band).start.0))
        more (inl e) = inl e
        more (inr (j, low, e)) = inr (j, omega arith, e)

module _ (q : Query) (latest : Minute) (leg : Leg) (i j : List Step) (falls : Steps q j) where
  -- what holds at a departure since which neither the value nor the toll changed, holds now
  rule-since : (e d : Minute) (x : Cents) → e ≤ d → d + leg.time.0 ≤ latest → RuleIf latest leg i j e
      → value i e ≡ some x → value i d ≡ some x → toll_at leg e ≡ toll_at leg d → RuleAt leg i j d
  rule-since e d x l arrives rule then now toll =
      covers-rule q leg i j falls e (some x) (value j (e + leg.time.0)) (toll_at leg e) refl
      (rule-covers q leg i j falls e (some x) (value j (e + leg.time.0)) (toll_at leg e) then refl refl (rule (omega arith))) d l now (sym toll)

  pub enough : ((m : Minute) → StepAt i m → RuleIf latest leg i j m)
      → ((k : ℕ) → k < leg.count → RuleIf latest leg i j (get_or leg.bands k no_band).start.0)
      → RuleB latest leg i j
  enough steps bands d arrives x is = at (dec_le b.minute s.minute)
    where
      s : Since i d x
      s = since-step i d x is

      b : SinceBand leg.count leg.bands d
      b = since-band leg.count leg.bands d

      at-band : (b.minute ≡ 0) ⊎ ((k : ℕ) × (k < leg.count) × (b.minute ≡ (get_or leg.bands k no_band).start.0)) → s.minute < b.minute → RuleIf latest leg i j b.minute
      at-band (inl e) l = absurd (omega arith)
      at-band (inr (k, low, e)) l = subst (λ (m : Minute). RuleIf latest leg i j m) (sym e) (bands k low)

      at : Dec (b.minute ≤ s.minute) → Rattle.plan.specs.Sheet.AtMost (value j (d + leg.time.0)) (x + toll_at leg d)
      at (yes l) =
          rule-since s.minute d x s.before arrives (steps s.minute s.is_step) (s.same s.minute (omega arith) s.before) is
          (b.same s.minute l s.before) x is
      at (no n) =
          rule-since b.minute d x b.before arrives (at-band b.is_band (omega arith)) (s.same b.minute (omega arith) b.before) is
          (b.same b.minute (omega arith) b.before) x is
