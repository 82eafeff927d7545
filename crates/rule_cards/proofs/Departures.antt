-- The rule at one departure: what the cards show is what the rule compares. Assumes nothing.
use Prim.Native.Nat.{ℕ, ◌+◌, ◌≤◌, ◌<◌}
use native.Mathlib.Omega.{arith}
use mathlib.Core.Path.{◌≡◌, sym, subst}
use mathlib.Core.Bool.{Bool, true, false}
use mathlib.Core.Option.{Option, none, some}
use mathlib.Core.List.{List}
use native.Mathlib.Decide.{dec_lt}
use Rattle.leg.specs.declared.Leg.{Leg}
use Rattle.leg.specs.Toll.{toll_at}
use Rattle.plan.specs.Network.{Minute, Cents}
use Rattle.plan.specs.Sheet.{Step, value, AtMost}
use Rattle.rule_b.specs.Rule.{Is, RuleAt}
use Rattle.rule_b.specs.Cursor.{Covers}
use Rattle.rule_cards.specs.Cards.{RuleIf}

-- what covers the values covers those that the cards show
pub covers-same : (b : Bool) (v : Option Cents) (w u : Option Cents) (toll : Cents) → w ≡ u → Is b (Covers v u toll) → Is b (Covers v w toll)
covers-same b v w u toll e h = subst (λ (o : Option Cents). Is b (Covers v o toll)) (sym e) h

-- the rule at a departure says no more than this
module _ (leg : Leg) (i j : List Step) (d arrival : Minute) (time : ℕ) (v : Option Cents) (toll : Cents)
    (time_is : leg.time.0 ≡ time) (arrival-is : arrival ≡ d + time) (here : value i d ≡ v) (toll-is : toll_at leg d ≡ toll) where
  there-is : arrival ≡ d + leg.time.0
  there-is = omega (arith, time_is, arrival-is)

  covers-rule-at : (v : Option Cents) → value i d ≡ v → Covers v (value j arrival) toll → RuleAt leg i j d
  covers-rule-at none e c x is = let z : ◌≡◌ {A = ℕ} 0 1 = cc in absurd (omega arith)
  covers-rule-at (some y) e c x is =
      let same : y ≡ x = cc in
      subst (λ (t : Minute). AtMost (value j t) (x + toll_at leg d)) there-is
      (subst (λ (c : Cents). AtMost (value j arrival) (x + c)) (sym toll-is) (subst (λ (y : Cents). AtMost (value j arrival) (y + toll)) same c))

  rule-covers-at : (v : Option Cents) → value i d ≡ v → RuleAt leg i j d → Covers v (value j arrival) toll
  rule-covers-at none e r = tt
  rule-covers-at (some y) e r =
      subst (λ (t : Minute). AtMost (value j t) (y + toll)) (sym there-is) (subst (λ (c : Cents). AtMost (value j (d + leg.time.0)) (y + c)) toll-is (r y e))

  pub rule-tested : (latest : Minute) (b : Bool) → d + time ≤ latest → Is b (Covers v (value j arrival) toll) → Is b (RuleIf latest leg i j d)
  rule-tested latest true h c = λ late. covers-rule-at v here c
  rule-tested latest false h c = λ r. c (rule-covers-at v here (r (omega (arith, time_is))))

-- too late a departure is not asked about
pub rule-late : (latest : Minute) (leg : Leg) (i j : List Step) (d time : Minute) → leg.time.0 ≡ time → latest < d + time → RuleIf latest leg i j d
rule-late latest leg i j d time e late = λ h. absurd (omega arith)

-- what holds of the first k and of k, holds of the first k + 1
pub one_more : (P : ℕ → Type 0) (k : ℕ) → ((n : ℕ) → n < k → P n) → P k → (n : ℕ) → n < k + 1 → P n
one_more P k old new n h = at (dec_lt n k)
  where
    at : Dec (n < k) → P n
    at (yes low) = old n low
    at (no high) = let same : n ≡ k = omega arith in subst P (sym same) new

-- where one half holds, the other decides
pub half-decides : (r : Bool) (P half : Type 0) → (half → P) → (P → half) → Is r half → Is r P
half-decides true P half make take h = make h
half-decides false P half make take fails = λ p. fails (take p)
