-- RULE (b) NEED BE TESTED ONLY at the steps of the place that a leg leaves and where a band starts: up to the next of these only the value
-- at the arrival changes, and that only falls. Assumes nothing.
use Prim.Native.Nat.{ℕ, ◌+◌, ◌≤◌, ◌<◌}
use native.Mathlib.Omega.{arith}
use native.Mathlib.Decide.{dec_lt}
use mathlib.Core.Path.{◌≡◌, ◌∙◌, subst}
use mathlib.Core.Option.{Option, none, some}
use mathlib.Core.List.{List}
use Rattle.leg.specs.declared.Leg.{Leg}
use Rattle.leg.specs.Toll.{toll_at}
use Rattle.plan.specs.Network.{Minute, Cents, Query}
use Rattle.plan.specs.Sheet.{Step, value, Steps, AtMost}
use Rattle.plan.proofs.Values.{at-most-value, at-most-more}
use Rattle.plan.proofs.Sheets.{steps-fall}
use Rattle.rule_b.specs.Rule.{RuleAt}
use Rattle.rule_b.specs.Cursor.{Covers}

-- the rule holds at each departure before a minute
abbrev pub RuleBefore : Minute → Leg → List Step → List Step → Minute → Type 0
RuleBefore latest leg from to d = (u : Minute) → u < d → u + leg.time.0 ≤ latest → RuleAt leg from to u

module _ (q : Query) (leg : Leg) (from to : List Step) (falls : Steps q to) (d : Minute) where
  covers_at : (v : Option Cents) (toll : Cents) → value from d ≡ v → toll_at leg d ≡ toll → RuleAt leg from to d
      → Covers v (value to (d + leg.time.0)) toll
  covers_at none toll e h r = tt
  covers_at (some x) toll e h r = subst (λ (y : Cents). AtMost (value to (d + leg.time.0)) (x + y)) h (r x e)

  -- what the test says at the departure d
  pub rule-covers : (v w : Option Cents) (toll : Cents) → value from d ≡ v → value to (d + leg.time.0) ≡ w → toll_at leg d ≡ toll
      → RuleAt leg from to d → Covers v w toll
  rule-covers v w toll e f h r = subst (λ (o : Option Cents). Covers v o toll) f (covers_at v toll e h r)

  -- and at each departure from d on, while neither the value at the place left nor the toll changes
  pub covers-rule : (v w : Option Cents) (toll : Cents) → value to (d + leg.time.0) ≡ w → Covers v w toll
      → (u : Minute) → d ≤ u → value from u ≡ v → toll_at leg u ≡ toll → RuleAt leg from to u
  covers-rule v w toll f c u l e h x is = at v e c
    where
      at : (v : Option Cents) → value from u ≡ v → Covers v w toll → AtMost (value to (u + leg.time.0)) (x + toll_at leg u)
      at none e c = let z : ◌≡◌ {A = ℕ} 0 1 = cc in absurd (omega arith)
      at (some y) e c =
          let same : y ≡ x = cc in
          let (z, there, small) = at-most-value w (y + toll) c in
          let fell = steps-fall q to falls (d + leg.time.0) (u + leg.time.0) z (omega arith) (f ∙ there) in
          at-most-more (value to (u + leg.time.0)) z (x + toll_at leg u) (omega arith) fell

  -- one departure further
  pub rule-further : (latest next : Minute) → RuleBefore latest leg from to d
      → ((u : Minute) → d ≤ u → u < next → RuleAt leg from to u)
      → RuleBefore latest leg from to next
  rule-further latest next before from-here u l arrives = at (dec_lt u d)
    where
      at : Dec (u < d) → RuleAt leg from to u
      at (yes k) = before u k arrives
      at (no n) = from-here u (omega arith) l
