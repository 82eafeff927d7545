-- Rule (b) for a leg where it stands in the file is rule (b) for the leg which was found there. Assumes nothing.
use Prim.Native.Nat.{ℕ, zero, suc, ◌+◌, ◌<◌}
use native.Mathlib.Omega.{arith}
use mathlib.Core.Path.{◌≡◌, sym, ◌∙◌, ap}
use mathlib.Core.Bool.{Bool, true, false}
use mathlib.Core.List.{List}
use lib.ListN.{get_or}
use Rattle.leg.specs.declared.Band.{Band}
use Rattle.leg.specs.declared.Leg.{Leg}
use Rattle.leg.specs.Ranges.{no_band}
use Rattle.leg.specs.Toll.{toll_of_first, toll_at}
use Rattle.network.specs.InFile.{leg_at}
use Rattle.network.proofs.InFile.{bands-same}
use Rattle.network.specs.InFile.{Same}
use Rattle.plan.specs.Sheet.{Step}
use Rattle.rule_b.specs.Rule.{Is, RuleB, InOrder}

-- bands that are the same one by one have the same tolls
pub tolls-same : (n : ℕ) (a b : List Band) (t : ℕ) → ((k : ℕ) → k < n → get_or a k no_band ≡ get_or b k no_band) → toll_of_first n a t ≡ toll_of_first n b t
unfolding toll_of_first
tolls-same zero a b t h = cc
tolls-same (suc n) a b t h = rw (h n (omega arith), tolls-same n a b t (λ k l. h k (omega arith)))

module _ (s : List ℕ) (at : ℕ) (l : Leg) (same : Same s at l) where
  pub order-there : InOrder l → InOrder (leg_at s at)
  order-there o = record {
    time_within = omega (arith, o.time_within, same.time_is);
    few_bands = omega (arith, o.few_bands, same.count_is);
    rises = λ k h.
        rw (bands-same s at l same k (omega (arith, same.count_is)), bands-same s at l same (k + 1) (omega (arith, same.count_is))) (o.rises k (omega (arith, same.count_is)));
    starts_within = λ k h. rw (bands-same s at l same k (omega (arith, same.count_is))) (o.starts_within k (omega (arith, same.count_is)));
    tolls_within = λ k h. rw (bands-same s at l same k (omega (arith, same.count_is))) (o.tolls_within k (omega (arith, same.count_is)));
  }

  pub toll_there : (d : ℕ) → toll_at (leg_at s at) d ≡ toll_at l d
  toll_there d =
      ap (λ n. toll_of_first n (leg_at s at).bands d) same.count_is
      ∙ tolls-same l.count (leg_at s at).bands l.bands d (bands-same s at l same)

-- legs of one driving time and the same tolls obey the rule together
rule-same : (latest : ℕ) (a b : Leg) (from to : List Step) → a.time.0 ≡ b.time.0 → ((d : ℕ) → toll_at a d ≡ toll_at b d)
    → RuleB latest a from to → RuleB latest b from to
rule-same latest a b from to time tolls r d h x e = rw (← time, ← tolls d) (r d (omega (arith, time)) x e)

pub rule-there : (s : List ℕ) (at : ℕ) (l : Leg) (latest : ℕ) (from to : List Step) (t : Bool) → Same s at l
    → Is t (RuleB latest (leg_at s at) from to) → Is t (RuleB latest l from to)
rule-there s at l latest from to true same r = rule-same latest (leg_at s at) l from to same.time_is (toll_there s at l same) r
rule-there s at l latest from to false same r =
    λ k. r (rule-same latest l (leg_at s at) from to (sym same.time_is) (λ d. sym (toll_there s at l same d)) k)
