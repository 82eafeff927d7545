-- Rule (b) for one leg, over the steps of the two places that it joins.
use Rattle.std.specs.Prelude.{ℕ, ◌+◌, ◌≤◌, ◌<◌, ◌≡◌, Bool, true, false, List, get_or}
use Rattle.std.proofs.Math.Option.{some}
use Rattle.leg.specs.declared.Leg.{Leg}
use Rattle.leg.specs.Ranges.{no_band}
use Rattle.leg.specs.Toll.{toll_at}
use Rattle.plan.specs.Network.{Minute, Cents}
use Rattle.plan.specs.Sheet.{Step, value, AtMost}

-- what a test says of a fact
abbrev pub Is : Bool → Type 0 → Type 0
Is true P = P
Is false P = P → ⊥

-- rule (b) at one departure
abbrev pub RuleAt : Leg → List Step → List Step → Minute → Type 0
RuleAt leg from to d =
    (x : Cents) → value from d ≡ some x → AtMost (value to (d + leg.time.0)) (x + toll_at leg d)

-- and at each departure that arrives by latest
abbrev pub RuleB : Minute → Leg → List Step → List Step → Type 0
RuleB latest leg from to = (d : Minute) → d + leg.time.0 ≤ latest → RuleAt leg from to d

-- what is known of a leg of a network: 1 to 8 bands whose starts rise, and tolls and driving time in range
pub record InOrder (leg : Leg) : Type 0 where
  pub time_within : leg.time.0 ≤ 2879
  pub few_bands : leg.count ≤ 8
  pub rises : (k : ℕ) → k + 1 < leg.count → (get_or leg.bands k no_band).start.0 < (get_or leg.bands (k + 1) no_band).start.0
  pub starts_within : (k : ℕ) → k < leg.count → (get_or leg.bands k no_band).start.0 ≤ 2879
  pub tolls_within : (k : ℕ) → k < leg.count → (get_or leg.bands k no_band).toll.0 ≤ 65535
