-- A sound leg, as rule (b) wants it. Assumes nothing.
use Prim.Native.Nat.{ℕ}
use Rattle.leg.specs.declared.Leg.{Leg}
use Rattle.network.proofs.Sound.{SoundLeg}
use Rattle.rule_b.specs.Rule.{InOrder}

pub in_order : (places : ℕ) (l : Leg) → SoundLeg places l → InOrder l
in_order places l s = record {
  time_within = s.time_within;
  few_bands = s.few_bands;
  rises = s.rises;
  starts_within = s.starts_within;
  tolls_within = s.tolls_within;
}
