-- What a tariff keeps, said of the network that its file stands for.
use Prim.Native.Nat.{ℕ, ◌≤◌, ◌<◌}
use mathlib.Core.Path.{◌≡◌}
use lib.ListN.{length}
use Rattle.plan.specs.Network.{InRange}
use Rattle.leg.specs.declared.Leg.{Leg}
use Rattle.network.proofs.Sound.{SoundLeg}
use Rattle.chart.specs.declared.tariff.Tariff.{Tariff}
use Rattle.chart.specs.Net.{net_in, theory_in, leg_in}
use Rattle.chart.proofs.Net as Net

module _ (t : Tariff) where
  pub same-places : t.size.places ≡ (net_in t.net.now).places
  same-places = Net.places-are t.net.now t.size t.sound

  pub same-legs : t.size.legs ≡ length (net_in t.net.now).legs
  same-legs = Net.legs-are t.net.now t.size t.sound

  pub few-places : t.size.places ≤ 64
  few-places = Net.few_places t.net.now t.size t.sound

  pub few-legs : t.size.legs ≤ 512
  few-legs = Net.few_legs t.net.now t.size t.sound

  pub in-range : InRange (theory_in t.net.now)
  in-range = Net.ranges t.net.now t.size t.sound

  -- a leg that the tariff gives
  module _ (l : ℕ) (known : l < t.size.legs) where
    pub known-leg : l < length (net_in t.net.now).legs
    known-leg = Net.leg-known t.net.now t.size t.sound l known

    pub sound-leg : (x : Leg) → x ≡ leg_in t.net.now l → SoundLeg (net_in t.net.now).places x
    sound-leg x is = rw is (Net.leg-sound t.net.now t.size t.sound l known)
