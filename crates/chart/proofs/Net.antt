-- The network that a sound file stands for: its size, its ranges, and its legs by the chart. Assumes nothing.
use Prim.Native.Nat.{ℕ, ◌≤◌, ◌<◌}
use native.Mathlib.Omega.{arith}
use mathlib.Core.Path.{◌≡◌, sym, ◌∙◌, ap, subst}
use mathlib.Core.List.{List}
use lib.ListN.{length, get_or}
use Rattle.source.specs.Source.{file_of}
use Rattle.plan.specs.Network.{InRange}
use Rattle.plan.specs.Legs.{no_leg}
use Rattle.plan.proofs.Legs.{legs-in-range}
use Rattle.std.specs.Prelude.{Ok}
use Rattle.network.specs.declared.Size.{Size}
use Rattle.network.specs.Reading.{found}
use Rattle.network.specs.Network.{Network, edition1, leg, of_file}
use Rattle.network.specs.Answers.{size_of, network_found, leg_or_none}
use Rattle.network.proofs.Sound.{SoundLeg, SoundNetwork}
use Rattle.network.proofs.Files.{sound-file}
use Rattle.network.specs.InFile.{Same}
use Rattle.network.proofs.InFile.{leg-there}
use Rattle.chart.specs.declared.tariff.Tariff.{Tariff}
use Rattle.chart.specs.Net.{net_of, net_in, leg_in, theory, theory_in}
use Rattle.chart.specs.Chart.{Charted, Chart}
use Rattle.chart.proofs.Charting.{charted-leg}

-- what was found is what the bytes stand for
pub net-is : (s : List ℕ) (net : Network) (end : ℕ) → of_file s ≡ found net end → net_in s ≡ net
unfolding net_in
net-is s net end e = ap net_of e

-- a sound file of this size
pub record InFile (s : List ℕ) (size : Size) : Type 0 where
  pub end : ℕ
  pub stands : of_file s ≡ found (net_in s) end
  pub places : size.places ≡ (net_in s).places
  pub legs : size.legs ≡ length (net_in s).legs
  pub sound : SoundNetwork (net_in s)

pub in-file : (s : List ℕ) (size : Size) → network_found (of_file s) ≡ Ok size → InFile s size
in-file s size ok =
    let f = sound-file s size ok in
    let is : f.net ≡ net_in s = sym (net-is s f.net f.end f.stands) in
    let size_is : size ≡ size_of (net_in s) = f.size_is ∙ ap size_of is in
    record {
      end = f.end;
      stands = f.stands ∙ ap (λ (n : Network). found n f.end) is;
      places = ap (λ (z : Size). z.places) size_is;
      legs = ap (λ (z : Size). z.legs) size_is;
      sound = subst (λ (n : Network). SoundNetwork n) is f.sound;
    }

-- THE RANGES that a sound network keeps
pub sound-ranges : (net : Network) → SoundNetwork net → InRange (theory net)
sound-ranges net s =
    legs-in-range net.places net.legs s.few_places λ l h.
    let leg = s.each_leg l no_leg h in
    record { source = leg.from_below; target = leg.to_below; tolls = leg.tolls_within }

module _ (s : List ℕ) (size : Size) (ok : network_found (of_file s) ≡ Ok size) where
  pub places-are : size.places ≡ (net_in s).places
  places-are = (in-file s size ok).places

  pub legs-are : size.legs ≡ length (net_in s).legs
  legs-are = (in-file s size ok).legs

  pub few_places : size.places ≤ 64
  few_places = omega (arith, places-are, (in-file s size ok).sound.few_places)

  pub few_legs : size.legs ≤ 512
  few_legs = omega (arith, legs-are, (in-file s size ok).sound.few_legs)

  pub ranges : InRange (theory_in s)
  ranges = sound-ranges (net_in s) (in-file s size ok).sound

  -- its chart
  pub charted : (chart : List ℕ) → Chart s chart → Charted s (net_in s) chart
  charted chart c = let f = in-file s size ok in c (net_in s) f.end f.stands

  -- THE LEG that is decoded where the chart says is the network's
  module _ (k : ℕ) (below : k < size.legs) where
    pub leg-known : k < length (net_in s).legs
    leg-known = omega (arith, legs-are)

    pub leg-sound : SoundLeg (net_in s).places (get_or (net_in s).legs k no_leg)
    leg-sound = (in-file s size ok).sound.each_leg k no_leg leg-known

    pub leg-is : (chart : List ℕ) → Chart s chart
        → leg_or_none (leg edition1 size.places (file_of s) (get_or chart k 0)) ≡ get_or (net_in s).legs k no_leg
    leg-is chart c =
        ap (λ (n : ℕ). leg_or_none (leg edition1 n (file_of s) (get_or chart k 0))) places-are
        ∙ charted-leg s (net_in s) chart (charted chart c) k leg-known

-- ---- of a tariff

module _ (t : Tariff) where
  pub read : InFile t.net.now t.size
  read = in-file t.net.now t.size t.sound

  module _ (k : ℕ) (low : k < t.size.legs) where
    -- leg k where it stands in the file
    pub leg-stands : Same t.net.now (get_or t.chart k 0) (leg_in t.net.now k)
    leg-stands =
        let c = charted t.net.now t.size t.sound t.chart t.charted in
        let there = c.stands k (leg-known t.net.now t.size t.sound k low) in
        leg-there t.net.now (net_in t.net.now).places (get_or t.chart k 0) (leg_in t.net.now k) there.0 there.1

    pub tariff-leg-sound : SoundLeg (net_in t.net.now).places (leg_in t.net.now k)
    tariff-leg-sound = leg-sound t.net.now t.size t.sound k low
