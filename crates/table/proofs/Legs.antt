-- A leg of the file, decoded and ridden: what the visit keeps.
use Prim.Native.Nat.{ℕ, ◌+◌, ◌*◌, ◌≤◌, ◌<◌, min}
use native.Mathlib.Omega.{arith}
use native.Mathlib.Decide.{dec_lt}
use mathlib.Core.Path.{◌≡◌, refl, ◌∙◌}
use mathlib.Core.Logic.{◌⊎◌, inl, inr}
use mathlib.Core.List.{List}
use lib.ListN.{length, get_or, set, length-set}
use lib.Seq.{set-get_or}
use Rattle.leg.specs.declared.Leg.{Leg}
use Rattle.plan.specs.Legs.{no_leg}
use Rattle.network.proofs.Sound.{SoundLeg}
use Rattle.rows.specs.Row.{at}
use Rattle.rows.specs.Whole.{sum}
use Rattle.chart.specs.declared.tariff.Tariff.{Tariff}
use Rattle.chart.specs.Net.{net_in, theory_in, leg_in}
use Rattle.table.proofs.Tariffs.{sound-leg, in-range, known-leg}
use Rattle.table.specs.declared.roads.Roads.{Roads}
use Rattle.table.specs.Ask.{columns, query}
use Rattle.table.specs.Ride.{Banded, Rode, RodeOut}
use Rattle.table.specs.Kept.{Visiting, Onward}
use Rattle.table.proofs.Keeping.{row_fits}
use Rattle.table.proofs.Riding.{LegOf, visiting-rode}

-- a sound leg's bands, as the rides want them
banded : (places : ℕ) (l : Leg) → SoundLeg places l → Banded l
banded places l s = record { some = s.some_band; few = s.few_bands; begins = s.begins; rises = s.rises }

leg-of : (s : List ℕ) (l : ℕ) (x : Leg) → x ≡ get_or (net_in s).legs l no_leg → LegOf (theory_in s) l x
leg-of s l x e = rw e (record { target = refl; time = refl; toll = λ d. refl; goes = λ d. tt })

pub onward-none : (cells low : List ℕ) → Onward cells cells low low
onward-none cells low = record { long = refl; falls = omega arith; noted = inl refl }

pub onward-more : (a b c la lb lc : List ℕ) → Onward a b la lb → Onward b c lb lc → Onward a c la lc
onward-more a b c la lb lc x y = record {
  long = y.long ∙ x.long;
  falls = omega (arith, x.falls, y.falls);
  noted = by x.noted y.noted;
}
  where
    by : (lb ≡ la) ⊎ (sum b < sum a) → (lc ≡ lb) ⊎ (sum c < sum b) → (lc ≡ la) ⊎ (sum c < sum a)
    by (inl e) (inl f) = inl (f ∙ e)
    by (inr l) f = inr (omega (arith, y.falls))
    by (inl e) (inr l) = inr (omega (arith, x.falls))

-- a leg that the tariff gives
pub leg-banded : (t : Tariff) (l : ℕ) → l < t.size.legs → (x : Leg) → x ≡ leg_in t.net.now l → Banded x
leg-banded t l known x is = banded (net_in t.net.now).places x (sound-leg t l known x is)

module _ (g : Roads) (row cells low : List ℕ) (from l : ℕ) (known : l < g.tariff.now.size.legs)
    (v : Visiting (theory_in g.tariff.now.net.now) (query g.ask) cells low row ((theory_in g.tariff.now.net.now).source l) from (l + 1)) (x : Leg) (decoded : x ≡ leg_in g.tariff.now.net.now l)
    (w : ℕ) (wide : w ≡ columns g.ask) where
  this-sound : SoundLeg (net_in g.tariff.now.net.now).places x
  this-sound = sound-leg g.tariff.now l known x decoded

  pub leg-room : (x.to * w + w ≤ length cells) × (x.to < length low)
  leg-room =
      rw wide (
        row_fits (net_in g.tariff.now.net.now).places (columns g.ask) x.to (length cells) this-sound.to_below v.kept.long,
        omega (arith, this-sound.to_below, v.kept.places),
      )

  onward : (cells' : List ℕ) (first : ℕ) → Rode x g.ask.window.earliest.0 (columns g.ask) from cells cells' row first 0 2880
      → Dec (first < columns g.ask) → (set low x.to (min (at low x.to) first) ≡ low) ⊎ (sum cells' < sum cells)
  onward cells' first r (yes h) = inr (r.less h)
  onward cells' first r (no h) =
      let same : min (at low x.to) first ≡ at low x.to = omega (arith, v.kept.lows x.to) in
      inl (rw same (set-get_or low x.to 0))

  pub leg-done : (cells' low' : List ℕ) → RodeOut x g.ask.window.earliest.0 w from cells cells' row low low'
      → Visiting (theory_in g.tariff.now.net.now) (query g.ask) cells' low' row ((theory_in g.tariff.now.net.now).source l) from l × Onward cells cells' low low'
  leg-done cells' low' o =
      let r : Rode x g.ask.window.earliest.0 (columns g.ask) from cells cells' row o.first 0 2880 = rw wide at o.rode in
      rw o.noted (
        visiting-rode (theory_in g.tariff.now.net.now) (query g.ask) (in-range g.tariff.now) cells cells' low row _ from l o.first x v
            (known-leg g.tariff.now l known) refl (leg-of g.tariff.now.net.now l x decoded)
            (omega (arith, g.asked.window, g.asked.clock)) r,
        record {
          long = length-set low x.to (min (at low x.to) o.first);
          falls = r.falls;
          noted = onward cells' o.first r (dec_lt o.first (columns g.ask));
        },
      )
