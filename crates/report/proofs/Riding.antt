-- The rides in a plan file's bytes: fewer of them, one of them, and when they arrive.
use Prim.Native.Nat.{ℕ, zero, suc, ◌+◌, ◌-◌, ◌*◌, ◌≤◌, ◌<◌}
use native.Mathlib.Omega.{arith}
use mathlib.Core.Path.{◌≡◌, refl, ap, ◌∙◌, subst}
use mathlib.Core.List.{List, [], ◌∷◌}
use lib.ListN.{length}
use Rattle.bits.specs.Field.{field}
use Rattle.bits.specs.Packed.{Holds}
use Rattle.bits.proofs.Fields.{field_below}
use Rattle.leg.specs.declared.Leg.{Leg}
use Rattle.chart.specs.Net.{theory_in, leg_in}
use Rattle.chart.proofs.Net.{legs-are}
use Rattle.plan.specs.Network.{Network, Query}
use Rattle.plan.specs.Plan.{Ride, arrival, Runs, Follows}
use Rattle.plan_file.specs.PlanFile.{query_of, ride_of, rides_fields}
use Rattle.plan_file.proofs.Files.{rides-last}
use Rattle.walk.proofs.Nets.{sound-leg}
use Rattle.text.specs.declared.Page.{Page}
use Rattle.text.specs.Text.{Writes}
use Rattle.text.proofs.Adding.{writes_then}
use Rattle.report.specs.declared.rides.Rides.{Rides}
use Rattle.report.specs.Rides.{rides_in, Ridden}
use Rattle.report.specs.Report.{leg_text, rides_text}

-- the rides of a file are those that its bytes spell
pub rides-are : (s : List ℕ) (rs : List Ride) → Holds s 89 (rides_fields rs) → rides_in s (length rs) ≡ rs
rides-are s [] h = refl
rides-are s (r ∷ rs) h =
    let l = rides-last s 89 r rs h in
    let rest = rides-are s rs l.0 in
    let ride : ride_of (field s (89 + 21 * length rs) 9) (field s (89 + 21 * length rs + 9) 12) ≡ r =
    ap (λ (x : ℕ). ride_of x (field s (89 + 21 * length rs + 9) 12)) l.1 ∙ ap (ride_of r.leg) l.2 in
    ap (λ (x : Ride). x ∷ rides_in s (length rs)) ride ∙ ap (λ (x : List Ride). r ∷ x) rest

-- fewer rides
runs-less : (N : Network) (q : Query) (plan : List ℕ) (d k : ℕ) → Runs N q (rides_in plan (d + k)) → Runs N q (rides_in plan k)
runs-less N q plan zero k h = let e : 0 + k ≡ k = omega arith in subst (λ (n : ℕ). Runs N q (rides_in plan n)) e h
runs-less N q plan (suc d) k h =
    let e : suc d + k ≡ suc (d + k) = omega arith in
    let all : Runs N q (rides_in plan (suc (d + k))) = subst (λ (n : ℕ). Runs N q (rides_in plan n)) e h in
    runs-less N q plan d k all.1

module _ (s plan : List ℕ) (q : Query) where
  pub ridden-less : (n k : ℕ) → k ≤ n → Ridden s plan q n → Ridden s plan q k
  ridden-less n k h r =
      let e : n ≡ n - k + k = omega arith in
      record {
        room = omega (arith, r.room);
        few = omega (arith, r.few);
        runs = runs-less (theory_in s) q plan (n - k) k (subst (λ (m : ℕ). Runs (theory_in s) q (rides_in plan m)) e r.runs);
      }

  -- the last of them
  pub last-ride : (n k : ℕ) → n ≡ suc k → Ridden s plan q n
      → Follows (theory_in s) q (rides_in plan k) (ride_of (field plan (89 + 21 * k) 9) (field plan (89 + 21 * k + 9) 12))
  last-ride n k e r = let all : Runs (theory_in s) q (rides_in plan (suc k)) = subst (λ (m : ℕ). Runs (theory_in s) q (rides_in plan m)) e r.runs in all.0

-- some of the rides, the leg of the last of those, and when it has arrived
module _ (r : Rides) (n : ℕ) (some : n ≤ field r.plan.now 77 12) where
  pub first-rides : Ridden r.tariff.net.now r.plan.now (query_of r.query) n
  first-rides = ridden-less r.tariff.net.now r.plan.now (query_of r.query) (field r.plan.now 77 12) n some r.ridden

  module _ (k : ℕ) (e : n ≡ suc k) where
    pub ride-there : Follows (theory_in r.tariff.net.now) (query_of r.query) (rides_in r.plan.now k)
        (ride_of (field r.plan.now (89 + 21 * k) 9) (field r.plan.now (89 + 21 * k + 9) 12))
    ride-there = last-ride r.tariff.net.now r.plan.now (query_of r.query) n k e first-rides

    module _ (g : ℕ) (ge : g ≡ field r.plan.now (89 + 21 * k) 9) where
      pub leg-below : g < r.tariff.size.legs
      leg-below = omega (arith, ge, ride-there.known, legs-are r.tariff.net.now r.tariff.size r.tariff.sound)

      module _ (d : ℕ) (de : d ≡ field r.plan.now (89 + 21 * k + 9) 12) (l : Leg) (is : l ≡ leg_in r.tariff.net.now g) where
        pub small-sum : d + l.time.0 ≤ 7000
        small-sum =
            let leg = sound-leg r.tariff.net.now r.tariff.size r.tariff.sound g leg-below l is in
            omega (arith, de, field_below r.plan.now (89 + 21 * k + 9) 12, leg.time_within)

-- one line more, and all of them
module _ (N : Network) (q : Query) (plan : List ℕ) (s t u : Page) (k : ℕ) where
  pub lines_more : Writes s t (rides_text N q (rides_in plan k))
      → Writes t u (leg_text (field plan (89 + 21 * k) 9) (field plan (89 + 21 * k + 9) 12) (field plan (89 + 21 * k + 9) 12 - arrival N q (rides_in plan k)))
      → Writes s u (rides_text N q (rides_in plan (k + 1)))
  lines_more a b =
      let e : suc k ≡ k + 1 = omega arith in
      subst (λ (n : ℕ). Writes s u (rides_text N q (rides_in plan n))) e (writes_then a b)
