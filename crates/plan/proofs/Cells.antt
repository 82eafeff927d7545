-- Cells: 64 × cost + legs orders plans as the pair (cost, legs) does, and cells that obey the rules and are attained are exact.
-- Assumes nothing.
use Prim.Native.Nat.{ℕ, ◌+◌, ◌*◌, ◌≤◌, ◌<◌}
use native.Mathlib.Omega.{arith}
use native.Mathlib.Decide.{ℕ_discrete, dec_lt}
use mathlib.Core.Path.{◌≡◌, refl}
use mathlib.Core.Logic.{◌≢◌, inl, inr, ⊎_elim}
use mathlib.Core.List.{List, [], ◌∷◌}
use lib.Dec.{T}
use lib.ListN.{length}
use Rattle.plan.specs.Network.{Minute, Network, InRange, Query, Askable}
use Rattle.plan.specs.Plan.{Ride, total, cost, Runs, Stands}
use Rattle.plan.specs.Tie.{LessThen}
use Rattle.plan.specs.Table.{no_plan, weight, Cheapest, Cell}
use Rattle.plan.proofs.Standing.{stands-start, stands-wait, stands-ride}
use Rattle.plan.proofs.Circles.{NoWorse, no-worse-stands, cut_short}

-- what a plan weighs in cells
pub total-weight : (N : Network) (plan : List Ride) → total (weight N) plan ≡ 64 * cost N plan + length plan
total-weight N [] = refl
total-weight N (r ∷ rs) = omega (arith, total-weight N rs)

-- what a plan's tolls come to at most
pub cost-bound : (N : Network) (q : Query) → InRange N → (plan : List Ride) → Runs N q plan → cost N plan ≤ 65535 * length plan
cost-bound N q ok [] h = omega arith
cost-bound N q ok (r ∷ rs) h = omega (arith, cost-bound N q ok rs h.1, ok.tolls r.leg r.leave h.0.known)

-- the largest cell but `no_plan`: 63 legs at 65,535 cents
abbrev pub largest : ℕ
largest = 264237183

-- v is the weight of a plan that stands at p at or before t
unfoldable pub Attained : Network → Query → ℕ → Minute → ℕ → Type 0
Attained N q p t v = (plan : List Ride) × Stands N q p t plan × (total (weight N) plan ≡ v)

-- ---- which values are attained: what the code's lowering steps keep

module _ (N : Network) (q : Query) where
  pub attained-start : (t : Minute) → q.earliest ≤ t → Attained N q q.start t 0
  unfolding Attained
  attained-start t h = ([], stands-start N q t h, refl)

  pub attained-wait : (p : ℕ) (t u : Minute) (v : ℕ) → t ≤ u → Attained N q p t v → Attained N q p u v
  unfolding Attained
  attained-wait p t u v h (plan, s, e) = (plan, stands-wait N q p t u plan h s, e)

  pub attained-ride : (l : ℕ) (d : Minute) (v : ℕ) → l < N.legs → T (N.goes l d) → Attained N q (N.source l) d v
      → Attained N q (N.target l) (d + N.time l) (v + weight N l d)
  unfolding Attained
  attained-ride l d v known goes (plan, s, e) =
      (record { leg = l; leave = d } ∷ plan, stands-ride N q l d known goes plan s, omega (arith, e))

-- ---- least values

-- The least weight of a plan that stands at p at or before t, or `no_plan`.
pub record Least (N : Network) (q : Query) (p : ℕ) (t : Minute) (v : ℕ) : Type 0 where
  pub attained : v ≢ no_plan → Attained N q p t v
  pub bound : (plan : List Ride) → Stands N q p t plan → v ≤ total (weight N) plan
  pub there : (plan : List Ride) → Stands N q p t plan → v ≢ no_plan

module _ (N : Network) (q : Query) (asked : Askable N q) where
  -- each plan has one that is no worse, with at most 63 legs and no more weight than the largest
  pub light : (p : ℕ) (t : Minute) (plan : List Ride) → Stands N q p t plan
      → (cut : List Ride) × NoWorse N q plan cut × Stands N q p t cut × (length cut < 64) × (total (weight N) cut ≤ largest)
  light p t plan s =
      let (c, k, h) = cut_short N q asked.ranges asked.home plan s.runs in (
        c,
        k,
        no-worse-stands N q p t plan c k s,
        omega (arith, asked.ranges.few),
        omega (arith, asked.ranges.few, total-weight N c, cost-bound N q asked.ranges c k.runs),
      )

  -- the least weight is that of the cheapest plan with the fewest legs
  pub least-cheapest : (p : ℕ) (t : Minute) (plan : List Ride) → Stands N q p t plan
      → ((other : List Ride) → Stands N q p t other → total (weight N) plan ≤ total (weight N) other)
      → Cheapest N q p t plan
  least-cheapest p t plan s h = record { stands = s; least = λ other so. at other so (light p t other so) }
    where
      at : (other : List Ride) → Stands N q p t other
          → (cut : List Ride) × NoWorse N q other cut × Stands N q p t cut × (length cut < 64) × (total (weight N) cut ≤ largest)
          → LessThen (cost N plan) (cost N other) (length plan ≤ length other)
      at other so (c, k, sc, few, small) = or (dec_lt (cost N plan) (cost N other))
        where
          or : Dec (cost N plan < cost N other) → LessThen (cost N plan) (cost N other) (length plan ≤ length other)
          or (yes l) = inl l
          or (no nl) =
              let same : cost N plan ≡ cost N other =
              omega (arith, h c sc, total-weight N plan, total-weight N c, k.lighter N.toll) in
              inr (same, omega (arith, h other so, total-weight N plan, total-weight N other))

  -- THE CELLS' MEANING: a least value is just what a cell should hold
  pub least-cell : (p : ℕ) (t : Minute) (v : ℕ) → Least N q p t v → Cell N q p t v
  unfolding Attained
  least-cell p t v k = at (ℕ_discrete v no_plan)
    where
      at : Dec (v ≡ no_plan) → Cell N q p t v
      at (yes e) = inr ((λ plan s. k.there plan s e), e)
      at (no ne) =
          let (plan, s, e) = k.attained ne in
          inl (
            plan,
            least-cheapest p t plan s (λ other so. omega (arith, e, k.bound other so)),
            omega (arith, e, total-weight N plan),
          )

  pub cell-least : (p : ℕ) (t : Minute) (v : ℕ) → Cell N q p t v → Least N q p t v
  unfolding Attained
  cell-least p t v (inl (plan, k, e)) = record {
    attained = λ ne. (plan, k.stands, omega (arith, e, total-weight N plan));
    bound = λ other s. omega (arith, bound other s, e);
    there = λ other s.
        let (c, m, sc, few, small) = light p t plan k.stands in
        omega (arith, e, small, bound c sc);
  }
    where
      legs : length plan < 64
      legs =
          let (c, m, sc, few, small) = light p t plan k.stands in
          ⊎_elim (λ (l : cost N plan < cost N c). omega (arith, m.lighter N.toll))
          (λ (l : (cost N plan ≡ cost N c) × (length plan ≤ length c)). omega (arith, l.1, few))
          (k.least c sc)

      bound : (other : List Ride) → Stands N q p t other → 64 * cost N plan + length plan ≤ total (weight N) other
      bound other s =
          ⊎_elim (λ (l : cost N plan < cost N other). omega (arith, legs, total-weight N other))
          (λ (l : (cost N plan ≡ cost N other) × (length plan ≤ length other)). omega (arith, l.0, l.1, total-weight N other))
          (k.least other s)
  cell-least p t v (inr (n, e)) = record {
    attained = λ ne. absurd (ne e);
    bound = λ plan s. absurd (n plan s);
    there = λ plan s. absurd (n plan s);
  }

  -- a cell that is not `no_plan` is at most the largest
  pub least-largest : (p : ℕ) (t : Minute) (v : ℕ) → Least N q p t v → v ≢ no_plan → v ≤ largest
  unfolding Attained
  least-largest p t v k ne =
      let (plan, s, e) = k.attained ne in
      let (c, m, sc, few, small) = light p t plan s in
      omega (arith, small, k.bound c sc)

  least-once : (p : ℕ) (t : Minute) (v w : ℕ) → Least N q p t v → Least N q p t w → v ≢ no_plan → (w ≢ no_plan) × (w ≤ v)
  unfolding Attained
  least-once p t v w k m ne =
      let (plan, s, e) = k.attained ne in
      (m.there plan s, omega (arith, e, m.bound plan s))

  -- A CELL HOLDS ONE VALUE
  pub cell-once : (p : ℕ) (t : Minute) (v w : ℕ) → Cell N q p t v → Cell N q p t w → v ≡ w
  cell-once p t v w h k = at (ℕ_discrete v no_plan) (ℕ_discrete w no_plan)
    where
      there : v ≢ no_plan → (w ≢ no_plan) × (w ≤ v)
      there = least-once p t v w (cell-least p t v h) (cell-least p t w k)

      back : w ≢ no_plan → (v ≢ no_plan) × (v ≤ w)
      back = least-once p t w v (cell-least p t w k) (cell-least p t v h)

      at : Dec (v ≡ no_plan) → Dec (w ≡ no_plan) → v ≡ w
      at (yes e) (yes g) = omega arith
      at (yes e) (no n) = absurd ((back n).0 e)
      at (no n) (yes g) = absurd ((there n).0 g)
      at (no n) (no o) = omega (arith, (there n).1, (back o).1)
