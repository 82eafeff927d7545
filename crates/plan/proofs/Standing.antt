-- Standing at a place by a minute: how plans come to stand there, by riding, waiting and starting. Assumes nothing.
use Prim.Native.Nat.{ℕ, ◌+◌, ◌≤◌, ◌<◌}
use native.Mathlib.Omega.{arith}
use mathlib.Core.Path.{refl, sym}
use mathlib.Core.List.{List, [], ◌∷◌}
use lib.Dec.{T}
use Rattle.plan.specs.Network.{Minute, Network, Query, Askable, Within, Leaves}
use Rattle.plan.specs.Plan.{Ride, arrival, Runs, Stands}

-- ---- places and minutes of the window

module _ (N : Network) (q : Query) (asked : Askable N q) where
  pub at-start : Within N q q.start q.earliest
  at-start = record { place = asked.home; early = omega arith; late = asked.window }

  pub at-end : Within N q q.end q.latest
  at-end = record { place = asked.goal; early = asked.window; late = omega arith }

  -- where and when a leg leaves, and where and when it arrives
  pub at_source : (l : ℕ) (d : Minute) → Leaves N q l d → Within N q (N.source l) d
  at_source l d go = record { place = asked.ranges.sources l go.known; early = go.early; late = omega (arith, go.late) }

  pub at_target : (l : ℕ) (d : Minute) → Leaves N q l d → Within N q (N.target l) (d + N.time l)
  at_target l d go = record { place = asked.ranges.targets l go.known; early = omega (arith, go.early); late = go.late }

-- ---- plans that stand

module _ (N : Network) (q : Query) where
  -- who stands at a leg's place by d may leave at d
  pub stands-ride : (l : ℕ) (d : Minute) → l < N.legs → T (N.goes l d) → (plan : List Ride) → Stands N q (N.source l) d plan
      → Stands N q (N.target l) (d + N.time l) (record { leg = l; leave = d } ∷ plan)
  stands-ride l d known goes plan s = record {
    runs = (record { known = known; goes = goes; here = sym s.there; after = omega (arith, s.by) }, s.runs);
    there = refl;
    by = omega arith;
  }

  -- the plan with no legs
  pub stands-start : (t : Minute) → q.earliest ≤ t → Stands N q q.start t []
  stands-start t h = record { runs = tt; there = refl; by = omega arith }

  -- who stands there by t stands there by u
  pub stands-wait : (p : ℕ) (t u : Minute) (plan : List Ride) → t ≤ u → Stands N q p t plan → Stands N q p u plan
  stands-wait p t u plan h s = record { runs = s.runs; there = s.there; by = omega (arith, s.by) }

  -- a plan stands where it ends when it arrives
  pub stands-end : (p : ℕ) (t : Minute) (plan : List Ride) → Stands N q p t plan → Stands N q p (arrival N q plan) plan
  stands-end p t plan s = record { runs = s.runs; there = s.there; by = omega arith }

  -- a plan arrives at earliest or later
  pub from-earliest : (plan : List Ride) → Runs N q plan → q.earliest ≤ arrival N q plan
  from-earliest [] h = omega arith
  from-earliest (r ∷ rs) h = omega (arith, from-earliest rs h.1, h.0.after)

  -- the rides before the last one stand where it leaves from, when it leaves
  pub before-ride : (r : Ride) (rs : List Ride) → Runs N q (r ∷ rs) → Stands N q (N.source r.leg) r.leave rs
  before-ride r rs h = record { runs = h.1; there = sym h.0.here; by = omega (arith, h.0.after) }

  -- and it leaves inside the window
  pub last-leaves : (p : ℕ) (t : Minute) (r : Ride) (rs : List Ride) → Stands N q p t (r ∷ rs) → t ≤ q.latest
      → Leaves N q r.leg r.leave
  last-leaves p t r rs s late = record {
    known = s.runs.0.known;
    goes = s.runs.0.goes;
    early = omega (arith, s.runs.0.after, from-earliest rs s.runs.1);
    late = omega (arith, s.by);
  }
