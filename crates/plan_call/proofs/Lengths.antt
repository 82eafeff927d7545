-- How many legs the named plan has: what the end's cell shows at the first minute with the least cost.
use Prim.Native.Nat.{ℕ, ◌/◌, ◌%◌, ◌≤◌, ◌<◌}
use native.Mathlib.Omega.{arith}
use native.Mathlib.Decide.{dec_le}
use mathlib.Core.Path.{◌≡◌}
use mathlib.Core.Logic.{◌≢◌, ◌⊎◌, inl, inr}
use mathlib.Core.List.{List}
use lib.ListN.{length}
use Rattle.plan.specs.Network.{Minute, Network, Query, Askable, Within}
use Rattle.plan.specs.Plan.{Ride, arrival, total, cost, Stands}
use Rattle.plan.specs.Tie.{BackUpto, Named, Upto}
use Rattle.plan.specs.Table.{no_plan, weight, MinuteTable}
use Rattle.plan.proofs.Standing.{at-end, stands-wait, stands-end, from-earliest}
use Rattle.plan.proofs.Cells.{Attained, total-weight}
use Rattle.plan.proofs.Exact.{table-least, table-obeys}
use Rattle.plan.proofs.Walk.{shown}
use Rattle.plan.proofs.Named.{cost-shown, same-cost}
use Rattle.plan.proofs.Search.{named-exists}
use Rattle.walk.specs.Cells.{FirstLike}

module _ (N : Network) (q : Query) (asked : Askable N q) (c : ℕ → Minute → ℕ) (m : MinuteTable N q c) (n : c q.end q.latest ≢ no_plan) where
  -- where the end's cell shows a plan there is a named one
  pub named-there : (plan : List Ride) × Named N q plan
  unfolding Attained
  named-there =
      let w = (table-least N q asked c m q.end q.latest (at-end N q asked)).attained n in
      named-exists N q asked w.0 w.1

  module _ (a : Minute) (f : FirstLike q c q.end 64 q.latest a) (plan : List Ride) (named : Named N q plan) where
    -- a plan of the least cost arrives at a or later
    not-before : cost N plan ≡ c q.end q.latest / 64 → Dec (a ≤ arrival N q plan) → a ≤ arrival N q plan
    not-before least (yes h) = h
    not-before least (no k) =
        let feasible = named.feasible in
        let start : q.earliest ≤ arrival N q plan = from-earliest N q plan feasible.runs in
        let wait = (table-obeys N q asked c m).waits q.end (arrival N q plan) q.latest asked.goal start feasible.by (omega arith) in
        let less = cost-shown N q asked c m q.end (arrival N q plan) (record { place = asked.goal; early = start; late = feasible.by }) plan
        (stands-end N q q.end q.latest plan feasible) in
        absurd (f.first (arrival N q plan) start (omega arith) (omega (arith, less, wait, least)))

    pub named-legs : length plan ≡ c q.end a % 64
    unfolding Attained
    named-legs =
        let win : Within N q q.end a = record { place = asked.goal; early = f.early; late = f.late } in
        let w = (table-least N q asked c m q.end a win).attained (same-cost N q asked c m a n f.like) in
        let tells = shown N q asked c m q.end a win w.0 w.1 w.2 in
        at w.0 w.1 w.2 tells win
        (cost-shown N q asked c m q.end q.latest (at-end N q asked) plan named.feasible)
        (named.first w.0 (stands-wait N q q.end a q.latest w.0 f.late w.1))
      where
        at : (other : List Ride) → Stands N q q.end a other → total (weight N) other ≡ c q.end a
            → (length other < 64) × (c q.end a / 64 ≡ cost N other) × (c q.end a % 64 ≡ length other)
            → Within N q q.end a → c q.end q.latest / 64 ≤ cost N plan → Upto N q plan other
            → length plan ≡ c q.end a % 64
        at other s e tells win low (inl less) = absurd (omega (arith, f.like))
        at other s e tells win low (inr (same, inl sooner)) =
            absurd (omega (arith, s.by, not-before (omega (arith, f.like)) (dec_le a (arrival N q plan))))
        at other s e tells win low (inr (same, inr (when, rest))) =
            let stands : Stands N q q.end a plan = record { runs = named.feasible.runs; there = named.feasible.there; by = omega (arith, s.by) } in
            let bound = (table-least N q asked c m q.end a win).bound plan stands in
            fewer rest (omega (arith, bound, e, total-weight N plan, total-weight N other))
          where
            fewer : (length plan < length other) ⊎ ((length plan ≡ length other) × BackUpto N plan other) → length other ≤ length plan → length plan ≡ c q.end a % 64
            fewer (inl h) k = absurd (omega arith)
            fewer (inr (h, b)) k = omega (arith, tells.2)
