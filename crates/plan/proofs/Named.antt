-- The end of the walk back: what is best at the end, at the earliest minute with the least cost, is the named plan.
-- Beware: the end's cell at latest may show fewer legs than the named plan has, since the rule puts arrival before legs. Assumes nothing.
use Prim.Native.Nat.{ℕ, ◌/◌, ◌%◌, ◌≤◌, ◌<◌}
use native.Mathlib.Omega.{arith}
use native.Mathlib.Decide.{dec_le}
use mathlib.Core.Path.{◌≡◌}
use mathlib.Core.Logic.{◌≢◌}
use mathlib.Core.List.{List}
use lib.ListN.{length}
use Rattle.plan.specs.Network.{Minute, Network, Query, Askable, Within}
use Rattle.plan.specs.Plan.{Ride, arrival, cost, Stands, Feasible}
use Rattle.plan.specs.Tie.{Upto, Named}
use Rattle.plan.specs.Table.{no_plan, MinuteTable}
use Rattle.plan.proofs.Standing.{at-end, stands-wait, stands-end, from-earliest}
use Rattle.plan.proofs.Cells.{total-weight, cost-bound, light, least-largest}
use Rattle.plan.proofs.Exact.{table-least, table-obeys}
use Rattle.plan.proofs.Order.{less_then, named-short}
use Rattle.plan.proofs.Walk.{Best, FirstAt, shown}

module _ (N : Network) (q : Query) (asked : Askable N q) (c : ℕ → Minute → ℕ) (m : MinuteTable N q c) where
  -- the cost in a cell is at most that of any plan that stands there
  pub cost-shown : (p : ℕ) (t : Minute) → Within N q p t → (plan : List Ride) → Stands N q p t plan
      → c p t / 64 ≤ cost N plan
  cost-shown p t win plan s =
      let (cut, k, sc, few, small) = light N q asked p t plan s in
      omega (arith, (table-least N q asked c m p t win).bound cut sc, few, total-weight N cut, k.lighter N.toll)

  -- no plan: the end's cell at latest is `no_plan`
  pub none-feasible : c q.end q.latest ≡ no_plan → (plan : List Ride) → Feasible N q plan → ⊥
  none-feasible e plan f = (table-least N q asked c m q.end q.latest (at-end N q asked)).there plan f e

  -- where the cost is that of latest there is a plan, if there is one at latest
  pub same-cost : (a : Minute) → c q.end q.latest ≢ no_plan → c q.end a / 64 ≡ c q.end q.latest / 64
      → c q.end a ≢ no_plan
  same-cost a n same =
      let most = least-largest N q asked q.end q.latest (c q.end q.latest) (table-least N q asked c m q.end q.latest (at-end N q asked)) n in
      omega (arith, most, same)

  -- the first minute with the least cost is the first with its cell
  pub first-cost : (a : Minute) → c q.end a / 64 ≡ c q.end q.latest / 64
      → ((t : Minute) → q.earliest ≤ t → t < a → c q.end t / 64 ≢ c q.end q.latest / 64)
      → FirstAt q c q.end a
  first-cost a same first t early before e = first t early before (omega (arith, e, same))

  -- THE WALK'S PLAN IS THE NAMED PLAN, where a is the earliest minute with the least cost
  pub best-named : (a : Minute) → Within N q q.end a
      → c q.end a / 64 ≡ c q.end q.latest / 64
      → ((t : Minute) → q.earliest ≤ t → t < a → c q.end t / 64 ≢ c q.end q.latest / 64)
      → (plan : List Ride) → Best N q c q.end a plan
      → Named N q plan
  best-named a win same first plan b = record {
    feasible = stands-wait N q q.end a q.latest plan win.late b.stands;
    first = at;
  }
    where
      whole : (length plan < 64) × (c q.end a / 64 ≡ cost N plan) × (c q.end a % 64 ≡ length plan)
      whole = shown N q asked c m q.end a win plan b.stands b.weighs

      at : (other : List Ride) → Feasible N q other → Upto N q plan other
      at other f =
          less_then _ _
          (omega (arith, whole.1, cost-shown q.end q.latest (at-end N q asked) other f)) λ dear.
          let soon : a ≤ arrival N q other = not-before dear (dec_le a (arrival N q other)) in
          less_then _ _ (omega (arith, b.stands.by)) λ when.
          let stands : Stands N q q.end a other =
          record { runs = f.runs; there = f.there; by = omega (arith, b.stands.by) } in
          let bound = (table-least N q asked c m q.end a win).bound other stands in
          less_then _ _
          (omega (arith, bound, b.weighs, total-weight N plan, total-weight N other)) λ legs.
          b.first other stands (omega (arith, b.weighs, total-weight N plan, total-weight N other))
        where
          -- a plan of the least cost arrives at a or later
          not-before : cost N plan ≡ cost N other → Dec (a ≤ arrival N q other) → a ≤ arrival N q other
          not-before dear (yes h) = h
          not-before dear (no n) =
              let start : q.earliest ≤ arrival N q other = from-earliest N q other f.runs in
              let wait = (table-obeys N q asked c m).waits q.end (arrival N q other) q.latest asked.goal start f.by (omega arith) in
              let less = cost-shown q.end (arrival N q other) (record { place = asked.goal; early = start; late = f.by }) other
              (stands-end N q q.end q.latest other f) in
              absurd (first (arrival N q other) start (omega arith) (omega (arith, less, wait, whole.1)))

-- THE NAMED PLAN FITS a plan file: at most 63 legs, and a cost of at most 63 × 65,535 cents
pub named-fits : (N : Network) (q : Query) → Askable N q → (plan : List Ride) → Named N q plan
    → (length plan ≤ 63) × (cost N plan ≤ 4128705)
named-fits N q asked plan h =
    let short = named-short N q asked plan h in
    let few = asked.ranges.few in
    let bound = cost-bound N q asked.ranges plan h.feasible.runs in
    (omega arith, omega arith)
