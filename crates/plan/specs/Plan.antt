-- Plans. A plan is the list of its rides, THE LAST RIDE FIRST: where it stands and when it got there is then read off the head.
use Rattle.std.specs.Prelude.{ℕ, ◌+◌, ◌≤◌, ◌<◌, ◌≡◌, List, [], ◌∷◌, T}
use Rattle.plan.specs.Network.{Minute, Cents, Network, Query}

-- One (leg, departure) of a plan.
pub record Ride : Type 0 where
  pub leg : ℕ
  pub leave : Minute

-- Arrival is departure plus driving time.
abbrev pub arrives : Network → Ride → Minute
arrives N r = r.leave + N.time r.leg

-- Where a plan stands at its end: at the start if it has no legs.
abbrev pub place : Network → Query → List Ride → ℕ
place N q [] = q.start
place N q (r ∷ rs) = N.target r.leg

-- When it gets there: at earliest if it has no legs.
abbrev pub arrival : Network → Query → List Ride → Minute
arrival N q [] = q.earliest
arrival N q (r ∷ rs) = arrives N r

-- What a plan's rides weigh together.
abbrev pub total : (ℕ → Minute → ℕ) → List Ride → ℕ
total w [] = 0
total w (r ∷ rs) = total w rs + w r.leg r.leave

-- Cost is the sum of tolls at the departures.
abbrev pub cost : Network → List Ride → Cents
cost N plan = total N.toll plan

-- A ride may come after the rides `rs`: its leg is one of the network's, and may be left for at that minute,
-- it leaves from the place reached, at or after the arrival there.
pub record Follows (N : Network) (q : Query) (rs : List Ride) (r : Ride) : Type 0 where
  pub known : r.leg < N.legs
  pub goes : T (N.goes r.leg r.leave)
  pub here : N.source r.leg ≡ place N q rs
  pub after : arrival N q rs ≤ r.leave

-- The rides chain from the start: each follows those before it.
abbrev pub Runs : Network → Query → List Ride → Type 0
Runs N q [] = Unit {0}
Runs N q (r ∷ rs) = Follows N q rs r × Runs N q rs

-- The plan stands at place p at or before minute t.
pub record Stands (N : Network) (q : Query) (p : ℕ) (t : Minute) (plan : List Ride) : Type 0 where
  pub runs : Runs N q plan
  pub there : place N q plan ≡ p
  pub by : arrival N q plan ≤ t

-- Feasible: it stands at the end at or before latest.
abbrev pub Feasible : Network → Query → List Ride → Type 0
Feasible N q plan = Stands N q q.end q.latest plan
