-- The minute table: what each cell holds.
use Rattle.std.specs.Prelude.{ℕ, ◌+◌, ◌*◌, ◌-◌, ◌≤◌, ◌≡◌, ◌⊎◌, List, length, get_or}
use Rattle.plan.specs.Network.{Minute, Network, Query, Within}
use Rattle.plan.specs.Plan.{Ride, cost, Stands}
use Rattle.plan.specs.Tie.{LessThen}

-- What a cell holds where there is no plan.
abbrev pub no_plan : ℕ
no_plan = 4294967295

-- What a leg left for at a minute adds to a cell: 64 × toll, and one leg.
abbrev pub weight : Network → ℕ → Minute → ℕ
weight N l d = 64 * N.toll l d + 1

-- The cheapest plan that stands at p at or before t, with the fewest legs among the cheapest.
pub record Cheapest (N : Network) (q : Query) (p : ℕ) (t : Minute) (plan : List Ride) : Type 0 where
  pub stands : Stands N q p t plan
  pub least : (other : List Ride) → Stands N q p t other → LessThen (cost N plan) (cost N other) (length plan ≤ length other)

-- What the cell of p and t holds: 64 × cost + legs of that plan, or `no_plan` if there is no plan.
abbrev pub Cell : Network → Query → ℕ → Minute → ℕ → Type 0
Cell N q p t v =
    ((plan : List Ride) × Cheapest N q p t plan × (v ≡ 64 * cost N plan + length plan))
    ⊎ (((plan : List Ride) → Stands N q p t plan → ⊥) × (v ≡ no_plan))

-- The number of minutes from earliest to latest, both counted.
abbrev pub width : Query → ℕ
width q = q.latest - q.earliest + 1

-- The cell of a list of cells that belongs to place p and minute t.
abbrev pub cell_at : Query → List ℕ → ℕ → Minute → ℕ
cell_at q cells p t = get_or cells (p * width q + (t - q.earliest)) 0

-- The minute table: every cell of the window holds what it should.
abbrev pub MinuteTable : Network → Query → (ℕ → Minute → ℕ) → Type 0
MinuteTable N q c = (p : ℕ) (t : Minute) → Within N q p t → Cell N q p t (c p t)
