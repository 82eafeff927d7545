-- What the walk back goes by, and what each of its steps gives.
use Rattle.std.specs.Prelude.{ℕ, ◌+◌, ◌-◌, ◌*◌, ◌%◌, ◌≤◌, ◌<◌, ◌≡◌, ◌≢◌, Bool, true, false, List, length}
use Rattle.leg.specs.declared.Leg.{Leg}
use Rattle.leg.specs.Toll.{toll_at}
use Rattle.plan.specs.Network.{Minute, Network, Query, Askable, Within}
use Rattle.plan.specs.Plan.{Ride}
use Rattle.plan.specs.Tie.{Named}
use Rattle.plan.specs.Table.{no_plan, width, cell_at, MinuteTable}
use Rattle.plan.proofs.Walk.{Fits, Best, FirstAt}
use Rattle.chart.specs.Net.{theory_in}
use Rattle.plan_file.specs.Puts.{Puts}
use Rattle.plan_file.specs.PlanFile.{query_of, rides_fields, file_of_plan, FileOf}
use Rattle.walk.specs.declared.Hop.{Hop}
use Rattle.walk.specs.declared.Walk.{Walk}
use Rattle.walk.specs.Cells.{FirstLike}

-- the network of a walk, as the plans see it
abbrev pub theory_of : Walk → Network
theory_of walk = theory_in walk.tariff.net.now

-- its query
abbrev pub asked_of : Walk → Query
asked_of walk = query_of walk.table.query

-- and its cells, by place and minute
abbrev pub cells_of : Walk → ℕ → Minute → ℕ
cells_of walk = cell_at (query_of walk.table.query) walk.table.cells.now

-- the query can be asked of the network, and the cells are its minute table
pub record Walkable (walk : Walk) : Type 0 where
  pub asked : Askable (theory_of walk) (asked_of walk)
  pub last : walk.table.query.latest.0 ≤ 2879
  pub table : MinuteTable (theory_of walk) (asked_of walk) (cells_of walk)
  pub room : walk.tariff.size.places * width (asked_of walk) ≤ length walk.table.cells.now

-- a leg, left for at d, arrives at p at the minute a, and with the cell that it leaves from gives the cell there
pub record LegFits (q : Query) (c : ℕ → Minute → ℕ) (l : Leg) (p : ℕ) (a d : Minute) : Type 0 where
  pub reaches : l.to ≡ p
  pub early : q.earliest ≤ d
  pub arrives : d + l.time.0 ≡ a
  pub explains : c l.from d + (64 * toll_at l d + 1) ≡ c p a

-- the cells of the place that a leg leaves from are in the table
pub record ReadsFrom (l : Leg) (cells : List ℕ) (q : Query) : Type 0 where
  pub place : l.from < 64
  pub room : l.from * width q + width q ≤ length cells

-- what a test of that tells
abbrev pub Tells : Bool → Query → (ℕ → Minute → ℕ) → Leg → ℕ → Minute → Type 0
Tells true q c l p a = LegFits q c l p a (a - l.time.0)
Tells false q c l p a = (d : Minute) → LegFits q c l p a d → ⊥

-- at a departure: a place and a minute at which there is a plan
pub record Departing (walk : Walk) (p : ℕ) (t : Minute) : Type 0 where
  pub walkable : Walkable walk
  pub within : Within (theory_of walk) (asked_of walk) p t
  pub plan : cells_of walk p t ≢ no_plan

-- at an arrival: the first minute, besides, at which the place has this cell
pub record Arriving (walk : Walk) (p : ℕ) (t : Minute) : Type 0 where
  pub departing : Departing walk p t
  pub first : FirstAt (asked_of walk) (cells_of walk) p t

-- the ride found: the lowest leg that fits, when it is left for, and from where
pub record Hops (N : Network) (q : Query) (c : ℕ → Minute → ℕ) (p : ℕ) (t : Minute) (hop : Hop) : Type 0 where
  pub fit : Fits N q c p t hop.leg hop.departure.0
  pub lowest : (l : ℕ) (d : Minute) → l < hop.leg → Fits N q c p t l d → ⊥
  pub from : hop.from ≡ N.source hop.leg

-- there is room for the rides that the cell shows
abbrev pub RoomFor : List ℕ → ℕ → Type 0
RoomFor out cell = 89 + 21 * (cell % 64) ≤ 8 * length out

-- the rides of the best plan that stands at p by t are put in their places
pub record Walked (N : Network) (q : Query) (c : ℕ → Minute → ℕ) (p : ℕ) (t : Minute) (before after : List ℕ) : Type 0 where
  pub plan : List Ride
  pub best : Best N q c p t plan
  pub rides : Puts before after 89 (rides_fields plan)

-- the end's arrival: the first minute with the least cost
pub record Ending (walk : Walk) (t : Minute) : Type 0 where
  pub walkable : Walkable walk
  pub plan : cells_of walk walk.table.query.end walk.table.query.latest.0 ≢ no_plan
  pub first : FirstLike (asked_of walk) (cells_of walk) walk.table.query.end 64 walk.table.query.latest.0 t

-- these bytes are the file of the named plan
pub record NamedFile (N : Network) (q : Query) (bytes : List ℕ) : Type 0 where
  pub plan : List Ride
  pub named : Named N q plan
  pub file : FileOf (file_of_plan N q plan) bytes
