-- The rides that a plan file's bytes spell, and what is known of them before they are printed.
use Rattle.std.specs.Prelude.{ℕ, zero, suc, ◌+◌, ◌*◌, ◌≤◌, List, [], ◌∷◌, length}
use Rattle.bits.specs.Field.{field}
use Rattle.std.specs.Coded.{×_prop, Unit-prop, le_prop}
use Rattle.std.proofs.Props.{props}
use Rattle.chart.specs.Net.{theory_in}
use Rattle.plan.specs.Network.{Network, Query}
use Rattle.plan.specs.Plan.{Ride, Follows, Runs}
use Rattle.plan_file.specs.PlanFile.{ride_of}

-- the first n rides, as the theory has them, the last ride first
abbrev pub rides_in : List ℕ → ℕ → List Ride
rides_in plan zero = []
rides_in plan (suc k) = ride_of (field plan (89 + 21 * k) 9) (field plan (89 + 21 * k + 9) 12) ∷ rides_in plan k

-- rides of a network that chain from the query's start
pub record Ridden (s plan : List ℕ) (q : Query) (n : ℕ) : Type 0 where
  pub room : 89 + 21 * n ≤ 8 * length plan
  pub few : n ≤ 63
  pub runs : Runs (theory_in s) q (rides_in plan n)

-- that they are is one fact, so that a type can keep it
follows_once : (N : Network) (q : Query) (rs : List Ride) (r : Ride) → IsProp (Follows N q rs r)
follows_once N q rs r = Prim.hlevel props

runs_once : (N : Network) (q : Query) (rs : List Ride) → IsProp (Runs N q rs)
runs_once N q [] = Unit-prop
runs_once N q (r ∷ rs) = ×_prop (follows_once N q rs r) (runs_once N q rs)

pub ridden_once : (s plan : List ℕ) (q : Query) (n : ℕ) → IsProp (Ridden s plan q n)
ridden_once s plan q n = λ a b. λ i. record {
  room = le_prop a.room b.room i;
  few = le_prop a.few b.few i;
  runs = runs_once (theory_in s) q (rides_in plan n) a.runs b.runs i;
}
