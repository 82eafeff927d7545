-- Which plan. The rule is read from left to right, as document 01 writes it.
use Rattle.std.specs.Prelude.{ℕ, ◌<◌, ◌≡◌, ◌⊎◌, List, [], ◌∷◌, length}
use Rattle.plan.specs.Network.{Network, Query}
use Rattle.plan.specs.Plan.{Ride, arrives, arrival, cost, Feasible}

-- The smaller number wins; among equals, the rest decides.
abbrev pub LessThen : ℕ → ℕ → Type 0 → Type 0
LessThen a b rest = (a < b) ⊎ ((a ≡ b) × rest)

-- From the last leg back to the first: the earlier arrival of that leg, then the lower leg number, then the legs before it.
abbrev pub BackUpto : Network → List Ride → List Ride → Type 0
BackUpto N [] ss = Unit {0}
BackUpto N (r ∷ rs) [] = ⊥
BackUpto N (r ∷ rs) (s ∷ ss) = LessThen (arrives N r) (arrives N s) (LessThen r.leg s.leg (BackUpto N rs ss))

-- Not after: least cost, then the earliest arrival, then the fewest legs, then from the last leg back.
abbrev pub Upto : Network → Query → List Ride → List Ride → Type 0
Upto N q x y =
    LessThen (cost N x) (cost N y)
    (LessThen (arrival N q x) (arrival N q y)
    (LessThen (length x) (length y)
    (BackUpto N x y)))

-- The named plan: feasible, and not after any feasible plan.
pub record Named (N : Network) (q : Query) (plan : List Ride) : Type 0 where
  pub feasible : Feasible N q plan
  pub first : (other : List Ride) → Feasible N q other → Upto N q plan other
