-- Bound sheets, the rules that the gate tests, and our own sheet.
use Rattle.std.specs.Prelude.{ℕ, ◌+◌, ◌≤◌, ◌<◌, ◌≡◌, cond, List, [], ◌∷◌, leb, length, get_or}
use Rattle.std.proofs.Math.Option.{Option, none, some}
use Rattle.plan.specs.Network.{Minute, Cents, Network, Query, Within, Leaves}
use Rattle.plan.specs.Plan.{Ride, cost, Stands}

-- One step of a sheet: from this minute on the place has this cost.
pub record Step : Type 0 where
  pub minute : Minute
  pub price : Cents

-- The first that is there.
abbrev pub or_else : Option Cents → Option Cents → Option Cents
or_else none b = b
or_else (some a) b = some a

-- The cost of the last step at or before a minute; no value before the first step.
abbrev pub value : List Step → Minute → Option Cents
value [] t = none
value (s ∷ ss) t = or_else (value ss t) (cond (leb s.minute t) (some s.price) none)

-- A sheet has the steps of each place; the value of a place at a minute.
abbrev pub value_at : List (List Step) → ℕ → Minute → Option Cents
value_at sheet p t = value (get_or sheet p []) t

-- Steps that go on after a step: minutes up to latest rise strictly and costs fall strictly.
abbrev pub StepsAfter : Query → Step → List Step → Type 0
StepsAfter q s [] = s.minute ≤ q.latest
StepsAfter q s (s' ∷ ss) = (s.minute < s'.minute) × (s'.price < s.price) × StepsAfter q s' ss

-- A place's steps: strictly rising minutes inside the window and strictly falling costs.
abbrev pub Steps : Query → List Step → Type 0
Steps q [] = Unit {0}
Steps q (s ∷ ss) = (q.earliest ≤ s.minute) × StepsAfter q s ss

-- There is a value, and it is at most x.
abbrev pub AtMost : Option Cents → Cents → Type 0
AtMost none x = ⊥
AtMost (some v) x = v ≤ x

-- Values obey the rules: (a) the start has value 0 at earliest; (b) a leg left for at d, where its place has a value,
-- gives the place it goes to a value at the arrival, at most that value plus the toll at d.
pub record Obeys (N : Network) (q : Query) (value : ℕ → Minute → Option Cents) : Type 0 where
  pub a : value q.start q.earliest ≡ some 0
  pub b : (l : ℕ) (d : Minute) (x : Cents) → Leaves N q l d
      → value (N.source l) d ≡ some x
      → AtMost (value (N.target l) (d + N.time l)) (x + N.toll l d)

-- Tight for a plan: its cost is the end's value at latest. For "none": the end has no value at latest.
abbrev pub TightFor : Query → (ℕ → Minute → Option Cents) → Option Cents → Type 0
TightFor q value stated = value q.end q.latest ≡ stated

-- The least cost of standing at p at or before t, or no value where no plan does.
abbrev pub LeastCost : Network → Query → ℕ → Minute → Option Cents → Type 0
LeastCost N q p t none = (plan : List Ride) → Stands N q p t plan → ⊥
LeastCost N q p t (some x) =
    ((plan : List Ride) × Stands N q p t plan × (cost N plan ≡ x)) × ((plan : List Ride) → Stands N q p t plan → x ≤ cost N plan)

-- Our sheet: steps as described for each place, whose values are the least costs themselves.
pub record OurSheet (N : Network) (q : Query) (sheet : List (List Step)) : Type 0 where
  pub size : length sheet ≡ N.places
  pub steps : (p : ℕ) → p < N.places → Steps q (get_or sheet p [])
  pub costs : (p : ℕ) (t : Minute) → Within N q p t → LeastCost N q p t (value_at sheet p t)
