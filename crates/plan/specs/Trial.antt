-- The trial network and what is said of it: ten rows and a sheet.
use Rattle.std.specs.Prelude.{ℕ, ◌≡◌, List, [], ◌∷◌, length}
use Rattle.leg.specs.declared.Band.{Band}
use Rattle.leg.specs.declared.Leg.{Leg}
use Rattle.leg.specs.Ranges.{minute, band_of}
use Rattle.plan.specs.Network.{Minute, Cents, Network, Query}
use Rattle.plan.specs.Plan.{Ride, arrival, cost, Feasible}
use Rattle.plan.specs.Tie.{Named}
use Rattle.plan.specs.Sheet.{Step}
use Rattle.plan.specs.Legs.{network_of}

abbrev leg_of : ℕ → ℕ → Minute → List Band → Leg
leg_of from to time bands = record { from = from; to = to; time = minute time; bands = bands; count = length bands }

-- Its three legs, and the network of three places.
abbrev pub legs : List Leg
legs =
    leg_of 0 1 10 (band_of 0 500 ∷ band_of 60 100 ∷ [])
    ∷ leg_of 1 2 20 (band_of 0 200 ∷ band_of 80 900 ∷ [])
    ∷ leg_of 0 2 40 (band_of 0 800 ∷ [])
    ∷ []

-- document 01's trial network
abbrev pub trial : Network
trial = network_of 3 legs

-- What a row says: answer 10, or the plan's cost, its arrival and its rides, the last ride first.
pub data Says : Type 0 where
  ten : Says
  route : Cents → Minute → List Ride → Says

-- A row: start, end, earliest, latest, and what it says.
pub record Row : Type 0 where
  pub query : Query
  pub says : Says

-- a query, as a row of the table has it
abbrev pub ask : ℕ → ℕ → Minute → Minute → Query
ask s e t u = record { start = s; end = e; earliest = t; latest = u }

-- leg l left at minute d
abbrev pub drive : ℕ → Minute → Ride
drive l d = record { leg = l; leave = d }

abbrev row : ℕ → ℕ → Minute → Minute → Says → Row
row s e t u says = record { query = ask s e t u; says = says }

-- A row is right: there is no feasible plan, or the named plan is this one, of this cost and arrival.
abbrev pub Right : Network → Query → Says → Type 0
Right N q ten = (plan : List Ride) → Feasible N q plan → ⊥
Right N q (route x a rides) = Named N q rides × (cost N rides ≡ x) × (arrival N q rides ≡ a)

-- Each row of a list is right.
abbrev pub AllRight : Network → List Row → Type 0
AllRight N [] = Unit {0}
AllRight N (r ∷ rs) = Right N r.query r.says × AllRight N rs

-- The ten rows.
abbrev pub rows : List Row
rows =
    row 0 2 0 0 ten
    ∷ row 0 2 0 29 ten
    ∷ row 0 2 0 30 (route 700 30 (drive 1 10 ∷ drive 0 0 ∷ []))
    ∷ row 0 2 0 89 (route 700 30 (drive 1 10 ∷ drive 0 0 ∷ []))
    ∷ row 0 2 0 90 (route 300 90 (drive 1 70 ∷ drive 0 60 ∷ []))
    ∷ row 0 2 69 130 (route 300 99 (drive 1 79 ∷ drive 0 69 ∷ []))
    ∷ row 0 2 70 109 (route 1000 100 (drive 1 80 ∷ drive 0 70 ∷ []))
    ∷ row 0 2 70 130 (route 800 110 (drive 2 70 ∷ []))
    ∷ row 1 1 5 5 (route 0 5 [])
    ∷ row 2 0 0 2879 ten
    ∷ []

abbrev step : Minute → Cents → Step
step t x = record { minute = t; price = x }

-- The sheet for 0, 2, 0, 120.
abbrev pub sheet_query : Query
sheet_query = ask 0 2 0 120

-- the sheet for 0, 2, 0, 120
abbrev pub sheet : List (List Step)
sheet =
    (step 0 0 ∷ [])
    ∷ (step 10 500 ∷ step 70 100 ∷ [])
    ∷ (step 30 700 ∷ step 90 300 ∷ [])
    ∷ []
