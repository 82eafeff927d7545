-- What the gate answers, in document 01's order: the network's faults, 11, 6, 7, 12, 13, 14, 15, and 0 where none of these applies.
use Rattle.std.specs.Prelude.{ℕ, ◌≤◌, ◌<◌, ◌≡◌, ◌⊎◌, List, Result, Ok, Err}
use Rattle.std.proofs.Math.Option.{Option}
use Rattle.answer.specs.declared.Refusal.{Refusal}
use Rattle.network.specs.Reading.{Found, refused, found}
use Rattle.network.specs.Network.{Network as NetworkFile, of_file}
use Rattle.plan.specs.Network.{Cents, Network, Query}
use Rattle.plan.specs.Plan.{cost, Feasible}
use Rattle.plan.specs.Sheet.{Step, value_at, Obeys, TightFor}
use Rattle.chart.specs.Net.{theory}
use Rattle.plan_file.specs.PlanFile.{PlanFile, stated}
use Rattle.plan_reader.specs.InPlace.{Says}
use Rattle.sheet_file.specs.SheetFile.{sheet_of}

-- 6: start and end are places, and the times are minutes
pub record Known (places : ℕ) (q : Query) : Type 0 where
  pub start : q.start < places
  pub end : q.end < places
  pub earliest : q.earliest ≤ 2879
  pub latest : q.latest ≤ 2879

-- 12: verdict "plan" comes with a feasible plan and its cost
pub record Costs (N : Network) (f : PlanFile) : Type 0 where
  pub feasible : Feasible N f.query f.rides
  pub sum : cost N f.rides ≡ f.price

-- what a plan file says holds: "none" claims no plan
abbrev pub Holds : Network → PlanFile → Type 0
Holds N f = f.verdict ≡ 1 → Costs N f

-- what comes back: accepted, or a refusal
abbrev pub GateAnswer : Type 0
GateAnswer = Result Unit Refusal

-- either P holds, and the rest decides; or it does not, and the answer is this refusal
abbrev pub Unless : GateAnswer → Refusal → Type 0 → Type 0 → Type 0
Unless r why P rest = (P × rest) ⊎ ((P → ⊥) × (r ≡ Err why))

-- the sheet
abbrev pub OfSheet : GateAnswer → Network → Query → Option Cents → Found (List (List Step)) → Type 0
OfSheet r N q cost (refused why) = r ≡ Err Refusal.SheetFile
OfSheet r N q cost (found sheet end) =
    Unless r Refusal.Rules (Obeys N q (value_at sheet))
    (Unless r Refusal.Loose (TightFor q (value_at sheet) cost)
    (r ≡ Ok tt))

-- the query and the plan, then the sheet
abbrev pub OfPlan : GateAnswer → NetworkFile → PlanFile → List ℕ → Type 0
OfPlan r net f sheet =
    Unless r Refusal.Query (Known net.places f.query)
    (Unless r Refusal.Window (f.query.earliest ≤ f.query.latest)
    (Unless r Refusal.Plan (Holds (theory net) f)
    (OfSheet r (theory net) f.query (stated f) (sheet_of net.places f.query sheet))))

-- the plan file: what it says, or 11 where the bytes say nothing
abbrev pub OfFiles : GateAnswer → NetworkFile → List ℕ → List ℕ → Type 0
OfFiles r net plan sheet =
    ((f : PlanFile) × Says plan f × OfPlan r net f sheet)
    ⊎ (((f : PlanFile) → Says plan f → ⊥) × (r ≡ Err Refusal.PlanFile))

-- the network first
abbrev pub OfNetwork : GateAnswer → Found NetworkFile → List ℕ → List ℕ → Type 0
OfNetwork r (refused why) plan sheet = r ≡ Err why
OfNetwork r (found net end) plan sheet = OfFiles r net plan sheet

-- WHAT THE GATE ANSWERS for the bytes of the three files
abbrev pub GateSays : List ℕ → List ℕ → List ℕ → GateAnswer → Type 0
GateSays net plan sheet r = OfNetwork r (of_file net) plan sheet
