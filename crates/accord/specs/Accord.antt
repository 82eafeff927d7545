-- Document 01: for one query, the plan call's file and the sheet call's file pass the gate; and the sheet serves every end.
use Rattle.std.specs.Prelude.{ℕ, Result, Ok, Err, ◌≡◌, List, take}
use Rattle.answer.specs.declared.Refusal.{Refusal}
use Rattle.answer.specs.declared.Filed.TheVariants.{Plan, NoPlan}
use Rattle.answer.specs.Plans.{PlanAnswer}
use Rattle.plan.specs.Network.{Query}
use Rattle.plan_call.specs.Call.{Plans}
use Rattle.sheet_call.specs.Sheet.{Sheets}
use Rattle.gate.specs.Gate.{GateSays}

-- the first n bytes of an output
pub record Front (n : ℕ) (out file : List ℕ) : Type 0 where
  pub is : file ≡ take n out

-- the file that a call wrote: with 0 and with 10 as many bytes of its output as the answer says, with any other answer none
abbrev pub Wrote : PlanAnswer → List ℕ → List ℕ → Type 0
Wrote (Ok (Plan n)) out file = Front n out file
Wrote (Ok (NoPlan n)) out file = Front n out file
Wrote (Err why) out file = ⊥

-- the same start and window, to another end
abbrev pub toward : Query → ℕ → Query
toward q end = record { start = q.start; end = end; earliest = q.earliest; latest = q.latest }

-- WHAT WE WRITE, WE ACCEPT: a plan and a sheet that the two calls wrote for one network file and one query, whatever each was lent;
-- the sheet may have been asked for with any end, so one sheet serves all plans of a start and a window
abbrev pub OursAccepted : Type 0
OursAccepted =
    (net : List ℕ) (q : Query) (end : ℕ) (plan sheet : List ℕ)
    → (table₁ table₁' out₁ out₁' : List ℕ) (answer₁ : PlanAnswer) → Plans net q table₁ table₁' out₁ out₁' answer₁ → Wrote answer₁ out₁' plan
    → (table₂ table₂' out₂ out₂' : List ℕ) (answer₂ : PlanAnswer) → Sheets net (toward q end) table₂ table₂' out₂ out₂' answer₂ → Wrote answer₂ out₂' sheet
    → (r : Result Unit Refusal) → GateSays net plan sheet r
    → r ≡ Ok tt
