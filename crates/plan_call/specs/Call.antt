-- THE PLAN CALL'S PROMISE: number, length, output and table on every input, in the definitions' own words.
use Rattle.std.specs.Prelude.{ℕ, ◌≡◌, Bool, true, false, List, ◌++◌, leb, length, drop}
use Rattle.answer.specs.Plans.{PlanAnswer, plan_filed, none_filed}
use Rattle.std.specs.Prelude.{Err}
use Rattle.answer.specs.declared.Refusal.TheVariants.{Room}
use Rattle.network.specs.Reading.{pick}
use Rattle.network.specs.Network.{of_file}
use Rattle.plan.specs.Network.{Network, Query}
use Rattle.plan.specs.Plan.{Ride, Feasible}
use Rattle.plan.specs.Tie.{Named}
use Rattle.plan_file.specs.PlanFile.{PlanFile, plan_bytes, file_of_plan, none_file, FileOf}
use Rattle.tabled.specs.Judge.{judged}
use Rattle.tabled.specs.Comes.{Comes}

-- what the file says and the answer that goes with it, if there is room: the named plan and its cost, or "none" where no plan is feasible
pub data Right (N : Network) (q : Query) : PlanFile → (ℕ → PlanAnswer) → Type 0 where
  plan : (rides : List Ride) → Named N q rides → Right N q (file_of_plan N q rides) plan_filed
  none : ((rides : List Ride) → Feasible N q rides → ⊥) → Right N q (none_file q) none_filed

-- the output: the file at its front, and the rest keeps its bytes; without room it keeps them all
abbrev pub Output : Bool → PlanFile → List ℕ → List ℕ → Type 0
Output true file out after = (bytes : List ℕ) × FileOf file bytes × (after ≡ bytes ++ drop (length bytes) out)
Output false file out after = after ≡ out

-- answers 0, 9 and 10
pub record Answered (N : Network) (q : Query) (out after : List ℕ) (answer : PlanAnswer) : Type 0 where
  pub file : PlanFile
  pub given : ℕ → PlanAnswer
  pub right : Right N q file given
  pub answer_is : answer ≡ pick (leb (plan_bytes (length file.rides)) (length out)) (given (plan_bytes (length file.rides))) (Err Room)
  pub output_is : Output (leb (plan_bytes (length file.rides)) (length out)) file out after

-- the plan call's promise, for every file, query, table and output
pub record Plans (net : List ℕ) (q : Query) (table table' out out' : List ℕ) (answer : PlanAnswer) : Type 0 where
  pub comes : Comes Answered (judged (of_file net) q (length table)) q table table' out out' answer
