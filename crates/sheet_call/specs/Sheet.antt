-- THE SHEET CALL'S PROMISE: number, length, output and table on every input, in the definitions' own words.
use Rattle.std.specs.Prelude.{ℕ, ◌≡◌, Bool, true, false, List, ◌++◌, leb, length, drop}
use Rattle.answer.specs.Plans.{PlanAnswer, plan_filed, none_filed}
use Rattle.std.specs.Prelude.{Err}
use Rattle.answer.specs.declared.Refusal.TheVariants.{Room}
use Rattle.network.specs.Reading.{pick}
use Rattle.network.specs.Network.{of_file}
use Rattle.plan.specs.Network.{Network, Query}
use Rattle.plan.specs.Plan.{Ride, Feasible}
use Rattle.plan.specs.Sheet.{Step, OurSheet}
use Rattle.tabled.specs.Judge.{judged}
use Rattle.tabled.specs.Comes.{Comes}
use Rattle.sheet_file.specs.Fields.{sheet_bytes, FileOf}

-- the answer that goes with the sheet, if there is room: 0 exactly when a plan is feasible, 10 exactly when none is
pub data Right (N : Network) (q : Query) : (ℕ → PlanAnswer) → Type 0 where
  some : (plan : List Ride) → Feasible N q plan → Right N q plan_filed
  none : ((plan : List Ride) → Feasible N q plan → ⊥) → Right N q none_filed

-- the output: the file at its front, and the rest keeps its bytes; without room it keeps them all
abbrev pub Output : Bool → List (List Step) → List ℕ → List ℕ → Type 0
Output true sheet out after = (bytes : List ℕ) × FileOf sheet bytes × (after ≡ bytes ++ drop (length bytes) out)
Output false sheet out after = after ≡ out

-- answers 0, 9 and 10: the sheet is our sheet
pub record Answered (N : Network) (q : Query) (out after : List ℕ) (answer : PlanAnswer) : Type 0 where
  pub sheet : List (List Step)
  pub ours : OurSheet N q sheet
  pub given : ℕ → PlanAnswer
  pub right : Right N q given
  pub answer_is : answer ≡ pick (leb (sheet_bytes sheet) (length out)) (given (sheet_bytes sheet)) (Err Room)
  pub output_is : Output (leb (sheet_bytes sheet) (length out)) sheet out after

-- the sheet call's promise, for every file, query, table and output
pub record Sheets (net : List ℕ) (q : Query) (table table' out out' : List ℕ) (answer : PlanAnswer) : Type 0 where
  pub comes : Comes Answered (judged (of_file net) q (length table)) q table table' out out' answer
