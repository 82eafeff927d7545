-- Document 01, "Numbers that come back", for the plan call and the sheet call, which write a file with 0 and with 10.
use Rattle.std.specs.Prelude.{ℕ, Result, Ok}
use Rattle.answer.specs.declared.Refusal.{Refusal}
use Rattle.answer.specs.declared.Filed.{Filed}
use Rattle.answer.specs.declared.Filed.TheVariants.{Plan, NoPlan}
use Rattle.answer.specs.Numbers.{number_by, length_by}

-- what they answer: a file and its length, or a refusal
abbrev pub PlanAnswer : Type 0
PlanAnswer = Result Filed Refusal

-- a file of so many bytes, of a plan or of what goes with one
abbrev pub plan_filed : ℕ → PlanAnswer
plan_filed n = Ok (Plan n)

-- a file of so many bytes, where no plan is feasible
abbrev pub none_filed : ℕ → PlanAnswer
none_filed n = Ok (NoPlan n)

-- 0 is done, 10 no feasible plan
abbrev pub filed_number : Filed → ℕ
filed_number (Plan n) = 0
filed_number (NoPlan n) = 10

-- the length of the file, whatever it says
abbrev pub filed_length : Filed → ℕ
filed_length (Plan n) = n
filed_length (NoPlan n) = n

-- the number that comes back: that of the file, or of the refusal
abbrev pub plan_number : PlanAnswer → ℕ
plan_number = number_by filed_number

-- the length that comes back: that of the file, and 0 with a refusal
abbrev pub plan_length : PlanAnswer → ℕ
plan_length = length_by filed_length
