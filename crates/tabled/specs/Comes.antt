-- What a call that goes by the table comes to: number, length, output and table on every input, in the definitions' own words. What it
-- answers once the table is filled is a parameter: the plan call and the sheet call differ in that alone.
use Rattle.std.specs.Prelude.{ℕ, ◌*◌, ◌≤◌, ◌≡◌, List, length, get_or}
use Rattle.answer.specs.Plans.{PlanAnswer}
use Rattle.std.specs.Prelude.{Err}
use Rattle.plan.specs.Network.{Network, Query}
use Rattle.plan.specs.Table.{width, cell_at, MinuteTable}
use Rattle.tabled.specs.Judge.{Judged, refuse, serve}

-- answers 1 to 8 touch nothing
pub record Untouched (why : PlanAnswer) (table table' out out' : List ℕ) (answer : PlanAnswer) : Type 0 where
  pub answer_is : answer ≡ why
  pub table_is : table' ≡ table
  pub output_is : out' ≡ out

-- the table: each cell of the window holds what it should, and the cells past places × W keep what they held
pub record Filled (N : Network) (q : Query) (table after : List ℕ) : Type 0 where
  pub long : length after ≡ length table
  pub cells : MinuteTable N q (cell_at q after)
  pub rest : (i : ℕ) → N.places * width q ≤ i → get_or after i 0 ≡ get_or table i 0

-- answers 0, 9 and 10 fill the table
pub record Served (Answered : Network → Query → List ℕ → List ℕ → PlanAnswer → Type 0) (N : Network) (q : Query)
    (table table' out out' : List ℕ) (answer : PlanAnswer) : Type 0 where
  pub answered : Answered N q out out' answer
  pub filled : Filled N q table table'

-- a refusal that touches nothing, or the call's own answer and a filled table
abbrev pub Comes : (Network → Query → List ℕ → List ℕ → PlanAnswer → Type 0) → Judged → Query → List ℕ → List ℕ → List ℕ → List ℕ → PlanAnswer → Type 0
Comes Answered (refuse why) q table table' out out' answer = Untouched (Err why) table table' out out' answer
Comes Answered (serve N) q table table' out out' answer = Served Answered N q table table' out out' answer
