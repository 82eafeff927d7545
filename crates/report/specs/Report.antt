-- THE TEXT that `haul` prints, on every input. Document 01, "The program".
use Rattle.std.specs.Prelude.{ℕ, ◌-◌, ◌≡◌, Bool, true, false, cond, List, [], ◌∷◌, ◌++◌, ltb, eqb, length, drop}
use Rattle.answer.specs.Numbers.{number_of}
use Rattle.bits.specs.Field.{field}
use Rattle.network.specs.Network.{of_file}
use Rattle.plan.specs.Network.{Minute, Network, Query}
use Rattle.plan.specs.Plan.{Ride, arrival, cost, Feasible}
use Rattle.plan.specs.Tie.{Named}
use Rattle.tabled.specs.Judge.{Judged, refuse, serve, judged}
use Rattle.plan.specs.Network.{asking}
use Rattle.text.specs.Text.{item, line}
use Rattle.report.specs.Rides.{rides_in}

-- `answer N`
abbrev pub answer_word : List ℕ
answer_word = 97 ∷ 110 ∷ 115 ∷ 119 ∷ 101 ∷ 114 ∷ 32 ∷ []

-- the line that has the answer
abbrev pub answer_text : ℕ → List ℕ
answer_text n = line answer_word n

-- `cost C`
abbrev pub cost_word : List ℕ
cost_word = 99 ∷ 111 ∷ 115 ∷ 116 ∷ 32 ∷ []

-- the line that has the cost
abbrev pub cost_text : ℕ → List ℕ
cost_text n = line cost_word n

-- `arrive M`
abbrev pub arrive_word : List ℕ
arrive_word = 97 ∷ 114 ∷ 114 ∷ 105 ∷ 118 ∷ 101 ∷ 32 ∷ []

-- the line that has the arrival
abbrev pub arrive_text : ℕ → List ℕ
arrive_text n = line arrive_word n

-- `leg `
abbrev pub leg_word : List ℕ
leg_word = 108 ∷ 101 ∷ 103 ∷ 32 ∷ []

-- ` leave `
abbrev pub leave_word : List ℕ
leave_word = 32 ∷ 108 ∷ 101 ∷ 97 ∷ 118 ∷ 101 ∷ 32 ∷ []

-- ` wait `
abbrev pub wait_word : List ℕ
wait_word = 32 ∷ 119 ∷ 97 ∷ 105 ∷ 116 ∷ 32 ∷ []

-- `leg L leave D wait W`
abbrev pub leg_text : ℕ → Minute → Minute → List ℕ
leg_text leg leave wait = item leg_word leg ++ (item leave_word leave ++ line wait_word wait)

-- the legs, the first one first: a wait runs from the arrival before, or from earliest
abbrev pub rides_text : Network → Query → List Ride → List ℕ
rides_text N q [] = []
rides_text N q (r ∷ rs) = rides_text N q rs ++ leg_text r.leg r.leave (r.leave - arrival N q rs)

-- answer 0: the cost, the arrival, and the legs
abbrev pub plan_text : Network → Query → List Ride → List ℕ
plan_text N q rides = answer_text 0 ++ (cost_text (cost N rides) ++ (arrive_text (arrival N q rides) ++ rides_text N q rides))

-- the same of the plan that a plan file's bytes spell
abbrev pub file_text : Network → Query → List ℕ → List ℕ
file_text N q file =
    answer_text 0
    ++ (cost_text (field file 45 32)
    ++ (arrive_text (arrival N q (rides_in file (field file 77 12))) ++ rides_text N q (rides_in file (field file 77 12))))

-- the named plan, or that none is feasible
pub data Shows (N : Network) (q : Query) : List ℕ → Type 0 where
  shown : (rides : List Ride) → Named N q rides → Shows N q (plan_text N q rides)
  nothing : ((rides : List Ride) → Feasible N q rides → ⊥) → Shows N q (answer_text 10)

-- what is printed of a network and a query, when the network, the query and the cells have been judged
abbrev pub Prints : Judged → Query → List ℕ → Type 0
Prints (refuse why) q text = text ≡ answer_text (number_of why)
Prints (serve N) q text = Shows N q text

-- latest 4,095 stands for 1,439
abbrev pub latest_of : ℕ → ℕ
latest_of t = cond (eqb t 4095) 1439 t

-- the query: start 6, end 6, earliest 12, latest 12
abbrev pub query_in : List ℕ → Query
query_in input = asking (field input 0 6) (field input 6 6) (field input 12 12) (latest_of (field input 24 12))

-- under 5 bytes, and otherwise four zero bits behind the query or not
abbrev pub Whole : Bool → Bool → List ℕ → ℕ → List ℕ → Type 0
Whole true zeros input cells text = text ≡ answer_text 1
Whole false false input cells text = text ≡ answer_text 5
Whole false true input cells text = Prints (judged (of_file (drop 5 input)) (query_in input) cells) (query_in input) text

-- THE PROMISE: this is the text for this input, with so many cells
pub record Reports (input : List ℕ) (cells : ℕ) (text : List ℕ) : Type 0 where
  pub says : Whole (ltb (length input) 5) (eqb (field input 36 4) 0) input cells text
