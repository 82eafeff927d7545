-- Document 01, "Numbers that come back": the number and the length of each answer.
use Rattle.std.specs.Prelude.{ℕ, Result, Ok, Err}
use Rattle.answer.specs.declared.Refusal.{Refusal}
use Rattle.answer.specs.declared.Refusal.TheVariants.{Short, Edition, Range, Order, Tail, Query, Window, Cells, Room, NoPlan, PlanFile, Plan, SheetFile, Rules, Loose}

-- the paper's number of a refusal
abbrev pub number_of : Refusal → ℕ
number_of Short = 1
number_of Edition = 2
number_of Range = 3
number_of Order = 4
number_of Tail = 5
number_of Query = 6
number_of Window = 7
number_of Cells = 8
number_of Room = 9
number_of NoPlan = 10
number_of PlanFile = 11
number_of Plan = 12
number_of SheetFile = 13
number_of Rules = 14
number_of Loose = 15

-- the number that comes back, where it is known which number goes with what was done
abbrev pub number_by : {A : Type 0} → (A → ℕ) → Result A Refusal → ℕ
number_by of (Ok done) = of done
number_by of (Err why) = number_of why

-- the length that comes back, likewise: 0 with a refusal
abbrev pub length_by : {A : Type 0} → (A → ℕ) → Result A Refusal → ℕ
length_by of (Ok done) = of done
length_by of (Err why) = 0

-- what a call that writes answers: a length, or a refusal
abbrev pub Answer : Type 0
Answer = Result ℕ Refusal

-- the number that comes back: 0 is done
abbrev pub answer_number : {A : Type 0} → Result A Refusal → ℕ
answer_number = number_by (λ done. 0)

-- the length that comes back: what was written, and 0 with a refusal
abbrev pub answer_length : Answer → ℕ
answer_length = length_by (λ n. n)
