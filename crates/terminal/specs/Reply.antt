-- What comes back over the C names: the number and the length of an answer that keeps the call's promise.
use Rattle.std.specs.Prelude.{ℕ, ◌≡◌}
use Rattle.answer.specs.Numbers.{Answer}
use Rattle.answer.specs.Numbers.{answer_number, answer_length}
use Rattle.answer.specs.Plans.{PlanAnswer}
use Rattle.answer.specs.Plans.{plan_number, plan_length}
use Rattle.gate.specs.Gate.{GateAnswer}
use Rattle.terminal.specs.declared.Reply.{Reply}

-- number and length of an answer that keeps the promise
pub record Replies (Promise : Answer → Type 0) (reply : Reply) : Type 0 where
  pub answer : Answer
  pub promise : Promise answer
  pub number_is : reply.number ≡ answer_number answer
  pub length_is : reply.length ≡ answer_length answer

-- the same for the plan call and the sheet call, whose answer 10 has a length too
pub record PlanReplies (Promise : PlanAnswer → Type 0) (reply : Reply) : Type 0 where
  pub answer : PlanAnswer
  pub promise : Promise answer
  pub number_is : reply.number ≡ plan_number answer
  pub length_is : reply.length ≡ plan_length answer

-- the gate gives a number alone
pub record Says (Promise : GateAnswer → Type 0) (number : ℕ) : Type 0 where
  pub answer : GateAnswer
  pub promise : Promise answer
  pub number_is : number ≡ answer_number answer
