-- NO TWO RESULTS: on one input, two results that keep the promise of a C name are equal, in number, length and each lent buffer. Assumes nothing.
use Prim.Native.Nat.{ℕ}
use mathlib.Core.Path.{◌≡◌, sym, ◌∙◌, ap}
use mathlib.Core.List.{List}
use Rattle.answer.specs.Numbers.{Answer}
use Rattle.answer.specs.Plans.{PlanAnswer}
use Rattle.answer.specs.Numbers.{answer_number, answer_length}
use Rattle.answer.specs.Plans.{plan_number, plan_length}
use Rattle.plan.specs.Network.{Query}
use Rattle.read_call.specs.Read.{Reads}
use Rattle.read_call.proofs.Results.{read-determined}
use Rattle.write_call.specs.Write.{Writes}
use Rattle.write_call.proofs.Results.{write-determined}
use Rattle.tabled.proofs.Once.{Same}
use Rattle.plan_call.specs.Call.{Plans}
use Rattle.plan_call.proofs.Once.{plans-once}
use Rattle.sheet_call.specs.Sheet.{Sheets}
use Rattle.sheet_call.proofs.Once.{sheet-determined}
use Rattle.gate.specs.Gate.{GateSays}
use Rattle.gate.proofs.Theorems.{one_answer}
use Rattle.terminal.specs.declared.Reply.{Reply}
use Rattle.terminal.specs.Reply.{Replies, PlanReplies, Says}

-- two replies with the same number and length, and lent buffers that came out the same
pub record Equal (r r' : Reply) (x x' y y' : List ℕ) : Type 0 where
  pub numbers : r.number ≡ r'.number
  pub lengths : r.length ≡ r'.length
  pub firsts : x ≡ x'
  pub seconds : y ≡ y'

-- the read call's and the write call's: one lent buffer
one-equal : (Promise : List ℕ → Answer → Type 0) → ((a b : List ℕ) (x y : Answer) → Promise a x → Promise b y → (x ≡ y) × (a ≡ b))
    → (a b : List ℕ) (r r' : Reply) → Replies (Promise a) r → Replies (Promise b) r' → Equal r r' a b a b
one-equal Promise once a b r r' h k =
    let same = once a b h.answer k.answer h.promise k.promise in
    record {
      numbers = h.number_is ∙ ap answer_number same.0 ∙ sym k.number_is;
      lengths = h.length_is ∙ ap answer_length same.0 ∙ sym k.length_is;
      firsts = same.1;
      seconds = same.1;
    }

pub haul-read-once : (net list a b : List ℕ) (r r' : Reply) → Replies (Reads net list a) r → Replies (Reads net list b) r' → Equal r r' a b a b
haul-read-once net list = one-equal (λ a. Reads net list a) (read-determined net list)

pub haul-write-once : (list out a b : List ℕ) (r r' : Reply) → Replies (Writes list out a) r → Replies (Writes list out b) r' → Equal r r' a b a b
haul-write-once list out = one-equal (λ a. Writes list out a) (write-determined list out)

-- the plan call's and the sheet call's: the table, then the output
plan-equal : (Promise : List ℕ → List ℕ → PlanAnswer → Type 0)
    → ((x y : PlanAnswer) (t u a b : List ℕ) → Promise t a x → Promise u b y → Same x y t u a b)
    → (t u a b : List ℕ) (r r' : Reply) → PlanReplies (Promise t a) r → PlanReplies (Promise u b) r' → Equal r r' t u a b
plan-equal Promise once t u a b r r' h k =
    let same = once h.answer k.answer t u a b h.promise k.promise in
    record {
      numbers = h.number_is ∙ ap plan_number same.answers ∙ sym k.number_is;
      lengths = h.length_is ∙ ap plan_length same.answers ∙ sym k.length_is;
      firsts = same.tables;
      seconds = same.outputs;
    }

module _ (net : List ℕ) (q : Query) (table out : List ℕ) where
  pub haul-plan-once : (t u a b : List ℕ) (r r' : Reply) → PlanReplies (Plans net q table t out a) r → PlanReplies (Plans net q table u out b) r'
      → Equal r r' t u a b
  haul-plan-once = plan-equal (λ t a. Plans net q table t out a) (plans-once net q table out)

  pub haul-sheet-once : (t u a b : List ℕ) (r r' : Reply) → PlanReplies (Sheets net q table t out a) r → PlanReplies (Sheets net q table u out b) r'
      → Equal r r' t u a b
  haul-sheet-once = plan-equal (λ t a. Sheets net q table t out a) (sheet-determined net q table out)

pub haul-gate-once : (net plan sheet : List ℕ) (n n' : ℕ) → Says (GateSays net plan sheet) n → Says (GateSays net plan sheet) n' → n ≡ n'
haul-gate-once net plan sheet n n' h k =
    h.number_is ∙ ap answer_number (one_answer net plan sheet h.answer k.answer h.promise k.promise) ∙ sym k.number_is
