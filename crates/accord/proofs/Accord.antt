-- What the plan call and the sheet call write, the gate accepts. Assumes nothing.
use Prim.Native.Nat.{ℕ}
use native.Mathlib.Omega.{arith}
use mathlib.Core.Path.{◌≡◌, refl, sym, ◌∙◌, ap, subst}
use mathlib.Core.Bool.{Bool, true, false}
use mathlib.Core.List.{List, ◌++◌}
use lib.Dec.{leb}
use lib.ListN.{length, take, drop}
use lib.Seq.{take_at}
use Rattle.answer.specs.Plans.{PlanAnswer, plan_length}
use Rattle.std.specs.Prelude.{Result, Ok, Err}
use Rattle.answer.specs.declared.Filed.TheVariants.{Plan, NoPlan}
use Rattle.answer.specs.declared.Refusal.{Refusal}
use Rattle.answer.specs.declared.Refusal.TheVariants.{Room}
use Rattle.answer.specs.Plans.{plan_length}
use Rattle.bits.specs.Packed.{bits_of}
use Rattle.network.specs.Reading.{Found, refused, found, pick}
use Rattle.network.specs.Network.{Network as NetworkFile, of_file}
use Rattle.plan.specs.Network.{Network, Query, Askable}
use Rattle.plan.specs.Plan.{cost}
use Rattle.plan.specs.Sheet.{Step, OurSheet}
use Rattle.plan.proofs.Named.{named-fits}
use Rattle.plan.proofs.Order.{less-then-le}
use Rattle.plan_file.specs.PlanFile.{PlanFile, plan_bytes, FileOf, most_legs, Allowed}
use Rattle.plan_file.proofs.Files.{plan-size}
use Rattle.plan_reader.specs.InPlace.{Says}
use Rattle.tabled.specs.Judge.{judgement, with_network, judged}
use Rattle.tabled.specs.Comes.{Comes}
use Rattle.tabled.proofs.Judging.{Passed, passed}
use Rattle.plan_call.specs.Call.{Right, plan, none, Output, Answered}
use Rattle.sheet_file.specs.SheetFile.{sheet_of}
use Rattle.sheet_file.specs.Fields.{sheet_fields, sheet_bytes, FileOf as SheetFileOf}
use Rattle.sheet_file.proofs.ReadsBack.{sheet-reads-back}
use Rattle.sheet_call.specs.Sheet.{Right as SheetRight, some, none as no-plan, Output as SheetOutput, Answered as SheetAnswered}
use Rattle.gate.specs.Gate.{Known, GateSays}
use Rattle.gate.proofs.Theorems.{askable, least-accepted, none-accepted}
use Rattle.chart.specs.Net.{theory}
use Rattle.accord.specs.Accord.{Front, Wrote, toward, OursAccepted}
use Rattle.accord.proofs.Ends.{ours-toward}

-- ---- the file that was written is the whole file

front : (k : ℕ) (out file bytes rest : List ℕ) → Front k out file → out ≡ bytes ++ rest → length bytes ≡ k → file ≡ bytes
front k out file bytes rest w e size = w.is ∙ ap (take k) e ∙ take_at bytes rest k size

whole : (answer : PlanAnswer) (out file bytes rest : List ℕ) → Wrote answer out file → out ≡ bytes ++ rest → plan_length answer ≡ length bytes → file ≡ bytes
whole (Ok (Plan n)) out file bytes rest w e size = front _ out file bytes rest w e (omega (arith, size))
whole (Ok (NoPlan n)) out file bytes rest w e size = front _ out file bytes rest w e (omega (arith, size))
whole (Err why) out file bytes rest w e size = absurd w

-- a refused call wrote none
wrote_none : {A : Type 0} (answer : PlanAnswer) (why : Refusal) (out file : List ℕ) → answer ≡ Err why → Wrote answer out file → A
wrote_none answer why out file e w = absurd (subst (λ (a : PlanAnswer). Wrote a out file) e w)

module _ (N : Network) (q : Query) where
  -- what the plan call wrote
  record PlanWritten (bytes : List ℕ) : Type 0 where
    file : PlanFile
    given : ℕ → PlanAnswer
    right : Right N q file given
    is : FileOf file bytes

  plan-length : {file : PlanFile} {given : ℕ → PlanAnswer} → Right N q file given → (n : ℕ) → plan_length (given n) ≡ n
  plan-length (plan rides named) n = refl
  plan-length (none never) n = refl

  -- which is a plan file that says what it may
  plan-allowed : Askable N q → {file : PlanFile} {given : ℕ → PlanAnswer} → Right N q file given → Allowed most_legs file
  plan-allowed asked (plan rides named) =
      record { few = (named-fits N q asked rides named).0; none_price = λ z. absurd (omega arith); none_legs = λ z. absurd (omega arith) }
  plan-allowed asked (none never) = record { few = omega arith; none_price = λ z. refl; none_legs = λ z. refl }

  plan-written : (lent out : List ℕ) (answer : PlanAnswer) (s : List ℕ) → Answered N q lent out answer → Wrote answer out s → PlanWritten s
  plan-written lent out answer s a w = at (leb n (length lent)) a.answer_is a.output_is
    where
      n : ℕ
      n = plan_bytes (length a.file.rides)

      at : (b : Bool) → answer ≡ pick b (a.given n) (Err Room) → Output b a.file lent out → PlanWritten s
      at true e (bytes, is, at_front) =
          let size : plan_length answer ≡ length bytes = ap plan_length e ∙ plan-length a.right n ∙ sym (plan-size a.file bytes is) in
          let same = whole answer out s bytes (drop (length bytes) lent) w at_front size in
          record { file = a.file; given = a.given; right = a.right; is = subst (FileOf a.file) (sym same) is }
      at false e o = wrote_none answer Room out s e w

  -- what the sheet call wrote
  record SheetWritten (bytes : List ℕ) : Type 0 where
    sheet : List (List Step)
    ours : OurSheet N q sheet
    is : SheetFileOf sheet bytes

  sheet-length : {given : ℕ → PlanAnswer} → SheetRight N q given → (n : ℕ) → plan_length (given n) ≡ n
  sheet-length (some rides feasible) n = refl
  sheet-length (no-plan never) n = refl

  sheet-written : (lent out : List ℕ) (answer : PlanAnswer) (s : List ℕ) → SheetAnswered N q lent out answer → Wrote answer out s → SheetWritten s
  sheet-written lent out answer s a w = at (leb n (length lent)) a.answer_is a.output_is
    where
      n : ℕ
      n = sheet_bytes a.sheet

      at : (b : Bool) → answer ≡ pick b (a.given n) (Err Room) → SheetOutput b a.sheet lent out → SheetWritten s
      at true e (bytes, is, at_front) =
          let size : plan_length answer ≡ length bytes = ap plan_length e ∙ sheet-length a.right n ∙ sym is.size in
          let same = whole answer out s bytes (drop (length bytes) lent) w at_front size in
          record { sheet = a.sheet; ours = a.ours; is = subst (SheetFileOf a.sheet) (sym same) is }
      at false e o = wrote_none answer Room out s e w

-- ---- both files pass

module _ (net : List ℕ) (q : Query) (other : ℕ) (plan-file sheet-file : List ℕ) (r : Result Unit Refusal) (g : GateSays net plan-file sheet-file r) where
  -- of a network and a query that both calls served
  module _ (n : NetworkFile) (end : ℕ) (is : of_file net ≡ found n end) (cells : ℕ) (p : Passed n.places q cells) where
    known : Known n.places q
    known = record { start = p.start; end = p.end; earliest = p.earliest; latest = p.latest }

    passes : PlanWritten (theory n) q plan-file → SheetWritten (theory n) (toward q other) sheet-file → r ≡ Ok tt
    passes a s = at a.right (record { file = a.is; allowed = plan-allowed (theory n) q (askable net n end q is known p.window) a.right })
      where
        ours : OurSheet (theory n) q s.sheet
        ours = ours-toward (theory n) q other s.sheet s.ours

        reads : sheet_of n.places q sheet-file ≡ found s.sheet (bits_of (sheet_fields s.sheet))
        reads =
            subst (λ (k : ℕ). sheet_of k q sheet-file ≡ found s.sheet (bits_of (sheet_fields s.sheet))) ours.size
            (sheet-reads-back sheet-file q p.latest s.sheet (λ i low. ours.steps i (omega (arith, ours.size))) s.is)

        at : {f : PlanFile} {given : ℕ → PlanAnswer} → Right (theory n) q f given → Says plan-file f → r ≡ Ok tt
        at (plan rides named) says =
            least-accepted net plan-file sheet-file n end is _ says known p.window s.sheet _ reads ours r g refl
            (record { feasible = named.feasible; sum = refl })
            (λ other f. less-then-le (cost (theory n) rides) (cost (theory n) other) (named.first other f))
        at (none never) says =
            none-accepted net plan-file sheet-file n end is _ says known p.window s.sheet _ reads ours r g refl never

  module _ (table₁ table₁' out₁ out₁' : List ℕ) (answer₁ : PlanAnswer) (w₁ : Wrote answer₁ out₁' plan-file)
      (table₂ table₂' out₂ out₂' : List ℕ) (answer₂ : PlanAnswer) (w₂ : Wrote answer₂ out₂' sheet-file) where
    by-network : (x : Found NetworkFile) → of_file net ≡ x
        → Comes Answered (judged x q (length table₁)) q table₁ table₁' out₁ out₁' answer₁
        → Comes SheetAnswered (judged x (toward q other) (length table₂)) (toward q other) table₂ table₂' out₂ out₂' answer₂
        → r ≡ Ok tt
    by-network (refused why) is c d = wrote_none answer₁ why out₁' plan-file c.answer_is w₁
    by-network (found n end) is c d = by-judgement (judgement n.places q (length table₁)) (judgement n.places (toward q other) (length table₂)) refl c d
      where
        by-judgement : (i j : Result Unit Refusal) → judgement n.places q (length table₁) ≡ i
            → Comes Answered (with_network i (theory n)) q table₁ table₁' out₁ out₁' answer₁
            → Comes SheetAnswered (with_network j (theory n)) (toward q other) table₂ table₂' out₂ out₂' answer₂
            → r ≡ Ok tt
        by-judgement (Err why) j e c d = wrote_none answer₁ why out₁' plan-file c.answer_is w₁
        by-judgement (Ok one) (Err why) e c d = wrote_none answer₂ why out₂' sheet-file d.answer_is w₂
        by-judgement (Ok one) (Ok two) e c d =
            passes n end is (length table₁) (passed n.places q (length table₁) e)
            (plan-written (theory n) q out₁ out₁' answer₁ plan-file c.answered w₁)
            (sheet-written (theory n) (toward q other) out₂ out₂' answer₂ sheet-file d.answered w₂)

-- WHAT WE WRITE, WE ACCEPT
pub ours-accepted : OursAccepted
ours-accepted net q other plan-file sheet-file table₁ table₁' out₁ out₁' answer₁ p w₁ table₂ table₂' out₂ out₂' answer₂ s w₂ r g =
    by-network net q other plan-file sheet-file r g table₁ table₁' out₁ out₁' answer₁ w₁ table₂ table₂' out₂ out₂' answer₂ w₂ (of_file net) refl p.comes s.comes
