-- THE PROMISE DETERMINES THE RESULT: two results of one input that both keep it are equal.
use Prim.Native.Nat.{ℕ}
use mathlib.Core.Path.{◌≡◌, refl, sym, ap, ◌∙◌, subst}
use mathlib.Core.Bool.{Bool, true, false}
use mathlib.Core.List.{List, ◌++◌}
use lib.Dec.{leb}
use lib.ListN.{length, drop}
use Rattle.answer.specs.Plans.{PlanAnswer}
use Rattle.std.specs.Prelude.{Err}
use Rattle.answer.specs.declared.Refusal.TheVariants.{Room}
use Rattle.bits.proofs.Packing.{packed-unique}
use Rattle.network.specs.Reading.{pick}
use Rattle.plan.specs.Network.{Network, Query}
use Rattle.plan.specs.Sheet.{Step}
use Rattle.plan.proofs.OneSheet.{our-sheet-once}
use Rattle.tabled.proofs.Once.{Same, comes-once}
use Rattle.sheet_file.specs.Fields.{sheet_fields, sheet_bytes}
use Rattle.sheet_call.specs.Sheet.{Right, some, none, Output, Answered, Sheets}

right-once : (N : Network) (q : Query) {x y : ℕ → PlanAnswer} → Right N q x → Right N q y → x ≡ y
right-once N q (some r h) (some s k) = refl
right-once N q (some r h) (none k) = absurd (k r h)
right-once N q (none h) (some s k) = absurd (h s k)
right-once N q (none h) (none k) = refl

output-once : (b : Bool) (sheet : List (List Step)) (out x y : List ℕ) → Output b sheet out x → Output b sheet out y → x ≡ y
output-once true f out x y (s, h, e) (t, k, d) = e ∙ ap (λ (l : List ℕ). l ++ drop (length l) out) (packed-unique (sheet_fields f) s t h k) ∙ sym d
output-once false f out x y e d = e ∙ sym d

answered-once : (N : Network) (q : Query) (out x y : List ℕ) (a b : PlanAnswer) → Answered N q out x a → Answered N q out y b → (a ≡ b) × (x ≡ y)
answered-once N q out x y a b h k =
    let same = our-sheet-once N q h.sheet k.sheet h.ours k.ours in
    let given = right-once N q h.right k.right in (
      h.answer_is
          ∙ ap (λ (f : List (List Step)). pick (leb (sheet_bytes f) (length out)) (h.given (sheet_bytes f)) (Err Room)) same
          ∙ ap (λ (g : ℕ → PlanAnswer). pick (leb (sheet_bytes k.sheet) (length out)) (g (sheet_bytes k.sheet)) (Err Room)) given
          ∙ sym k.answer_is,
      output-once (leb (sheet_bytes k.sheet) (length out)) k.sheet out x y
          (subst (λ (f : List (List Step)). Output (leb (sheet_bytes f) (length out)) f out x) same h.output_is) k.output_is,
    )

module _ (net : List ℕ) (q : Query) (table out : List ℕ) where
  -- TWO RESULTS THAT KEEP THE PROMISE ARE EQUAL
  pub sheet-determined : (a b : PlanAnswer) (t u x y : List ℕ) → Sheets net q table t out x a → Sheets net q table u out y b → Same a b t u x y
  sheet-determined a b t u x y h k = comes-once Answered answered-once net q table out a b t u x y h.comes k.comes
