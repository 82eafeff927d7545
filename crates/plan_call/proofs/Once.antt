-- THE PROMISE DETERMINES THE RESULT: two results of one input that both keep it are equal.
use Prim.Native.Nat.{ℕ}
use mathlib.Core.Path.{◌≡◌, refl, sym, ap, ◌∙◌, subst}
use mathlib.Core.Bool.{Bool, true, false}
use mathlib.Core.List.{List, ◌++◌}
use lib.Dec.{leb}
use lib.ListN.{length, drop}
use Rattle.answer.specs.Plans.{PlanAnswer}
use Rattle.std.specs.Prelude.{Err}
use Rattle.answer.specs.declared.Refusal.TheVariants.{Room}
use Rattle.network.specs.Reading.{pick}
use Rattle.plan.specs.Network.{Network, Query}
use Rattle.plan.proofs.Order.{named-once}
use Rattle.plan_file.specs.PlanFile.{PlanFile, plan_bytes, file_of_plan}
use Rattle.plan_file.proofs.Files.{one-file}
use Rattle.tabled.proofs.Once.{Same, comes-once}
use Rattle.plan_call.specs.Call.{Right, plan, none, Output, Answered, Plans}

-- the file and its answer
right-once : (N : Network) (q : Query) {f g : PlanFile} {x y : ℕ → PlanAnswer} → Right N q f x → Right N q g y → (f ≡ g) × (x ≡ y)
right-once N q (plan r h) (plan s k) = (ap (file_of_plan N q) (named-once N q r s h k), refl)
right-once N q (plan r h) (none k) = absurd (k r h.feasible)
right-once N q (none h) (plan s k) = absurd (h s k.feasible)
right-once N q (none h) (none k) = (refl, refl)

output-once : (b : Bool) (f : PlanFile) (out x y : List ℕ) → Output b f out x → Output b f out y → x ≡ y
output-once true f out x y (s, h, e) (t, k, d) = e ∙ ap (λ (l : List ℕ). l ++ drop (length l) out) (one-file f s t h k) ∙ sym d
output-once false f out x y e d = e ∙ sym d

answered-once : (N : Network) (q : Query) (out x y : List ℕ) (a b : PlanAnswer) → Answered N q out x a → Answered N q out y b → (a ≡ b) × (x ≡ y)
answered-once N q out x y a b h k =
    let same = right-once N q h.right k.right in
    let long : PlanFile → ℕ = λ f. plan_bytes (length f.rides) in (
      h.answer_is
          ∙ ap (λ (f : PlanFile). pick (leb (long f) (length out)) (h.given (long f)) (Err Room)) same.0
          ∙ ap (λ (g : ℕ → PlanAnswer). pick (leb (long k.file) (length out)) (g (long k.file)) (Err Room)) same.1
          ∙ sym k.answer_is,
      output-once (leb (long k.file) (length out)) k.file out x y
          (subst (λ (f : PlanFile). Output (leb (long f) (length out)) f out x) same.0 h.output_is) k.output_is,
    )

module _ (net : List ℕ) (q : Query) (table out : List ℕ) where
  -- TWO RESULTS THAT KEEP THE PROMISE ARE EQUAL
  pub plans-once : (a b : PlanAnswer) (t u x y : List ℕ) → Plans net q table t out x a → Plans net q table u out y b → Same a b t u x y
  plans-once a b t u x y h k = comes-once Answered answered-once net q table out a b t u x y h.comes k.comes
