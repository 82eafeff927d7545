use Prim.Native.Nat.{ℕ, ◌+◌, ◌*◌}
use native.Mathlib.Omega.{arith}
use mathlib.Core.Path.{◌≡◌, sym, ap, ◌∙◌}
use mathlib.Core.Bool.{true, false}
use Rattle.reader.specs.File.{ends_at}
use borrow.Author.Rules.{rules}
use Rattle.plan_reader.specs.InPlace.{HeadAllowed}
use Rattle.plan_reader.proofs.Laws.{says_here, says-ends}
use Rattle.plan_reader.proofs.plan_from.Goals as goal

pub returns-then-not-ends : goal.returns-then-not-ends
returns-then-not-ends c =
    let s = c.args.plan.now in
    λ f h.
    let e : true ≡ false = sym (says-ends s f h) ∙ ap (λ (n : ℕ). ends_at s (89 + 21 * n)) (sym c.field-legs.ensures) ∙ sym c.ends.ensures ∙ c.if-not-ends.true in
    let z : ◌≡◌ {A = ℕ} 0 1 = cc in
    omega arith

pub invariant_of-result-clause-says : goal.invariant_of-result-clause-says
invariant_of-result-clause-says c =
    let s = c.args.plan.now in
    let allowed : HeadAllowed s = search rules in
    says_here s allowed (ap (λ (n : ℕ). ends_at s (89 + 21 * n)) (sym c.field-legs.ensures) ∙ sym c.ends.ensures ∙ c.if-not-ends.false) (λ i. omega (arith, c.type_inv.plan i))
