use Prim.Native.Nat.{ℕ}
use native.Mathlib.Omega.{arith}
use mathlib.Core.Path.{refl}
use borrow.Author.Tests.{tests}
use Rattle.std.proofs.Common.{rules}
use Rattle.std.proofs.lemmas.Iterator.{cases_from_all, YieldsList-from_range}
use Rattle.gate.specs.Parts.{RuleOf}
use Rattle.gate.proofs.Sheets.{all-decide}
use Rattle.gate.proofs.judging.Judging.legs_obey.Goals as goal

pub returns : goal.returns
returns c =
    let a = c.args.self.now in
    let t = a.tariff.now in
    let n = t.size.legs in
    let rule : ℕ → Type 0 = RuleOf t.net.now a.laid.sheet.now in
    all-decide rule n c.all.result
    (cases_from_all _ _ _ rule (λ k. rule k → ⊥) c.all.ensures.ran (YieldsList-from_range 0 n n refl (omega arith))
    (λ x q k. search (rules, tests)) (λ x q k. search (rules, tests)))
