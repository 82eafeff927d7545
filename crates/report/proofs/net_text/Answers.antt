use borrow.Author.Rules.{rules}
use Prim.Native.Nat.{ℕ}
use mathlib.Core.Path.{◌≡◌, refl, sym, ap, ◌∙◌, subst}
use mathlib.Core.List.{List}
use lib.ListN.{length}
use Rattle.std.specs.Prelude.{Ok, Err}
use Rattle.answer.specs.declared.Filed.{Filed}
use Rattle.bits.specs.Field.{field}
use Rattle.network.specs.Network.{of_file}
use Rattle.chart.specs.Net.{theory_in}
use Rattle.plan_file.specs.PlanFile.{query_of}
use Rattle.tabled.specs.Judge.{serve, judged}
use Rattle.report.specs.Pages.{Fills}
use Rattle.report.specs.Rides.{Ridden}
use Rattle.report.specs.Report.{Prints, file_text}
use Rattle.report.proofs.Telling.{Told, plan-done, plan-none, plan-refused, told-ridden, told_text, printed}
use Rattle.report.proofs.net_text.Goals.{In-Plan, After-of-tariff}
use Rattle.report.proofs.net_text.Goals as goal

-- where the plan call filed a plan, its file tells it
this-plan : (c : In-Plan) → let a = c.args in
    (judged (of_file a.net.now) (query_of a.query) (length a.table.now) ≡ serve (theory_in a.net.now)) × Told (theory_in a.net.now) (query_of a.query) c.plan.new.out
this-plan c =
    let a = c.args in
    let filed : c.plan.result ≡ Ok (Filed.Plan c.in-Plan.field-0) = search rules in
    plan-done a.net.now (query_of a.query) a.table.now _ a.plan.now _ c.requires.0 _ _ filed c.plan.ensures

-- and the tariff is of the file that was lent
same : (c : After-of-tariff) → c.of-tariff.result.net.now ≡ c.args.net.now
same c = ap (λ r. r.now) c.of-tariff.ensures.0 ∙ c.in_ok-file.ensures

pub returns-in_err-plan : goal.returns-in_err-plan
returns-in_err-plan c =
    let a = c.args in
    let why = c.in_err-plan.field-0.0 in
    let said : c.from_residual-in_err-plan.result ≡ Err why = search rules in
    subst (Fills (Prints (judged (of_file a.net.now) (query_of a.query) (length a.table.now)) (query_of a.query)) a.page.now a.page.now) (sym said)
    (plan-refused a.net.now (query_of a.query) a.table.now _ a.plan.now _ c.requires.0 _ why c.in_err-plan.was c.plan.ensures, refl, refl, refl)

pub returns-in-NoPlan : goal.returns-in-NoPlan
returns-in-NoPlan c =
    let a = c.args in
    let filed : c.plan.result ≡ Ok (Filed.NoPlan c.in-NoPlan.field-0) = search rules in
    (plan-none a.net.now (query_of a.query) a.table.now _ a.plan.now _ c.requires.0 _ _ filed c.plan.ensures, refl, refl, refl)

pub returns-in-Plan : goal.returns-in-Plan
returns-in-Plan c =
    let a = c.args in
    let q = query_of a.query in
    let at = goal.at.returns-in-Plan c in
    let t = this-plan at.In-Plan in
    let j = judged (of_file a.net.now) q (length a.table.now) in
    printed (Prints j q) _ _ _ c.requires.2 c.text.ensures
    (subst (λ (s : List ℕ). Prints j q (file_text (theory_in s) q c.plan.new.out)) (sym (same at.After-of-tariff)) (told_text a.net.now q _ t.1 (length a.table.now) t.0))

pub invariant_of-rides : goal.invariant_of-rides
invariant_of-rides c =
    let a = c.args in
    let at = goal.at.invariant_of-rides c in
    let file = c.plan.new.out in
    record {
      ridden = subst (λ (s : List ℕ). Ridden s file (query_of a.query) (field file 77 12)) (sym (same at.After-of-tariff))
          (told-ridden a.net.now (query_of a.query) file (this-plan at.In-Plan).1);
    }
