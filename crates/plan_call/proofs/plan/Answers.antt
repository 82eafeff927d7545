use borrow.Author.Rules.{rules}
use mathlib.Core.Path.{◌≡◌, sym, subst}
use Rattle.std.specs.Prelude.{Err}
use Rattle.plan_file.specs.PlanFile.{query_of}
use Rattle.tabled.proofs.Serving.{tabled, served, untouched}
use Rattle.plan_call.specs.Call.{Answered, Plans}
use Rattle.plan_call.proofs.plan.Goals as goal

pub returns-in_err-file : goal.returns-in_err-file
returns-in_err-file c =
    let a = c.args in
    let said : c.from_residual.result ≡ Err c.in_err-file.field-0.0 = search rules in
    subst (Plans a.net.now (query_of a.query) a.table.now c.fill_for.new.table a.out.now a.out.now) (sym said)
    (record { comes = untouched a.net.now _ a.table.now _ _ c.fill_for.ensures _ c.in_err-file.was Answered a.out.now })

pub returns : goal.returns
returns c =
    let a = c.args in
    record { comes = served a.net.now _ a.table.now _ _ c.fill_for.ensures _ c.in_ok-file.was Answered a.out.now _ _ c.answer.ensures }

pub answer-requires : goal.answer-requires
answer-requires c = tabled c.args.net.now _ c.args.table.now _ _ c.fill_for.ensures _ c.in_ok-file.was
