use mathlib.Core.Path.{sym, ap, ◌∙◌}
use lib.ListN.{length}
use Rattle.plan.specs.Network.{Query}
use Rattle.report.specs.Report.{latest_of, Reports}
use Rattle.report.proofs.Telling.{report-net, rest-is, fills-by}
use Rattle.report.proofs.whole_text.Goals as goal

pub returns : goal.returns
returns c =
    let a = c.args in
    let read = c.query_at-query.ensures in
    fills-by _ (Reports a.input.now (length a.table.now))
    (λ text p. report-net a.input.now (length a.table.now) text _ (rest-is a.input.now) c.if-input-lt5.false (sym c.field.ensures ∙ c.if-field-ne0.false) _
    (ap (λ (q : Query). q.start) read) (ap (λ (q : Query). q.end) read) (ap (λ (q : Query). q.earliest) read)
    (c.latest_of-latest.ensures ∙ ap (λ (q : Query). latest_of q.latest) read) p)
    a.page.now c.net_text.new.page c.net_text.result c.net_text.ensures
