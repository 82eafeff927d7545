use Prim.Native.Nat.{ℕ}
use mathlib.Core.Path.{sym, subst, ◌∙◌}
use Rattle.plan.specs.Table.{width}
use Rattle.plan_file.specs.PlanFile.{query_of}
use Rattle.plan_file.proofs.Windows.{wide}
use Rattle.tabled.proofs.Serving.{end-in}
use Rattle.sheet_call.specs.Rows.{sheet_in}
use Rattle.sheet_file.specs.Fields.{FileOf}
use Rattle.sheet_call.specs.Parts.{Weighed}
use Rattle.sheet_call.proofs.Answers.{too_long, no-plan, done}
use Rattle.sheet_call.proofs.answer.Goals.{After-weigh-bytes, After-write_sheet}
use Rattle.sheet_call.proofs.answer.Goals as goal

-- what is weighed and written is as wide as the window
weighed : (c : After-weigh-bytes) → let a = c.args in Weighed a.table.cells.now (width (query_of a.table.query)) a.file.size.places c.weigh-bytes.result
weighed c =
    let a = c.args in
    subst (λ (w : ℕ). Weighed a.table.cells.now w a.file.size.places c.weigh-bytes.result)
    (wide a.table.query c.window.result c.columns.result c.window.ensures c.columns.ensures.0) c.weigh-bytes.ensures

filed : (c : After-write_sheet) → let a = c.args in FileOf (sheet_in a.table.cells.now (width (query_of a.table.query)) a.table.query.earliest.0 a.file.size.places) c.write_sheet.new.file
filed c =
    let a = c.args in
    subst (λ (w : ℕ). FileOf (sheet_in a.table.cells.now w a.table.query.earliest.0 a.file.size.places) c.write_sheet.new.file)
    (wide a.table.query c.window.result c.columns.result c.window.ensures c.columns.ensures.0) c.write_sheet.ensures

pub returns-then-out-bytes : goal.returns-then-out-bytes
returns-then-out-bytes c =
    let a = c.args in
    too_long a.file a.table.query a.table.cells.now c.requires a.out.now c.weigh-bytes.result (weighed (goal.at.returns-then-out-bytes c).After-weigh-bytes) c.if-out-bytes.true

pub returns-then-cell : goal.returns-then-cell
returns-then-cell c =
    let a = c.args in
    let at = goal.at.returns-then-cell c in
    no-plan a.file a.table.query a.table.cells.now c.requires a.out.now c.weigh-bytes.result (weighed at.After-weigh-bytes) c.if-out-bytes.false _ (filed at.After-write_sheet)
    (sym c.cell.ensures ∙ c.if-cell.true)

pub returns : goal.returns
returns c =
    let a = c.args in
    let at = goal.at.returns c in
    done a.file a.table.query a.table.cells.now c.requires a.out.now c.weigh-bytes.result (weighed at.After-weigh-bytes) c.if-out-bytes.false _ (filed at.After-write_sheet)
    (λ e. c.if-cell.false (c.cell.ensures ∙ e))

pub cell-requires : goal.cell-requires
cell-requires c = let a = c.args in end-in a.file a.table.query a.table.cells.now c.requires
