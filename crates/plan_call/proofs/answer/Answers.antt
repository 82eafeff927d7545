use Prim.Native.Nat.{ℕ, ◌%◌}
use lib.Seq.{length-take-le}
use mathlib.Core.Path.{◌≡◌, sym, ap, ◌∙◌, subst}
use mathlib.Core.List.{List}
use Rattle.network.specs.declared.Size.{Size}
use Rattle.tabled.specs.Tabled.{Tabled}
use Rattle.walk.specs.Walk.{NamedFile}
use Rattle.answer.specs.Plans.{none_filed}
use Rattle.plan_file.specs.PlanFile.{query_of, none_file}
use Rattle.tabled.proofs.Serving.{end-in}
use Rattle.chart.specs.Net.{theory_in}
use Rattle.plan_call.proofs.Answers.{no_room, room, none_right, arrival-in, ending, too_long, written}
use native.Mathlib.Omega.{arith}
use Rattle.plan_call.proofs.answer.Goals as goal

pub returns-then-out-lt12 : goal.returns-then-out-lt12
returns-then-out-lt12 c =
    let a = c.args in
    no_room (theory_in a.file.net.now) (query_of a.table.query) a.out.now (none_file (query_of a.table.query)) none_filed
    (none_right a.file a.table.query a.table.cells.now c.requires (sym c.cell.ensures ∙ c.if-cell.true))
    c.if-out-lt12.true

pub returns-then-cell : goal.returns-then-cell
returns-then-cell c =
    let a = c.args in
    room (theory_in a.file.net.now) (query_of a.table.query) a.out.now c.write_none.new.file (none_file (query_of a.table.query)) none_filed
    (none_right a.file a.table.query a.table.cells.now c.requires (sym c.cell.ensures ∙ c.if-cell.true))
    c.write_none.ensures 12 (c.write_none.auto.file ∙ length-take-le 12 a.out.now c.if-out-lt12.false) c.if-out-lt12.false

pub returns-then-out-bytes : goal.returns-then-out-bytes
returns-then-out-bytes c =
    let a = c.args in
    too_long a.file a.table.query a.table.cells.now c.requires (λ e. c.if-cell.false (c.cell.ensures ∙ e)) _ c.first-arrival.ensures
    c.cell-2.result c.cell-2.ensures a.out.now (omega (arith, c.if-out-bytes.true, c.div_ceil-bytes.ensures, c.legs_of-legs.ensures))

pub returns : goal.returns
returns c =
    let a = c.args in
    let n = c.div_ceil-bytes.result in
    let net : c.of-tariff.result.net.now ≡ a.file.net.now = ap (λ r. r.now) c.of-tariff.ensures.0 in
    let named = subst (λ (s : List ℕ). NamedFile (theory_in s) (query_of a.table.query) c.write_plan.new.file) net c.write_plan.ensures in
    written (theory_in a.file.net.now) (query_of a.table.query) a.out.now c.write_plan.new.file named n
    (c.write_plan.auto.file ∙ length-take-le n a.out.now c.if-out-bytes.false) c.if-out-bytes.false

pub cell-requires : goal.cell-requires
cell-requires c = let a = c.args in end-in a.file a.table.query a.table.cells.now c.requires

pub first-arrival-requires : goal.first-arrival-requires
first-arrival-requires c = let a = c.args in (omega arith, end-in a.file a.table.query a.table.cells.now c.requires)

pub cell-requires-2 : goal.cell-requires-2
cell-requires-2 c =
    let a = c.args in
    arrival-in a.file a.table.query a.table.cells.now c.requires (λ e. c.if-cell.false (c.cell.ensures ∙ e)) _ c.first-arrival.ensures

pub write_plan-requires : goal.write_plan-requires
write_plan-requires c =
    let a = c.args in
    let t = c.of-tariff.result in
    let net : t.net.now ≡ a.file.net.now = ap (λ r. r.now) c.of-tariff.ensures.0 in
    let tabled = subst (λ (s : List ℕ). Tabled s t.size a.table.query a.table.cells.now) (sym net)
    (subst (λ (z : Size). Tabled a.file.net.now z a.table.query a.table.cells.now) (sym c.of-tariff.ensures.1) c.requires) in
    let long = length-take-le c.div_ceil-bytes.result a.out.now c.if-out-bytes.false in
    let legs = c.legs_of-legs.ensures ∙ ap (λ (x : ℕ). x % 64) c.cell-2.ensures in
    (ending _ tabled (λ e. c.if-cell.false (c.cell.ensures ∙ e)) _ c.first-arrival.ensures, long ∙ omega (arith, c.div_ceil-bytes.ensures, legs))
