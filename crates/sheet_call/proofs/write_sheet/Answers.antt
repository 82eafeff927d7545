use Prim.Native.Nat.{ℕ}
use mathlib.Core.Path.{ap, ◌∙◌}
use mathlib.Core.List.{List}
use lib.ListN.{length, get_or}
use Rattle.plan_file.proofs.Puts.{zeros-are}
use Rattle.sheet_call.specs.Rows.{sheet_in}
use Rattle.sheet_call.proofs.Rows.{places-size}
use Rattle.sheet_call.proofs.Answers.{sheet-file}
use Rattle.sheet_call.proofs.write_sheet.Goals as goal

pub returns : goal.returns
returns c =
    let a = c.args in
    let t = a.table.now in
    let zero = c.clear in
    sheet-file _ _ _ _ (sheet_in t.cells.now t.w t.earliest.0 t.places) t.places
    (places-size t.cells.now t.w t.earliest.0 0 t.places)
    (λ i. ap (λ (x : List ℕ). get_or x i 0) zero.ensures ∙ zeros-are (length a.file.now) i)
    (zero.auto.out ∙ c.requires)
    c.put.ensures c.put-2.ensures c.put_places.ensures
