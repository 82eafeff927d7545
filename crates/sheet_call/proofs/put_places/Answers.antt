use native.Mathlib.Omega.{arith}
use Rattle.rows.proofs.Wholes.{row-length}
use Rattle.sheet_call.proofs.Turns.{placing-more, placing-room, placing-done, place-fits}
use Rattle.sheet_call.proofs.put_places.Goals as goal

pub put_place-at-requires : goal.put_place-at-requires
put_place-at-requires c =
    let l = c.loop-p in
    let a = c.args in
    let t = a.table.now in
    let taken = c.loop-p-test.true in
    let long = row-length t.cells.now t.w l.p (place-fits t.cells.now t.w t.places t.earliest.0 a.out.now t.table l.out l.at l.p l.invariant taken) in
    rw c.row.ensures (
      omega (arith, long, t.clock),
      omega (arith, l.invariant.near, l.invariant.within, t.table.few),
      placing-room t.cells.now t.w t.places t.earliest.0 a.out.now t.table l.out l.at l.p l.invariant taken,
    )

pub loop-p-preserved : goal.loop-p-preserved
loop-p-preserved c =
    let l = c.loop-p in
    let a = c.args in
    let t = a.table.now in
    let e = rw c.row.ensures at c.put_place-at.ensures in
    placing-more t.cells.now t.w t.places t.earliest.0 a.out.now t.table l.out l.at l.p l.invariant c.loop-p-test.true _ _ e.0 e.1 e.2

pub returns : goal.returns
returns c =
    let l = c.loop-p in
    let a = c.args in
    let t = a.table.now in
    placing-done t.cells.now t.w t.places t.earliest.0 a.out.now t.table l.out l.at l.p l.invariant (omega arith)
