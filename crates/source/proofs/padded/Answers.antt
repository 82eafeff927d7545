use Prim.Native.Nat.{◌+◌, ◌-◌, ◌*◌, ◌<◌}
use native.Mathlib.Omega.{arith}
use mathlib.Core.Path.{sym, ◌∙◌}
use lib.ListN.{length}
use borrow.Author.Tests.{leb-false}
use Rattle.source.proofs.Laws.{field_past, field-shifted}
use Rattle.source.proofs.padded.Goals.{Else-there}
use Rattle.source.proofs.padded.Goals as goal

-- the field is cut by the end
short : (c : Else-there) → 8 * length c.args.net.now < c.args.at + c.args.width
short c =
    let a = c.args in
    leb-false (a.at + a.width) (8 * length a.net.now) (sym c.there.ensures ∙ c.if-there.false)

pub returns-then-end-at : goal.returns-then-end-at
returns-then-end-at c = sym (field_past _ _ _ c.if-end-at.true)

pub returns : goal.returns
returns c =
    let a = c.args in
    let cut = short (goal.at.returns c).Else-there in
    rw c.field-2.ensures (field-shifted a.net.now a.at (8 * length a.net.now - a.at) a.width (omega arith) (omega arith) (omega arith))
