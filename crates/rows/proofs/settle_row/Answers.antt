-- `rows::settle_row`: the row has come back, and the table is put together again.
use Rattle.rows.proofs.Wholes.{settled-row, row-length}
use Prim.Native.Nat.{◌+◌, ◌-◌, ◌*◌, ◌≤◌}
use native.Mathlib.Omega.{arith}
use mathlib.Core.Path.{◌≡◌, ◌∙◌}
use lib.ListN.{length}
use Rattle.rows.proofs.settle_row.Goals as goal

pub returns : goal.returns
returns c =
    let a = c.args in
    let size : a.p * a.w + a.w - a.p * a.w ≡ a.w = omega arith in
    let fits : a.p * a.w + a.w ≤ length a.cells.now = omega arith in
    let all = row-length a.cells.now a.w a.p fits in
    let s = rw (size, all) at c.settle.ensures in
    rw size (settled-row a.cells.now a.w a.p fits c.settle.new.part (s.long ∙ all) c.settle.new.row a.from s)
