-- `rows::lower_row`: the lowered row is put back.
use Rattle.rows.proofs.Wholes.{lowered-row, row-length}
use Prim.Native.Nat.{◌+◌, ◌-◌, ◌*◌, ◌≤◌}
use native.Mathlib.Omega.{arith}
use mathlib.Core.Path.{◌≡◌, ◌∙◌}
use lib.ListN.{length}
use Rattle.rows.proofs.lower_row.Goals as goal

pub returns : goal.returns
returns c =
    let a = c.args in
    let size : a.p * a.w + a.w - a.p * a.w ≡ a.w = omega arith in
    let fits : a.p * a.w + a.w ≤ length a.cells.now = omega arith in
    let all = row-length a.cells.now a.w a.p fits in
    let s = rw size at c.in-Some.ensures in
    let b = c.between.ensures in
    let l = rw (size, b.0, b.1, b.2, b.3, b.4) at c.lower.ensures in
    rw size (lowered-row a.cells.now a.w a.p fits c.lower.new.part (l.long ∙ all) a.rides.row.now a.rides.from a.rides.until a.rides.time a.rides.add c.in-Some.first (omega arith) s.1 s.0 l)
