-- `rows::settle`: the columns passed are settled and copied, and `best` is the last of them.
use Rattle.rows.proofs.Steps.{settle-more, settle-best}
use Rattle.rows.specs.Row.{at}
use Prim.Native.Nat.{◌<◌, min}
use mathlib.Core.Path.{◌≡◌}
use native.Mathlib.Omega.{arith}
use lib.ListN.{length}
use Rattle.rows.proofs.settle.Goals as goal

pub loop-j-preserved : goal.loop-j-preserved
loop-j-preserved c =
    let a = c.args in
    let l = c.loop-j in
    let v = c.min-best.result in
    let s = l.invariant.1 in
    let there : l.j < length l.part = omega (arith, s.long) in
    let room : l.j < length l.row = omega (arith, c.requires) in
    let is : v ≡ min (at l.part l.j) l.best = omega (arith, c.min-best.ensures) in (
      settle-best a.part.now l.part l.row a.from l.j l.best v s l.auto.j there room l.invariant.0 is,
      settle-more a.part.now l.part l.row a.from l.j l.best v s l.auto.j there room l.invariant.0 is,
    )
