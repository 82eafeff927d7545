-- `bits::put`: written out, so that a value that is too wide is refused here.
use native.Mathlib.Omega.{arith}
use Rattle.bits.proofs.put.Goals as goal

pub put_among-requires : goal.put_among-requires
put_among-requires c =
    let h = c.requires in
    (h.0, h.1, h.2, omega arith, omega arith, omega (arith, c.if-at-s.true))

pub put_among-requires-else-at-s : goal.put_among-requires-else-at-s
put_among-requires-else-at-s c =
    let h = c.requires in
    (h.0, h.1, h.2, omega arith, omega arith, omega arith)

pub returns-then-at-s : goal.returns-then-at-s
returns-then-at-s c = c.put_among.ensures

pub returns-else-at-s : goal.returns-else-at-s
returns-else-at-s c = c.put_among-else-at-s.ensures
