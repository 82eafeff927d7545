-- `bits::splice`: the old bits are taken away, and the new are added.
use native.Mathlib.Omega.{arith}
use Rattle.bits.proofs.Splices.{old-within, splice-code, splice-below}
use Rattle.bits.proofs.splice.Goals as goal

-- first, so that a wrong program is refused here
pub returns : goal.returns
returns c =
    let a = c.args in
    rw (c.from.ensures, c.from-2.ensures, c.cut.ensures) (splice-code a.word a.down a.width a.value c.requires.3 (omega arith))

pub overflow_sub-result : goal.overflow_sub-result
overflow_sub-result c =
    let a = c.args in
    rw (c.from.ensures, c.cut.ensures) (old-within a.word a.down a.width a.value c.requires.3 (omega arith))

pub overflow_add-result : goal.overflow_add-result
overflow_add-result c =
    let a = c.args in
    rw (returns c)
    (record { fits = splice-below a.word a.down a.width a.value c.requires.3 64 (omega arith) c.ranges.word.fits })
