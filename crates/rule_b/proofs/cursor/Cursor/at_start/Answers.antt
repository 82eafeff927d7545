use Rattle.bits.proofs.Fields.{field_below}
use native.Mathlib.Omega.{arith}
use Rattle.rule_b.proofs.cursor.Cursor.at_start.Goals as goal

pub invariant_of-result : goal.invariant_of-result
invariant_of-result c =
    let p = c.args.place in
    let at = c.first-at.ensures in
    let left = c.count-left.ensures in
    record { held = record { inside = omega (arith, at, left, p.asked.inside); near = omega (arith, at, left, field_below p.sheet.now p.bit 12, c.ranges.place); next_is = c.first-next.ensures } }
