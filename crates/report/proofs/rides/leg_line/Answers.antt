use Rattle.text.proofs.Adding.{writes_then, item-long, line-long}
use Rattle.report.specs.Report.{leg_word, leave_word, wait_word}
use native.Mathlib.Omega.{arith}
use Rattle.report.proofs.rides.leg_line.Goals as goal

pub item-requires-2 : goal.item-requires-2
item-requires-2 c =
    let e = c.item.ensures in omega (arith, c.requires, e.adds.to_is, e.adds.same_length, item-long leg_word c.args.leg)

pub line-requires : goal.line-requires
line-requires c =
    let a = c.args in
    let e = c.item.ensures in
    let f = c.item-2.ensures in
    omega (arith, c.requires, e.adds.to_is, e.adds.same_length, f.adds.to_is, f.adds.same_length, item-long leg_word a.leg, item-long leave_word a.departure.0)

pub returns : goal.returns
returns c =
    let a = c.args in
    let e = c.item.ensures in
    let f = c.item-2.ensures in
    let g = c.line.ensures in (
      writes_then e (writes_then f g),
      omega (arith, e.adds.to_is, f.adds.to_is, g.adds.to_is, item-long leg_word a.leg, item-long leave_word a.departure.0, line-long wait_word a.wait.0),
    )
