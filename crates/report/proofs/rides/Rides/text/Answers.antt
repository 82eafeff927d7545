use Rattle.text.proofs.Adding.{line-long}
use Rattle.report.specs.Report.{answer_word, cost_word, arrive_word}
use native.Mathlib.Omega.{arith}
use Rattle.report.proofs.rides.Rides.text.Goals as goal

pub line-requires : goal.line-requires
line-requires c =
    let e = c.answer_line.ensures in omega (arith, e.adds.to_is, e.adds.same_length, line-long answer_word 0, c.requires)

pub line-requires-2 : goal.line-requires-2
line-requires-2 c =
    let e = c.answer_line.ensures in
    let f = c.line.ensures in
    omega (arith, e.adds.to_is, e.adds.same_length, f.adds.to_is, f.adds.same_length, line-long answer_word 0, line-long cost_word c.field-cost.result, c.requires)

pub lines-requires : goal.lines-requires
lines-requires c =
    let a = c.args in
    let e = c.answer_line.ensures in
    let f = c.line.ensures in
    let g = c.line-2.ensures in
    omega (arith, e.adds.to_is, e.adds.same_length, f.adds.to_is, f.adds.same_length, g.adds.to_is, g.adds.same_length, line-long answer_word 0, line-long cost_word c.field-cost.result, line-long arrive_word c.arrival_after-arrival.result.0, c.requires)
