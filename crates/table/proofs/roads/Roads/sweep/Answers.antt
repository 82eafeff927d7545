-- `Roads::sweep`: what the sweep keeps; the sum of the cells falls, or else fewer columns are new.
use Rattle.table.proofs.Visits.{turn-falls, swept}
use Rattle.table.proofs.roads.Roads.sweep.Goals as goal

pub returns : goal.returns
returns c =
    let l = c.loop-p in
    swept c.args.self.now c.width-w.result c.width-w.ensures l.cells l.low l.invariant.2 c.in_default.ensures

pub loop-p-smaller : goal.loop-p-smaller
loop-p-smaller c =
    let l = c.loop-p in
    let new = c.in-Some.ensures in
    turn-falls c.args.self.now c.width-w.result c.width-w.ensures l.cells c.visit.new.cells l.low c.visit.new.low c.in-Some.p new.0 l.invariant.1
    new.1 l.invariant.2 c.visit.ensures.0
