-- `Roads::visit`: what p had to pass on is passed on.
use Rattle.table.proofs.Visits.{in-low, visit-room, visit-begins}
use native.Mathlib.Omega.{arith}
use Rattle.table.proofs.roads.Roads.visit.Goals as goal

pub bounds-low-p : goal.bounds-low-p
bounds-low-p c =
    let a = c.args in
    in-low a.self.now a.p c.requires.0 a.cells.now a.low.now c.requires.2 c.width-w.result c.width-w.ensures

pub bounds-low-p-2 : goal.bounds-low-p-2
bounds-low-p-2 c =
    let a = c.args in
    in-low a.self.now a.p c.requires.0 a.cells.now a.low.now c.requires.2 c.width-w.result c.width-w.ensures

pub settle_row-requires : goal.settle_row-requires
settle_row-requires c =
    let a = c.args in (
      visit-room a.self.now a.p c.requires.0 a.cells.now a.low.now c.requires.2 c.width-w.result c.width-w.ensures,
      omega (arith, c.requires.1, c.width-w.ensures),
      omega (arith, a.self.now.asked.clock, c.width-w.ensures),
    )

pub ride_legs-requires : goal.ride_legs-requires
ride_legs-requires c =
    let a = c.args in (
      c.requires.0,
      visit-begins a.self.now a.p c.requires.0 a.cells.now a.low.now c.requires.2 c.width-w.result c.width-w.ensures _ _ c.settle_row.ensures,
    )
