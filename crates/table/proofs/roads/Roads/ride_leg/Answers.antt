-- `Roads::ride_leg`: the leg that the tariff gives is leg l, and its rides are done.
use Rattle.table.proofs.Legs.{leg-banded, leg-room, leg-done}
use Rattle.table.proofs.roads.Roads.ride_leg.Goals as goal

pub returns : goal.returns
returns c =
    let a = c.args in
    leg-done a.self.now a.row.now a.cells.now a.low.now a.from a.l c.requires.0 c.requires.1 c.leg.result c.leg.ensures c.width.result c.width.ensures _ _ c.ride_out.ensures

pub invariant_of-board-clause-banded : goal.invariant_of-board-clause-banded
invariant_of-board-clause-banded c = leg-banded c.args.self.now.tariff.now c.args.l c.requires.0 c.leg.result c.leg.ensures

pub ride_out-requires : goal.ride_out-requires
ride_out-requires c =
    let a = c.args in
    leg-room a.self.now a.row.now a.cells.now a.low.now a.from a.l c.requires.0 c.requires.1 c.leg.result c.leg.ensures c.width.result c.width.ensures
