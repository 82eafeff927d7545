-- `Boarding::ride_band`: the rides from the columns of this band at its toll.
use Rattle.table.proofs.Rides.{rode-band}
use native.Mathlib.Omega.{arith}
use Rattle.table.proofs.boarding.Boarding.ride_band.Goals as goal

pub returns : goal.returns
returns c =
    let b = c.args.self.now in
    rode-band b.leg b.earliest.0 b.w b.from b.row.now c.args.cells.now c.lower_row.new.cells c.args.k _ _ _ c.lower_row.result
    c.lower_row.ensures b.banded c.requires.0 c.requires.1
    (omega (arith, c.max-from.ensures, c.column.ensures, c.band_start.ensures))
    (omega (arith, c.min-until.ensures, c.column-2.ensures, c.saturating_sub.ensures, c.band_start-2.ensures))
    c.adds.ensures.0
