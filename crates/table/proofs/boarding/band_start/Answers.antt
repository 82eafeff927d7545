-- `boarding::band_start`: the definition, case by case.
use Rattle.table.proofs.Rides.{band-starts, band-ends}
use mathlib.Core.Path.{sym}
use Rattle.table.proofs.boarding.band_start.Goals as goal

pub returns-then-k-leg : goal.returns-then-k-leg
returns-then-k-leg c = sym (band-starts c.args.leg c.args.k c.if-k-leg.true)

pub returns-else-k-leg : goal.returns-else-k-leg
returns-else-k-leg c = sym (band-ends c.args.leg c.args.k c.if-k-leg.false)
