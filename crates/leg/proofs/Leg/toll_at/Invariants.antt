-- The loop has the toll of the bands it passed.
use mathlib.Core.Path.{◌≡◌}
use Rattle.leg.specs.Toll.{toll_of_first}
use Rattle.leg.proofs.Leg.toll_at.Given as goal

abbrev pub invariant-loop-band : goal.invariant-loop-band
invariant-loop-band l = l.toll.0 ≡ toll_of_first l.band-index l.fn.self.bands l.minute.0
