-- The loop has the toll of the bands it passed.
use native.Mathlib.Omega.{arith}
use mathlib.Core.Path.{◌≡◌, refl}
use lib.Seq.{get_or-take}
use lib.ListN.{take, get_or}
use Rattle.std.proofs.lemmas.List.{length-take}
use Rattle.leg.specs.Ranges.{no_band}
use Rattle.leg.specs.Toll.{toll_of_first}
use Rattle.leg.proofs.Laws.{toll-begun, toll-later}
use Rattle.leg.proofs.Order.{not-later, later}
use Rattle.leg.proofs.Leg.toll_at.Goals as goal
use Rattle.leg.proofs.Leg.toll_at.Goals.{then-le, else-le}

pub loop-band-init : goal.loop-band-init
unfolding toll_of_first
loop-band-init c = refl

pub loop-band-preserved : goal.loop-band-preserved
loop-band-preserved c =
    let k = c.loop-band.band-index in
    let self = c.args.self in
    let t = c.args.minute.0 in
    let here : get_or (take self.count self.bands) k no_band ≡ get_or self.bands k no_band =
    get_or-take self.count self.bands k no_band (omega (arith, c.loop-band-test.true, length-take self.count self.bands)) in
    let start = (get_or (take self.count self.bands) k no_band).start.0 in
    elim c.if-le.branch [
      | then-le w ↦ cc (toll-begun k self.bands t (rw here at (not-later start t _ c.le.ensures w.if-le.true)), here, w.toll-is)
      | else-le w ↦ cc (toll-later k self.bands t (rw here at (later start t _ c.le.ensures w.if-le.false)))
    ]
