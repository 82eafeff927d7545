use mathlib.Core.Path.{sym, subst}
use Rattle.leg.specs.declared.Leg.{Leg}
use Rattle.walk.specs.Walk.{asked_of, ReadsFrom}
use Rattle.walk.proofs.Nets.{sound-leg}
use Rattle.walk.proofs.Walk.explains_at.Goals as goal

pub explains-requires : goal.explains-requires
explains-requires c =
    let a = c.args in
    let t = a.self.now.tariff in
    let s = sound-leg t.net.now t.size t.sound a.number c.requires.0 _ c.leg.ensures in
    (s.few_bands, s.time_within, c.requires.1, subst (λ (l : Leg). ReadsFrom l a.self.now.table.cells.now (asked_of a.self.now)) (sym c.leg.ensures) c.requires.2)
