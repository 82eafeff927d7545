use mathlib.Core.Path.{refl}
use Rattle.plan.proofs.Walk.{some_fits}
use Rattle.chart.proofs.Net.{legs-are, few_places, few_legs}
use Rattle.walk.specs.Walk.{theory_of, asked_of, cells_of}
use Rattle.walk.proofs.Steps.{cell-there}
use Rattle.walk.proofs.Nets.{reads-from, sound-leg}
use native.Mathlib.Omega.{arith}
use Rattle.walk.proofs.Walk.find_leg.Goals as goal

pub unreachable-requires : goal.unreachable-requires
unreachable-requires c =
    let a = c.args in
    let t = a.self.now.tariff in
    let q = asked_of a.self.now in
    let d = c.requires.0.departing in
    let w = d.walkable in
    let f = some_fits (theory_of a.self.now) q w.asked (cells_of a.self.now) w.table a.place a.arrival.0 d.within c.requires.0.first d.plan c.requires.1 in
    absurd (c.loop-k.invariant f.0 f.1 (omega (arith, f.2.leaves.known, legs-are t.net.now t.size t.sound)) f.2)

pub explains_at-requires : goal.explains_at-requires
explains_at-requires c =
    let a = c.args in
    let t = a.self.now.tariff in
    let m = a.self.now.table in
    let l = c.loop-k in
    let d = c.requires.0.departing in
    let w = d.walkable in
    let s = sound-leg t.net.now t.size t.sound l.k (omega arith) _ refl in (
      omega arith,
      cell-there a.self.now w a.place a.arrival.0 d.within,
      reads-from _ m.cells.now (asked_of a.self.now) t.size.places (few_places t.net.now t.size t.sound) s w.room,
    )

pub overflow_cast-result : goal.overflow_cast-result
overflow_cast-result c = let t = c.args.self.now.tariff in omega (arith, few_legs t.net.now t.size t.sound)
