use native.Mathlib.Omega.{arith}
use mathlib.Core.Path.{refl}
use Rattle.chart.proofs.Net.{charted, few_legs, leg-stands, tariff-leg-sound}
use Rattle.chart.proofs.tariff.Tariff.leg_in_file.Goals as goal

pub returns : goal.returns
returns c = (refl, leg-stands c.args.self.now c.args.number c.requires)

pub bounds-self-number : goal.bounds-self-number
bounds-self-number c = let t = c.args.self.now in omega (arith, c.requires, few_legs t.net.now t.size t.sound)

pub offset_bounds-self-number : goal.offset_bounds-self-number
offset_bounds-self-number c = let t = c.args.self.now in omega (arith, c.requires, few_legs t.net.now t.size t.sound)

pub invariant_of-result : goal.invariant_of-result
invariant_of-result c =
    let t = c.args.self.now in
    let same = leg-stands t c.args.number c.requires in
    let sound = tariff-leg-sound t c.args.number c.requires in
    let near = (charted t.net.now t.size t.sound t.chart t.charted).near c.args.number in
    record { there = record { near = omega (arith, near); few = omega (arith, same.count_is, sound.few_bands); count_is = refl; inside = omega (arith, same.inside, same.count_is) } }
