use native.Mathlib.Omega.{arith}
use mathlib.Core.Path.{◌∙◌}
use Rattle.chart.proofs.Net.{charted, leg-is, few_legs}
use Rattle.chart.proofs.tariff.Tariff.leg.Goals as goal

pub bounds-self-number : goal.bounds-self-number
bounds-self-number c = let t = c.args.self.now in omega (arith, c.requires, few_legs t.net.now t.size t.sound)

pub leg_at-requires : goal.leg_at-requires
leg_at-requires c = let t = c.args.self.now in (charted t.net.now t.size t.sound t.chart t.charted).near c.args.number

pub returns : goal.returns
returns c =
    let t = c.args.self.now in
    c.leg_at.ensures ∙ leg-is t.net.now t.size t.sound c.args.number c.requires t.chart t.charted

pub offset_bounds-self-number : goal.offset_bounds-self-number
offset_bounds-self-number c = let t = c.args.self.now in omega (arith, c.requires, few_legs t.net.now t.size t.sound)
