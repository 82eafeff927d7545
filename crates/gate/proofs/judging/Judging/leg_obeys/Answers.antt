-- `gate::judging::Judging::leg_obeys`: leg k is read where it stands, and is the network's.
use Prim.Native.Nat.{ℕ, ◌<◌}
use native.Mathlib.Omega.{arith}
use mathlib.Core.Path.{◌∙◌, ap, subst}
use mathlib.Core.List.{List}
use Rattle.leg.specs.declared.Window.{Window}
use Rattle.network.proofs.Sound.{SoundLeg}
use Rattle.plan.specs.Sheet.{Step}
use Rattle.rule_b.specs.Cursor.{steps_of}
use Rattle.rule_b.specs.Rule.{Is, RuleB}
use Rattle.rule_b.proofs.InFile.{order-there, rule-there}
use Rattle.chart.specs.Net.{net_in, leg_in}
use Rattle.chart.proofs.Net.{read, tariff-leg-sound}
use Rattle.gate.specs.Parts.{steps_in}
use Rattle.gate.proofs.Net.{in_order}
use Rattle.gate.proofs.Sheets.{place-is}
use Rattle.gate.proofs.judging.Judging.leg_obeys.Goals.{Start}
use Rattle.gate.proofs.judging.Judging.leg_obeys.Goals as goal

sound : (c : Start) → let n = c.args.self.now.tariff.now.net.now in SoundLeg (net_in n).places (leg_in n c.args.k)
sound c = tariff-leg-sound c.args.self.now.tariff.now c.args.k c.requires

-- the places that it joins are places of the sheet
from_below : (c : Start) → (leg_in c.args.self.now.tariff.now.net.now c.args.k).from < c.args.self.now.laid.sheet.now.places
from_below c = omega (arith, (sound c).from_below, (read c.args.self.now.tariff.now).places, c.args.self.now.fits.places)

to_below : (c : Start) → (leg_in c.args.self.now.tariff.now.net.now c.args.k).to < c.args.self.now.laid.sheet.now.places
to_below c = omega (arith, (sound c).to_below, (read c.args.self.now.tariff.now).places, c.args.self.now.fits.places)

pub place-from-requires : goal.place-from-requires
place-from-requires c = omega (arith, c.from.ensures, c.leg_in_file-leg.ensures.1.from_is, from_below (goal.at.place-from-requires c).Start)

pub place-to-requires : goal.place-to-requires
place-to-requires c = omega (arith, c.to.ensures, c.leg_in_file-leg.ensures.1.to_is, to_below (goal.at.place-to-requires c).Start)

pub leg_obeys-requires : goal.leg_obeys-requires
leg_obeys-requires c = record {
  order = order-there _ _ _ c.leg_in_file-leg.ensures.1 (in_order _ _ (sound (goal.at.leg_obeys-requires c).Start));
  end = omega (arith, ap (λ (w : Window). w.latest.0) c.place-from.ensures.1, c.args.self.now.fits.end);
}

pub returns : goal.returns
returns c =
    let sheet = c.args.self.now.laid.sheet.now in
    let leg = leg_in c.args.self.now.tariff.now.net.now c.args.k in
    let at = c.leg_in_file-leg.result in
    let same = c.leg_in_file-leg.ensures.1 in
    let from = c.place-from in
    let to = c.place-to in
    let r = c.leg_obeys.result in
    let latest = ap (λ (w : Window). w.latest.0) from.ensures.1 in
    let from-is = place-is from.result.steps sheet c.from.result leg.from from.ensures.0 from.ensures.2 (c.from.ensures ∙ same.from_is) in
    let to-is = place-is to.result.steps sheet c.to.result leg.to to.ensures.0 to.ensures.2 (c.to.ensures ∙ same.to_is) in
    let rule = rule-there at.net.now at.at leg from.result.steps.window.latest.0 (steps_of from.result.steps) (steps_of to.result.steps) r same c.leg_obeys.ensures in
    subst (λ (m : ℕ). Is r (RuleB m leg (steps_in sheet leg.from) (steps_in sheet leg.to))) latest
    (subst (λ (ss : List Step). Is r (RuleB from.result.steps.window.latest.0 leg ss (steps_in sheet leg.to))) from-is
    (subst (λ (ss : List Step). Is r (RuleB from.result.steps.window.latest.0 leg (steps_of from.result.steps) ss)) to-is rule))
