-- `rule_cards::leg_cards::LegCards::obey`: where the rule holds at the steps, the bands' starts decide.
use Rattle.rule_b.proofs.Turn.{is_true}
use Rattle.rule_cards.specs.Cards.{RuleOn, RuleAtAll}
use Rattle.rule_cards.proofs.Departures.{half-decides}
use Rattle.rule_cards.proofs.leg_cards.LegCards.obey.Goals as goal

pub returns-then-steps_obey : goal.returns-then-steps_obey
returns-then-steps_obey c i j leg b =
    let a = c.args.self in
    let latest = a.latest.0 in
    let at_steps = is_true c.steps_obey.result (RuleOn latest a.from 16 i j leg) c.if-steps_obey.true (c.steps_obey.ensures i j leg b) in
    half-decides c.bands_obey.result (RuleAtAll a.from a.bands latest 16 8 i j leg) (RuleOn latest a.bands 8 i j leg)
    (λ at_bands. record { at_steps = at_steps; at_bands = at_bands }) (λ all. all.at_bands) (c.bands_obey.ensures i j leg b)
