-- `rule_cards::leg_cards::LegCards::bands_obey`: the rule holds where the slots that were passed begin.
use mathlib.Core.List.{List}
use Rattle.leg.specs.declared.Leg.{Leg}
use Rattle.plan.specs.Sheet.{Step}
use Rattle.rule_cards.specs.Cards.{CardsOf, RuleOn}
use Rattle.rule_cards.proofs.leg_cards.LegCards.bands_obey.Given as goal

abbrev pub invariant-loop-slot : goal.invariant-loop-slot
invariant-loop-slot l = (i j : List Step) (leg : Leg) → CardsOf l.self i j leg → RuleOn l.self.latest.0 l.self.bands l.slot-index i j leg
