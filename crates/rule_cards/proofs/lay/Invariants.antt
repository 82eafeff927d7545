-- `rule_cards::lay`: the cards of the places passed are laid, and those ahead are blank.
use Rattle.rule_cards.proofs.Laying.{Laying}
use Rattle.rule_cards.proofs.lay.Given as goal

abbrev pub invariant-loop-p : goal.invariant-loop-p
invariant-loop-p l = Laying l.sheet l.index l.cards l.p
