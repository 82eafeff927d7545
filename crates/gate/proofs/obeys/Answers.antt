-- `gate::obeys`: before they are laid, all cards are blank.
use borrow.Author.Rules.{rules}
use Rattle.rule_cards.proofs.Laying.{all_blank}
use Rattle.gate.proofs.obeys.Goals as goal

pub lay-requires : goal.lay-requires
lay-requires c = (search rules, search rules, all_blank _ c.blank-cards.ensures)
