use Rattle.text.proofs.Adding.{item-is}
use Rattle.text.proofs.Page.item.Goals as goal

pub returns : goal.returns
returns c = item-is _ _ _ _ _ c.word.ensures c.number.ensures
