use native.Mathlib.Omega.{arith}
use Rattle.text.proofs.Adding.{item-long, line-is}
use Rattle.text.proofs.Page.line.Goals as goal

pub returns : goal.returns
returns c = line-is _ _ _ _ _ c.item.ensures c.word.ensures

pub word-requires : goal.word-requires
word-requires c =
    let e = c.item.ensures in omega (arith, c.requires, e.adds.to_is, e.adds.same_length, item-long c.args.name.now c.args.value)
