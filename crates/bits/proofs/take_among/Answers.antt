-- `bits::take_among`: the field is cut out of the bytes that hold it.
use mathlib.Core.Path.{◌∙◌}
use Rattle.bits.proofs.Bytes.{field_cut}
use Rattle.bits.proofs.take_among.Goals as goal

pub returns : goal.returns
returns c =
    let a = c.args in
    c.cut.ensures ∙ field_cut a.s.now a.at a.width a.count c.requires.3 c.gather.ensures
