use Rattle.std.proofs.Common.{◌≡◌}
use mathlib.Core.Path.{sym, subst, ◌∙◌}
use native.Mathlib.Omega.{arith}
use Rattle.text.proofs.Decimal.{decimal-is}
use Rattle.text.specs.Text.{Writes, decimal_of}
use Rattle.text.proofs.Page.number.Goals as goal

pub returns : goal.returns
returns c =
    let text : c.as_bytes.result.now ≡ decimal_of c.args.value =
    c.as_bytes.ensures.value ∙ c.format.ensures.text ∙ sym (decimal-is 9 c.args.value (omega arith) (omega arith)) in
    subst (Writes _ _) text c.word.ensures
