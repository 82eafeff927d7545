use Rattle.rule_b.proofs.Walks.{first-none, first_some}
use native.Mathlib.Omega.{arith}
use mathlib.Core.Path.{sym, ◌∙◌}
use Rattle.rule_b.proofs.first.Goals as goal

pub returns-then-left-eq0 : goal.returns-then-left-eq0
returns-then-left-eq0 c = sym (first-none c.args.sheet.now c.args.at c.args.left c.if-left-eq0.true)

pub returns : goal.returns
returns c = c.field.ensures ∙ sym (first_some c.args.sheet.now c.args.at c.args.left (omega (arith, c.if-left-eq0.false)))
