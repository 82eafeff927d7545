use native.Mathlib.Omega.{arith}
use Rattle.bits.proofs.Fields.{field_below}
use Rattle.plan_reader.proofs.verdict.Goals as goal

pub returns-else-field-eq0 : goal.returns-else-field-eq0
returns-else-field-eq0 c = omega (arith, field_below c.args.plan.now 8 1, c.field.ensures, c.if-field-eq0.false)
