use native.Mathlib.Omega.{arith}
use mathlib.Core.Path.{sym, ◌∙◌, ap}
use Rattle.leg.specs.declared.Minute.{Minute}
use Rattle.rule_b.specs.Cursor.{leg_of}
use Rattle.rule_b.proofs.Bands.{start_none, start-some}
use Rattle.rule_b.proofs.start_of.Goals as goal

pub returns-then-count-k : goal.returns-then-count-k
returns-then-count-k c = sym (start_none (leg_of c.args.leg) c.args.k (omega (arith, c.requires)))

pub returns : goal.returns
returns c = ap (λ (m : Minute). m.0) c.start.ensures ∙ sym (start-some (leg_of c.args.leg) c.args.k (omega (arith, c.requires)))
