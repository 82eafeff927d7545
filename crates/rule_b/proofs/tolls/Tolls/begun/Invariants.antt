use Rattle.rule_b.specs.Cursor.{leg_of, Banded}
use Prim.Native.Nat.{◌-◌}
use Rattle.rule_b.proofs.tolls.Tolls.begun.Given as goal

abbrev pub invariant-loop-minute : goal.invariant-loop-minute
invariant-loop-minute l = Banded (leg_of l.fn.self.leg) l.minute.0 l.tolls

abbrev pub decreases-loop-minute : goal.decreases-loop-minute
decreases-loop-minute l = l.tolls.count - l.tolls.passed
