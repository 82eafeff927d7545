use mathlib.Core.List.{List}
use Rattle.plan.specs.Network.{Query}
use Rattle.plan.specs.Sheet.{Step}
use Rattle.rule_b.specs.Cursor.{Reached}
use Rattle.rule_b.proofs.cursor.Cursor.forward.Given as goal

-- what the cursor had reached it has reached now
abbrev pub invariant-loop-minute : goal.invariant-loop-minute
invariant-loop-minute l =
    (q : Query) (ss : List Step) → Reached q ss l.minute.0 l.initial.cursor → Reached q ss l.minute.0 l.cursor

abbrev pub decreases-loop-minute : goal.decreases-loop-minute
decreases-loop-minute l = l.cursor.left
