-- `card::Card::begun`: of the slots passed just the first have begun.
use Rattle.card.proofs.Counting.{Counted}
use Rattle.card.proofs.Card.begun.Given as goal

abbrev pub invariant-loop-slot : goal.invariant-loop-slot
invariant-loop-slot l = Counted l.self.slots.now 0 l.minute.0 l.count l.slot-index
