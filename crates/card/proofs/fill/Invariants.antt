-- `card::fill`: the slots passed hold their pairs, and nothing else was written.
use Rattle.card.specs.Card.{Written, Kept}
use Rattle.card.proofs.fill.Given as goal

abbrev pub invariant-loop-k : goal.invariant-loop-k
invariant-loop-k g l = Written l.file l.bit g.row.WIDTH l.k l.slots 0 × Kept l.initial.slots l.slots 0 l.count
