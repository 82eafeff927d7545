-- `Roads::ride_legs`: the legs of p from l on are done; l falls along the chain.
use Rattle.table.specs.Chains.{above}
use Rattle.table.proofs.Chaining.{Riding}
use Rattle.table.proofs.roads.Roads.ride_legs.Given as goal

abbrev pub invariant-loop-next : goal.invariant-loop-next
invariant-loop-next l = Riding l.self l.p l.row l.from l.initial.cells l.cells l.initial.low l.low (above l.next)

abbrev pub decreases-loop-next : goal.decreases-loop-next
decreases-loop-next l = above l.next
