-- `write_call::put_legs`: the legs passed are put, and the rest is still to be read.
use Rattle.write_call.proofs.Half.{Half}
use Rattle.write_call.proofs.put_legs.Given as goal

abbrev pub invariant-loop-k : goal.invariant-loop-k
invariant-loop-k l = Half l.list l.places l.legs l.k l.place l.at l.initial.out l.out
