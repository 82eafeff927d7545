-- `read_call::store`: the numbers passed stand in the list.
use mathlib.Core.Path.{◌≡◌}
use lib.ListN.{take, length}
use lib.Seq.{sets}
use Rattle.read_call.proofs.store.Given as goal

abbrev pub invariant-loop-k : goal.invariant-loop-k
invariant-loop-k g l = (length l.list ≡ length l.initial.list) × (l.list ≡ sets l.initial.list l.at (take l.k l.numbers))
