-- `read_call::list_leg`: the head's numbers, then those of the bands passed.
use Prim.Native.Nat.{◌+◌}
use mathlib.Core.Path.{◌≡◌}
use lib.ListN.{length}
use lib.Seq.{sets}
use Rattle.network.specs.Fields.{bands_fields, values}
use Rattle.network.specs.InFile.{leg_at}
use Rattle.read_call.proofs.list_leg.Given as goal

abbrev pub invariant-loop-k : goal.invariant-loop-k
invariant-loop-k l =
    (length l.list ≡ length l.initial.list) × (l.list ≡ sets l.initial.list (l.at + 4) (values (bands_fields l.k (leg_at l.leg.net.now l.leg.at).bands)))
