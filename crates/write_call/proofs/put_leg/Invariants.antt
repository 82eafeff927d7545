-- `write_call::put_leg`: the bands passed follow the head, one put each.
use Rattle.network.specs.Fields.{bands_fields}
use Rattle.write_call.specs.Steps.{Adds}
use Rattle.write_call.proofs.put_leg.Given as goal

abbrev pub invariant-loop-k : goal.invariant-loop-k
invariant-loop-k l = Adds l.initial.out l.out l.bands (bands_fields l.k l.fn.leg.bands)
