-- `write_call::put_file`: cleared bytes, the head, then the legs.
use native.Mathlib.Omega.{arith}
use mathlib.Core.Path.{◌≡◌}
use lib.ListN.{length}
use Rattle.write_call.proofs.Whole.{accepted-sizes, accepted-legs, accepted-file}
use Rattle.write_call.proofs.put_file.Goals as goal

pub returns : goal.returns
returns c =
    let a = c.args in
    let cleared = c.clear in
    let topped = c.put in
    let whole = c.put_legs in
    accepted-file a.list.now a.size (length a.out.now) c.requires cleared.new.out topped.new.s whole.new.out cleared.ensures (omega arith) topped.ensures
    whole.ensures (omega (arith, whole.auto.out, topped.auto.s, cleared.auto.out))

pub overflow_cast-legs : goal.overflow_cast-legs
overflow_cast-legs c = omega (arith, (accepted-sizes _ _ _ c.requires).legs_few)

pub overflow_add-places-2 : goal.overflow_add-places-2
overflow_add-places-2 c =
    let few = accepted-sizes _ _ _ c.requires in
    omega (arith, few.places_few, few.legs_few)

pub put-requires : goal.put-requires
put-requires c =
    let few = accepted-sizes _ _ _ c.requires in
    (omega arith, omega arith, omega (arith, few.places_few, few.legs_few), omega (arith, few.bytes_are, c.clear.auto.out))

pub put_legs-requires : goal.put_legs-requires
put_legs-requires c =
    let a = c.args in
    let same : length c.put.new.s ≡ length a.out.now = omega (arith, c.put.auto.s, c.clear.auto.out) in
    rw same (accepted-legs a.list.now a.size (length a.out.now) c.requires)
