-- `write_call::put_legs`: the legs passed are put, and the rest is still to be read.
use native.Mathlib.Omega.{arith}
use mathlib.Core.Path.{◌≡◌, sym, ◌∙◌}
use lib.ListN.{length}
use Rattle.source.specs.Source.{list_of}
use Rattle.network.specs.Reading.{found}
use Rattle.network.specs.Network.{edition1, leg}
use Rattle.network.proofs.Legs.{given_ok}
use Rattle.write_call.proofs.Half.{Turn, half-none, not-refused, turn, half-more, half-all}
use Rattle.write_call.proofs.put_legs.Goals.{In-Ok}
use Rattle.write_call.proofs.put_legs.Goals as goal

pub returns : goal.returns
returns c =
    let a = c.args in
    let l = c.loop-k in
    half-all a.list.now a.places a.legs l.k l.place l.at a.out.now l.out l.invariant (omega arith)

pub loop-k-init : goal.loop-k-init
loop-k-init c =
    let a = c.args in
    half-none a.list.now a.places a.legs a.out.now

pub unreachable-requires : goal.unreachable-requires
unreachable-requires c =
    let a = c.args in
    let l = c.loop-k in
    not-refused a.list.now a.places a.legs l.k l.place l.at a.out.now l.out c.requires l.invariant (omega arith) c.in_default.field-0
    (sym c.leg_from.ensures ∙ c.in_default.is)

-- this turn's leg
this-leg : (c : In-Ok) → leg edition1 c.args.places (list_of c.args.list.now) c.loop-k.place ≡ found c.in-Ok.leg c.in-Ok.after
this-leg c = given_ok _ _ _ (sym c.leg_from.ensures ∙ c.in-Ok.is)

this-turn : (c : In-Ok) → Turn c.loop-k.at (length c.args.out.now) c.in-Ok.leg
this-turn c =
    let a = c.args in
    let l = c.loop-k in
    turn a.list.now a.places a.legs l.k l.place l.at a.out.now l.out c.requires l.invariant (omega arith) c.in-Ok.leg c.in-Ok.after (this-leg c)

pub put_leg-requires : goal.put_leg-requires
put_leg-requires c =
    let t = this-turn (goal.at.put_leg-requires c).In-Ok in
    let h = c.loop-k.invariant in
    (t.small, omega (arith, h.low, c.requires.count_few), omega (arith, t.fits, h.added.same_length))

pub overflow_mul-at : goal.overflow_mul-at
overflow_mul-at c = omega (arith, (this-turn (goal.at.overflow_mul-at c).In-Ok).small.count_small)

pub overflow_add-at : goal.overflow_add-at
overflow_add-at c = omega (arith, (this-turn (goal.at.overflow_add-at c).In-Ok).small.count_small)

pub overflow_add-at-in-loop-k : goal.overflow_add-at-in-loop-k
overflow_add-at-in-loop-k c = omega (arith, (this-turn (goal.at.overflow_add-at-in-loop-k c).In-Ok).small.count_small, c.loop-k.invariant.low, c.requires.count_few)

pub loop-k-preserved : goal.loop-k-preserved
loop-k-preserved c =
    let a = c.args in
    let l = c.loop-k in
    let w = (goal.at.loop-k-preserved c).In-Ok in
    half-more a.list.now a.places a.legs l.k l.place l.at a.out.now l.out c.requires l.invariant (omega arith) w.in-Ok.leg w.in-Ok.after (this-leg w)
    c.put_leg.new.out c.put_leg.ensures
