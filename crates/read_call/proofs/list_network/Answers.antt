-- `read_call::list_network`: the legs passed are listed, and the next stands just behind the last one's bands.
use Prim.Native.Nat.{ℕ, ◌+◌, ◌*◌, ◌≤◌}
use native.Mathlib.Omega.{arith}
use mathlib.Core.Path.{◌≡◌, refl, ap, ◌∙◌}
use mathlib.Core.List.{List}
use lib.ListN.{length, length-set}
use lib.Seq.{sets}
use Rattle.leg.specs.declared.Leg.{Leg}
use Rattle.source.specs.Source.{file_of}
use Rattle.bits.specs.Packed.{Entry}
use Rattle.network.specs.declared.Size.{Size}
use Rattle.network.specs.Reading.{found}
use Rattle.network.specs.Network.{edition1, leg}
use Rattle.network.specs.Fields.{legs_fields, values}
use Rattle.network.proofs.Accepted.{passed-leg}
use Rattle.network.proofs.Files.{sound-file}
use Rattle.network.proofs.Near.{file_near, leg-near, LegEnds, leg-ends}
use Rattle.network.proofs.InFile.{leg-there, leg-fields-same}
use Rattle.network.specs.InFile.{Same}
use Rattle.read_call.proofs.Listing.{listing_none, listing-more, listing-at, listing-all, listed-all}
use Rattle.read_call.proofs.list_network.Goals.{In-loop-k}
use Rattle.read_call.proofs.list_network.Goals as goal

pub returns : goal.returns
returns c =
    let a = c.args in
    let l = c.loop-k in
    let f = sound-file a.file.net.now a.file.size a.file.sound in
    let all = listing-all a.file.net.now a.file.size.places a.file.size.legs _ f.net.legs f.end f.legs_read l.k l.place l.at l.list l.invariant.3 (omega arith) in
    all
    ∙ ap (λ (x : List ℕ). sets x 3 (values (legs_fields edition1 f.net.legs))) c.store.ensures
    ∙ listed-all a.file.net.now a.list.now a.file.size f c.requires

pub overflow_cast-legs : goal.overflow_cast-legs
overflow_cast-legs c =
    let a = c.args in
    let f = sound-file a.file.net.now a.file.size a.file.sound in
    omega (arith, f.sound.few_legs, ap (λ (x : Size). x.legs) f.size_is)

pub loop-k-init : goal.loop-k-init
loop-k-init c =
    let a = c.args in
    let f = sound-file a.file.net.now a.file.size a.file.sound in
    let few = f.sound.few_legs in
    let size = ap (λ (x : Size). x.legs) f.size_is in
    (omega (arith, few, size), omega arith, refl, listing_none a.file.net.now a.file.size.places a.file.size.legs _)

-- this turn's leg, as the definition has it: it is there, and counts among all
record Turn (c : In-loop-k) : Type 0 where
  this : Leg
  end : ℕ
  read : leg edition1 c.args.file.size.places (file_of c.args.file.net.now) c.loop-k.place ≡ found this end
  same : Same c.args.file.net.now c.loop-k.place this
  ends : LegEnds c.args.file.net.now c.loop-k.place end
  near : end ≤ c.loop-k.place + 252
  few : this.count ≤ 8
  room : c.loop-k.invariant.3.total + this.count ≤ c.args.file.size.bands
  list-room : c.loop-k.at + (4 + 2 * this.count) ≤ length c.loop-k.list

turn : (c : In-loop-k) → Turn c
turn c =
    let a = c.args in
    let f = sound-file a.file.net.now a.file.size a.file.sound in
    let l = c.loop-k in
    let p = l.invariant.3 in
    let t = passed-leg edition1 a.file.size.places (file_of a.file.net.now) a.file.size.legs 25 f.net.legs f.end f.legs_read l.k l.place p.total p.passed (omega arith) in
    let near = leg-near (file_of a.file.net.now) (file_near a.file.net.now) a.file.size.places l.place t.0 t.1 t.2 in
    let bands = ap (λ (x : Size). x.bands) f.size_is in
    let room : p.total + t.0.count ≤ a.file.size.bands = omega (arith, t.3, bands) in
    record {
      this = t.0;
      end = t.1;
      read = t.2;
      same = leg-there a.file.net.now a.file.size.places l.place t.0 t.1 t.2;
      ends = leg-ends a.file.net.now a.file.size.places l.place t.0 t.1 t.2;
      near = near.0;
      few = near.1;
      room = room;
      list-room = omega (arith, room, p.index, l.invariant.2, c.requires, c.store.auto.list, length-set a.list.now 0 1);
    }

pub invariant_of-leg : goal.invariant_of-leg
invariant_of-leg c =
    let t = turn (goal.at.invariant_of-leg c).In-loop-k in
    let same = t.same in
    record {
      there = record { near = omega (arith, c.loop-k.invariant.1, c.loop-k.invariant.0); few = omega (arith, t.few, same.count_is); count_is = refl; inside = omega (arith, same.inside, same.count_is) };
    }

pub list_leg-bands-requires : goal.list_leg-bands-requires
list_leg-bands-requires c =
    let t = turn (goal.at.list_leg-bands-requires c).In-loop-k in
    omega (arith, t.list-room, t.same.count_is)

pub overflow_add-at-in-loop-k : goal.overflow_add-at-in-loop-k
overflow_add-at-in-loop-k c = omega (arith, c.list_leg-bands.ensures.0, (turn (goal.at.overflow_add-at-in-loop-k c).In-loop-k).same.count_is, (turn (goal.at.overflow_add-at-in-loop-k c).In-loop-k).list-room, c.loop-k.invariant.2, c.store.auto.list, length-set c.args.list.now 0 1, c.well_formed.1.0)

pub loop-k-preserved : goal.loop-k-preserved
loop-k-preserved c =
    let a = c.args in
    let l = c.loop-k in
    let r = c.list_leg-bands in
    let t = turn (goal.at.loop-k-preserved c).In-loop-k in
    let numbers = r.ensures.1 ∙ ap (λ (es : List Entry). sets l.list l.at (values es)) (leg-fields-same a.file.net.now l.place t.this t.same) in
    let next : t.end ≡ l.place + (28 + 28 * r.result) = omega (arith, t.ends.end_is, r.ensures.0) in
    let index : l.at + (4 + 2 * t.this.count) ≡ l.at + (4 + 2 * r.result) = omega (arith, t.same.count_is, r.ensures.0) in (
      omega arith,
      omega (arith, t.near, next, l.invariant.1),
      omega (arith, l.invariant.2, r.auto.list),
      listing-at a.file.net.now a.file.size.places a.file.size.legs (l.k + 1) t.end _ _ _ _ _ next index
          (listing-more a.file.net.now a.file.size.places a.file.size.legs _ l.k l.place l.at l.list t.this t.end _ l.invariant.3 (omega arith) t.read numbers),
    )
