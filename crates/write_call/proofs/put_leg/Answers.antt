-- `write_call::put_leg`: the four fields of the head are one put, and the bands passed follow it, one put each.
use Prim.Native.Nat.{ℕ, ◌+◌, ◌<◌}
use native.Mathlib.Omega.{arith}
use mathlib.Core.Path.{◌≡◌, ap}
use lib.ListN.{take, get_or}
use lib.Seq.{get_or-take}
use Rattle.leg.specs.declared.Band.{Band}
use Rattle.leg.specs.declared.Leg.{Leg}
use Rattle.leg.specs.Ranges.{no_band}
use Rattle.network.specs.Network.{edition1}
use Rattle.network.specs.Fields.{head_fields, bands_fields}
use Rattle.write_call.proofs.Adding.{adds-put, adds_then, adds-no-bands, adds-band}
use Rattle.write_call.proofs.put_leg.Goals as goal

pub returns : goal.returns
returns c =
    let leg = c.args.leg in
    let small = c.requires.0 in
    let l = c.loop-k in
    let all : l.k ≡ leg.count = omega arith in
    let head = head_fields edition1 leg leg.count in
    adds_then head (bands_fields leg.count leg.bands)
    (adds-put head (small.from_small, (small.to_small, (small.time_small, (omega (arith, small.count_small), tt)))) (omega arith) c.put.ensures)
    (rw all at l.invariant)

pub loop-k-init : goal.loop-k-init
loop-k-init c = adds-no-bands c.put.new.s (c.args.at + 28) c.args.leg.bands

-- band k of the leg's first ones is its band k
module _ (leg : Leg) (k : ℕ) (h : k < leg.count) where
  this : get_or (take leg.count leg.bands) k no_band ≡ get_or leg.bands k no_band
  this = get_or-take leg.count leg.bands k no_band h

  start : (get_or (take leg.count leg.bands) k no_band).start.0 ≡ (get_or leg.bands k no_band).start.0
  start = ap (λ (b : Band). b.start.0) this

  toll : (get_or (take leg.count leg.bands) k no_band).toll.0 ≡ (get_or leg.bands k no_band).toll.0
  toll = ap (λ (b : Band). b.toll.0) this

pub loop-k-preserved : goal.loop-k-preserved
loop-k-preserved c =
    let l = c.loop-k in
    let leg = c.args.leg in
    let small = c.requires.0.bands_small l.k in
    adds-band l.k leg.bands small.0 small.1 (omega arith) l.invariant (rw (start leg l.k (omega arith), toll leg l.k (omega arith)) at c.put-in-loop-k.ensures)
