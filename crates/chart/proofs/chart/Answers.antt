-- `chart::chart`: the next leg stands just behind this one's bands.
use Prim.Native.Nat.{ℕ, ◌+◌, ◌*◌, ◌≤◌, ◌<◌}
use native.Mathlib.Omega.{arith}
use mathlib.Core.Path.{◌≡◌, refl, sym, ap, subst}
use mathlib.Core.List.{List}
use lib.ListN.{set}
use Rattle.leg.specs.declared.Leg.{Leg}
use Rattle.source.specs.Source.{file_of}
use Rattle.std.specs.Prelude.{Ok}
use Rattle.network.specs.declared.Size.{Size}
use Rattle.network.specs.Reading.{found}
use Rattle.network.specs.Network.{Network, edition1, leg, of_file}
use Rattle.network.specs.Answers.{network_found}
use Rattle.network.proofs.Accepted.{passed-leg}
use Rattle.network.proofs.Files.{sound-file, one-network}
use Rattle.network.proofs.Near.{file_near, leg-near, LegEnds, leg-ends}
use Rattle.network.proofs.InFile.{leg-there}
use Rattle.chart.specs.Chart.{Charted}
use Rattle.chart.proofs.Charting.{Charting, charting-none, charting-more, charting-at, charting-all}
use Rattle.chart.proofs.chart.Goals as goal

-- where leg k of the file stands and ends
record Next (net : List ℕ) (size : Size) (k place : ℕ) : Type 0 where
  leg-is : Leg
  end : ℕ
  stands : leg edition1 size.places (file_of net) place ≡ found leg-is end
  ends : LegEnds net place end
  near : end ≤ place + 252
  few : leg-is.count ≤ 8

next : (net : List ℕ) (size : Size) (k place : ℕ) (chart : List ℕ) → network_found (of_file net) ≡ Ok size → k < size.legs
    → Charting net size.places size.legs k place chart → Next net size k place
next net size k place chart sound h p =
    let f = sound-file net size sound in
    let t = passed-leg edition1 size.places (file_of net) size.legs 25 f.net.legs f.end f.legs_read k place p.total p.passed h in
    record {
      leg-is = t.0;
      end = t.1;
      stands = t.2;
      ends = leg-ends net size.places place t.0 t.1 t.2;
      near = (leg-near (file_of net) (file_near net) size.places place t.0 t.1 t.2).0;
      few = (leg-near (file_of net) (file_near net) size.places place t.0 t.1 t.2).1;
    }

pub loop-k-init : goal.loop-k-init
loop-k-init c =
    let a = c.args in
    let f = sound-file a.file.net.now a.file.size a.file.sound in
    let few = f.sound.few_legs in
    let size = ap (λ (x : Size). x.legs) f.size_is in
    (omega (arith, few, size), omega arith, λ z e. charting-none a.file.net.now z.places a.file.size.legs)

pub invariant_of-leg : goal.invariant_of-leg
invariant_of-leg c =
    let a = c.args in
    let l = c.loop-k in
    let sound = a.file.sound in
    let n = next a.file.net.now a.file.size l.k l.place l.chart sound (omega arith) (l.invariant.2 a.file.size sound) in
    let same = leg-there a.file.net.now a.file.size.places l.place n.leg-is n.end n.stands in
    record { there = record { near = omega (arith, l.invariant.1, l.invariant.0); few = omega (arith, n.few, same.count_is); count_is = refl; inside = omega (arith, same.inside, same.count_is) } }

pub loop-k-preserved : goal.loop-k-preserved
loop-k-preserved c =
    let a = c.args in
    let l = c.loop-k in
    let sound = a.file.sound in
    let p = l.invariant.2 a.file.size sound in
    let n = next a.file.net.now a.file.size l.k l.place l.chart sound (omega arith) p in
    let there : l.place + (28 + 28 * c.count-bands.result) ≡ n.end = omega (arith, n.ends.end_is, c.count-bands.ensures) in (
      l.invariant.0,
      omega (arith, n.near, there),
      λ z e.
          let same : a.file.size ≡ z = cc in
          charting-at a.file.net.now z.places a.file.size.legs _ n.end (omega (arith, there))
          (subst (λ (w : Size). Charting a.file.net.now w.places a.file.size.legs (l.k + 1) n.end (set l.chart l.k l.place)) same
          (charting-more a.file.net.now a.file.size.places a.file.size.legs l.k l.place l.chart n.leg-is n.end p (omega arith) (omega arith) (omega arith) n.stands)),
    )

pub returns : goal.returns
returns c net end e =
    let a = c.args in
    let l = c.loop-k in
    let sound = a.file.sound in
    let f = sound-file a.file.net.now a.file.size sound in
    let p = l.invariant.2 a.file.size sound in
    let places = ap (λ (x : Size). x.places) f.size_is in
    let all = charting-all a.file.net.now a.file.size.places a.file.size.legs l.k l.place l.chart p (omega arith) f.net.legs f.end f.legs_read in
    subst (λ (n : Network). Charted a.file.net.now n l.chart) (sym (one-network a.file.net.now a.file.size f net end e))
    record { stands = rw (← places) all; near = p.near }
