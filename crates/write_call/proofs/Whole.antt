-- From the size of a list that was judged to the whole file.
use Prim.Native.Nat.{ℕ, ◌+◌, ◌*◌, ◌/◌, ◌≤◌}
use mathlib.Core.Path.{◌≡◌, refl, ◌∙◌}
use mathlib.Core.List.{List, []}
use native.Mathlib.Omega.{arith}
use lib.ListN.{length, replicate}
use Rattle.bits.specs.Field.{Put}
use Rattle.bits.specs.Packed.{Written}
use Rattle.bits.proofs.Joined.{joined, written-joined}
use Rattle.network.specs.declared.Size.{Size}
use Rattle.network.specs.Reading.{found}
use Rattle.network.specs.Network.{Network, of_list}
use Rattle.network.specs.Answers.{size_of}
use Rattle.network.specs.Fields.{top_fields}
use Rattle.network.proofs.Fields.{network-bits}
use Rattle.write_call.specs.Write.{file_length}
use Rattle.write_call.specs.Steps.{LegsFit, LegsPut, Accepted, FileOf}
use Rattle.write_call.proofs.Adding.{written-cleared}
use Rattle.write_call.proofs.Judged.{parts}

-- a network's numbers are few, and its size tells the length of its file
pub record Sizes (size : Size) (bytes : ℕ) : Type 0 where
  pub places_few : size.places ≤ 64
  pub legs_few : size.legs ≤ 512
  pub bands_few : size.bands ≤ 4096
  pub bytes_are : (32 + 28 * size.legs + 28 * size.bands) / 8 ≡ bytes

pub sizes : (list : List ℕ) (net : Network) (end : ℕ) (size : Size) → of_list list ≡ found net end → size ≡ size_of net → Sizes size (file_length net)
sizes list net end size e sized =
    let p = parts list net end e in
    rw sized
    (record {
      places_few = p.places_few;
      legs_few = p.legs_few;
      bands_few = p.bands_few;
      bytes_are = omega (arith, network-bits net);
    })

module _ (list : List ℕ) (size : Size) (room : ℕ) (h : Accepted list size room) where
  pub accepted-sizes : Sizes size room
  accepted-sizes = rw h.exact (sizes list h.net h.end size h.read h.sized)

  pub accepted-legs : LegsFit list size.places size.legs room
  accepted-legs =
      let p = parts list h.net h.end h.read in
      rw h.sized
      (record {
        places_few = p.places_few;
        count_few = p.legs_few;
        all = h.net.legs;
        end = p.end;
        read = p.read;
        fit = omega (arith, h.exact);
      })

  -- cleared bytes, the head, then the legs: the file
  pub accepted-file : {v : ℕ} (cleared topped out : List ℕ) → cleared ≡ replicate room 0
      → v ≡ 0x2_0000 + size.places * 0x400 + size.legs → Put cleared topped 0 25 v → LegsPut list size.places size.legs topped out → length out ≡ room
      → FileOf list out
  accepted-file {v} cleared topped out zeros value put legs whole net end e =
      let same : h.net ≡ net = cc h.read in
      let p = parts list h.net h.end h.read in
      let sized : size ≡ size_of h.net = h.sized in
      let top = top_fields size.places size.legs in
      let few = accepted-sizes in
      let spelt : v ≡ joined top = omega arith in
      let begun : Written top topped =
      written-joined {fs = []} top (omega arith, (omega (arith, few.places_few), (omega (arith, few.legs_few), tt)))
      (written-cleared room cleared zeros) (rw spelt at put)
      in
      let added = legs h.net.legs p.end (rw sized p.read) in
      rw (← same)
      (record {
        size = whole ∙ h.exact;
        written = rw sized at (added.behind top refl begun);
      })
