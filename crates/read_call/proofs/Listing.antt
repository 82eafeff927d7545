-- Listing the legs of a sound file: what the loop keeps, leg by leg.
use Prim.Native.Nat.{ℕ, ◌+◌, ◌*◌, ◌≤◌, ◌<◌}
use mathlib.Core.Path.{◌≡◌, refl, sym, ◌∙◌, ap, subst}
use mathlib.Core.List.{List, [], ◌∷◌, ◌++◌}
use native.Mathlib.Omega.{arith}
use borrow.Author.Tests.{le-leb}
use mathlib.Core.Bool.{Bool}
use lib.ListN.{length, length-map, set, drop}
use lib.Seq.{sets}
use Rattle.bits.specs.Packed.{Entry}
use Rattle.leg.specs.declared.Leg.{Leg}
use Rattle.source.specs.Source.{file_of}
use Rattle.network.specs.declared.Size.{Size}
use Rattle.network.specs.Reading.{Found, found, pick}
use Rattle.network.specs.Network.{Network, edition1, leg, legs, of_file}
use Rattle.network.specs.Fields.{leg_fields, legs_fields, values, numbers_of}
use Rattle.network.proofs.Fields.{legs-fields-more, legs-count, network-count, values-append}
use Rattle.network.proofs.Files.{SoundFile}
use Rattle.network.proofs.Legs.{Passed, passed_none, passed_more, passed-all}
use Rattle.read_call.specs.Read.{listed}
use Rattle.read_call.proofs.Stores.{sets-append, front}

-- so many legs are listed, from index 3 on
pub record Listing (net : List ℕ) (places n k place at : ℕ) (start list : List ℕ) : Type 0 where
  pub total : ℕ
  pub passed : Passed edition1 places n k (file_of net) 25 place total
  pub index : at ≡ 3 + 4 * k + 2 * total
  pub stored : list ≡ sets start 3 (values (legs_fields edition1 passed.before))

module _ (net : List ℕ) (places n : ℕ) (start : List ℕ) where
  pub listing_none : Listing net places n 0 25 3 start start
  unfolding legs_fields
  listing_none = record { total = 0; passed = passed_none edition1 places n (file_of net) 25; index = refl; stored = refl }

  module _ (all : List Leg) (end : ℕ) (sound : legs edition1 places n [] (file_of net) 25 ≡ found all end) where
    pub listing-all : (k place at : ℕ) (list : List ℕ) → Listing net places n k place at start list → n ≤ k → list ≡ sets start 3 (values (legs_fields edition1 all))
    listing-all k place at list p h =
        let e = passed-all edition1 places n (file_of net) 25 k place p.total p.passed h in
        let same : p.passed.before ≡ all = cc in
        rw (← same) p.stored

  pub listing-more : (k place at : ℕ) (list : List ℕ) (l : Leg) (after : ℕ) (list' : List ℕ) → Listing net places n k place at start list → k < n
      → leg edition1 places (file_of net) place ≡ found l after → list' ≡ sets list at (values (leg_fields edition1 l))
      → Listing net places n (k + 1) after (at + (4 + 2 * l.count)) start list'
  listing-more k place at list l after list' p h e s =
      let b = p.passed.before in
      let vs = values (legs_fields edition1 b) in
      let size : 3 + length vs ≡ at = omega (arith, length-map (legs_fields edition1 b) (λ (x : Entry). x.value), legs-count b, p.passed.size, p.passed.sum, p.index) in
      record {
        total = p.total + l.count;
        passed = passed_more edition1 places n (file_of net) 25 k place p.total l after p.passed h e;
        index = omega (arith, p.index);
        stored =
            s
            ∙ rw p.stored
            (rw (legs-fields-more edition1 b l, values-append (legs_fields edition1 b) (leg_fields edition1 l), sets-append start 3 vs, size));
      }

-- the same bit and the same index under other names
pub listing-at : (net : List ℕ) (places n k place place' at at' : ℕ) (start list : List ℕ) → place ≡ place' → at ≡ at'
    → Listing net places n k place at start list → Listing net places n k place' at' start list
listing-at net places n k place place' at at' start list e f h =
    subst (λ (x : ℕ). Listing net places n k place' x start list) f (subst (λ (x : ℕ). Listing net places n k x at start list) e h)

-- the head, then all legs: what the call promises of the list
pub listed-all : (s list : List ℕ) (size : Size) (f : SoundFile s size) → 3 + 4 * size.legs + 2 * size.bands ≤ length list
    → sets (sets (set list 0 1) 1 (size.places ∷ size.legs ∷ [])) 3 (values (legs_fields edition1 f.net.legs)) ≡ listed (of_file s) list
listed-all s list size f h =
    let net = f.net in
    let ns = numbers_of edition1 net in
    let room : length ns ≤ length list =
    omega (arith, network-count net, ap (λ (z : Size). z.legs) f.size_is, ap (λ (z : Size). z.bands) f.size_is) in
    ap (λ (z : Size). sets (sets (set list 0 1) 1 (z.places ∷ z.legs ∷ [])) 3 (values (legs_fields edition1 net.legs))) f.size_is
    ∙ front list ns room
    ∙ sym (ap (λ (t : Bool). pick t (ns ++ drop (length ns) list) list) (le-leb (length ns) (length list) room))
    ∙ sym (ap (λ (x : Found Network). listed x list) f.stands)
