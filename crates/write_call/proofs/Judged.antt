-- What a list that was judged sound holds: its legs one after another, and numbers that fit their fields.
use Prim.Native.Nat.{ℕ, zero, suc, ◌+◌, ◌*◌, ◌≤◌, ◌<◌}
use mathlib.Core.Path.{◌≡◌, refl, sym, ap, ◌∙◌}
use mathlib.Core.List.{List, [], ◌∷◌, ◌++◌, append_assoc, append-nil}
use native.Mathlib.Omega.{arith}
use borrow.Author.Tests.{leb-true, ltb-true}
use lib.ListN.{length, get_or, set, replicate}
use Rattle.leg.specs.declared.Band.{Band}
use Rattle.leg.specs.declared.Leg.{Leg}
use Rattle.leg.specs.Ranges.{last_minute, most_cents, no_band}
use Rattle.source.specs.Source.{Source, list_of}
use Rattle.network.specs.Reading.{found}
use Rattle.network.specs.Network.{Network, edition1, band, bands, bare, with_band, head, leg, legs, of_list}
use Rattle.network.specs.Answers.{bands_of}
use Rattle.network.proofs.Inversion.{inner-step, band-inv, start_small, head-inv}
use Rattle.network.proofs.Accepted.{accepted}
use Rattle.network.proofs.Near.{leg-near, list_near}
use Rattle.network.proofs.Sound.{network-sound, bands_few}
use Rattle.write_call.specs.Steps.{Small}

abbrev SmallBand : Band → Type 0
SmallBand b = (b.start.0 < 4096) × (b.toll.0 < 65536)

abbrev SmallBands : List Band → Type 0
SmallBands bs = (k : ℕ) → SmallBand (get_or bs k no_band)

small-none : (n k : ℕ) → SmallBand (get_or (replicate n no_band) k no_band)
small-none zero k = (omega arith, omega arith)
small-none (suc n) zero = (omega arith, omega arith)
small-none (suc n) (suc k) = small-none n k

small-set : (bs : List Band) (i : ℕ) (b : Band) → SmallBand b → SmallBands bs → SmallBands (set bs i b)
small-set [] i b h hs k = hs k
small-set (c ∷ bs) zero b h hs zero = h
small-set (c ∷ bs) zero b h hs (suc k) = hs (suc k)
small-set (c ∷ bs) (suc i) b h hs zero = hs zero
small-set (c ∷ bs) (suc i) b h hs (suc k) = small-set bs i b h (λ j. hs (suc j)) k

small-band : (src : Source) (at least : ℕ) (b : Band) (end : ℕ) → band least src at ≡ found b end → SmallBand b
small-band src at least b end e =
    let r = band-inv src at least b end e in
    let toll : b.toll.0 ≤ most_cents = rw r.band_is (leb-true (src.value 16 (src.after 12 at)) most_cents r.toll_within) in
    (omega (arith, start_small src at least b end r), omega (arith, toll))

-- reading bands changes nothing else of the leg
record Banded (l l' : Leg) : Type 0 where
  same_from : l'.from ≡ l.from
  same_to : l'.to ≡ l.to
  same_time : l'.time.0 ≡ l.time.0
  small : SmallBands l'.bands

banded : (src : Source) (n least : ℕ) (l : Leg) (at : ℕ) (l' : Leg) (end : ℕ) → SmallBands l.bands → bands n least l src at ≡ found l' end → Banded l l'
unfolding bands
banded src zero least l at l' end h e =
    let p : l ≡ l' = cc in
    rw (← p) (record { same_from = refl; same_to = refl; same_time = refl; small = h })
banded src (suc n) least l at l' end h e =
    let s = inner-step l' end (band least src at) (λ b at₁. bands n (b.start.0 + 1) (with_band l b) src at₁) e in
    let more = small-set l.bands l.count s.0 (small-band src at least s.0 s.1 s.2) h in
    let r = banded src n (s.0.start.0 + 1) (with_band l s.0) s.1 l' end more s.3 in
    record { same_from = r.same_from; same_to = r.same_to; same_time = r.same_time; small = r.small }

module _ (list : List ℕ) (places : ℕ) where
  -- the numbers of a leg fit their fields
  pub leg_small : (at : ℕ) (l : Leg) (end : ℕ) → places ≤ 64 → leg edition1 places (list_of list) at ≡ found l end → Small l
  leg_small at l end few e =
      let src = list_of list in
      let s = inner-step l end (head edition1 places src at) (λ h at₁. bands h.count 0 (bare edition1 h) src at₁) e in
      let h = head-inv src at edition1 places s.0 s.1 s.2 in
      let b = banded src s.0.count 0 (bare edition1 s.0) s.1 l end (small-none 8) s.3 in
      let from : s.0.from < places = rw h.head_is (ltb-true (src.value 6 at) places h.from_within) in
      let to : s.0.to < places = rw h.head_is (ltb-true (src.value 6 (src.after 6 at)) places h.to_within) in
      let time : s.0.time.0 ≤ last_minute =
      rw h.head_is (leb-true (src.value 12 (src.after 6 (src.after 6 at))) last_minute h.time_within)
      in
      record {
        from_small = omega (arith, from, b.same_from);
        to_small = omega (arith, to, b.same_to);
        time_small = omega (arith, time, b.same_time);
        count_small = (leg-near (list_of list) (list_near list) places at l end e).1;
        bands_small = b.small;
      }

  -- the legs that are read stand behind those before
  pub record Further (n : ℕ) (before all : List Leg) : Type 0 where
    pub more : List Leg
    pub all_are : all ≡ before ++ more
    pub size : length more ≡ n
    pub few : bands_of more ≤ 8 * n

  pub legs-further : (n : ℕ) (before : List Leg) (at : ℕ) (all : List Leg) (end : ℕ) → legs edition1 places n before (list_of list) at ≡ found all end
      → Further n before all
  unfolding legs
  legs-further zero before at all end e =
      let p : before ≡ all = cc in
      record { more = []; all_are = sym p ∙ sym (append-nil before); size = refl; few = omega arith }
  legs-further (suc n) before at all end e =
      let src = list_of list in
      let s = inner-step all end (leg edition1 places src at) (λ l at₁. legs edition1 places n (before ++ (l ∷ [])) src at₁) e in
      let r = legs-further n (before ++ (s.0 ∷ [])) s.1 all end s.3 in
      let near = leg-near (list_of list) (list_near list) places at s.0 s.1 s.2 in
      record {
        more = s.0 ∷ r.more;
        all_are = r.all_are ∙ append_assoc before (s.0 ∷ []) r.more;
        size = ap suc r.size;
        few = omega (arith, r.few, near.1);
      }

-- the parts of a network that a list stands for
pub record Parts (list : List ℕ) (net : Network) : Type 0 where
  pub places_few : net.places ≤ 64
  pub legs_few : length net.legs ≤ 512
  pub bands_few : bands_of net.legs ≤ 4096
  pub end : ℕ
  pub read : legs edition1 net.places (length net.legs) [] (list_of list) 3 ≡ found net.legs end

pub parts : (list : List ℕ) (net : Network) (end : ℕ) → of_list list ≡ found net end → Parts list net
parts list net end e =
    let a = accepted edition1 (list_of list) net end e in
    let s = network-sound (list_of list) net end e in
    record {
      places_few = s.few_places;
      legs_few = s.few_legs;
      bands_few = omega (arith, bands_few net.places net.legs s.each_leg, s.few_legs);
      end = end;
      read = rw a.top_read.end_is at a.legs_read;
    }
