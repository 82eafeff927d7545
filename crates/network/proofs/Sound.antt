-- Every leg of a network that was found keeps document 01's ranges and order.
use Prim.Native.Nat.{ℕ, zero, suc, ◌+◌, ◌*◌, ◌≤◌, ◌<◌}
use mathlib.Core.Path.{◌≡◌, refl, sym, ◌∙◌, ap, subst}
use mathlib.Core.Bool.{Bool, true, false}
use mathlib.Core.List.{List, [], ◌∷◌, ◌++◌}
use native.Mathlib.Decide.{dec_lt}
use native.Mathlib.Omega.{arith}
use borrow.Author.Tests.{leb-true, ltb-true, eqb-true}
use lib.Dec.{eqb}
use lib.ListN.{length, length-set, length-append, set, get_or, get_or-append}
use lib.Seq.{get_or-set_same, get_or-set_other, get_or-append_seam}
use Rattle.leg.specs.declared.Band.{Band}
use Rattle.leg.specs.declared.Leg.{Leg}
use Rattle.leg.specs.Ranges.{last_minute, most_cents, no_band}
use Rattle.source.specs.Source.{Source}
use Rattle.network.specs.declared.Head.{Head}
use Rattle.network.specs.Reading.{found}
use Rattle.network.specs.Network.{Network, edition1, follows, band, bands, bare, with_band, head, leg, legs, network}
use Rattle.network.specs.Answers.{bands_of}
use Rattle.network.proofs.Inversion.{inner-step, band-inv, start_small, toll-small, start-after, head-inv, head-count, head-time}
use Rattle.network.proofs.Accepted.{accepted, next-leg}

abbrev pub start_of : Leg → ℕ → ℕ
start_of l k = (get_or l.bands k no_band).start.0

abbrev pub toll_of : Leg → ℕ → ℕ
toll_of l k = (get_or l.bands k no_band).toll.0

-- a leg in range, with 1 to 8 bands whose starts rise from 0
pub record SoundLeg (places : ℕ) (l : Leg) : Type 0 where
  pub from_below : l.from < places
  pub to_below : l.to < places
  pub time_within : l.time.0 ≤ last_minute
  pub some_band : 1 ≤ l.count
  pub few_bands : l.count ≤ 8
  pub begins : start_of l 0 ≡ 0
  pub rises : (k : ℕ) → k + 1 < l.count → start_of l k < start_of l (k + 1)
  pub starts_within : (k : ℕ) → k < l.count → start_of l k ≤ last_minute
  pub tolls_within : (k : ℕ) → k < l.count → toll_of l k ≤ most_cents

-- the bands so far, and the least start that the next may have
record Part (l : Leg) (least : ℕ) : Type 0 where
  size : length l.bands ≡ 8
  none : l.count ≡ 0 → least ≡ 0
  next : (k : ℕ) → l.count ≡ k + 1 → least ≡ start_of l k + 1
  begins : 0 < l.count → start_of l 0 ≡ 0
  rises : (k : ℕ) → k + 1 < l.count → start_of l k < start_of l (k + 1)
  starts : (k : ℕ) → k < l.count → start_of l k ≤ last_minute
  tolls : (k : ℕ) → k < l.count → toll_of l k ≤ most_cents

follows-first : (start : ℕ) → follows 0 start ≡ true → start ≡ 0
follows-first start e = eqb-true start 0 e

follows-later : (least start : ℕ) → 0 < least → follows least start ≡ true → least ≤ start
follows-later least start h e = go (eqb least 0) refl
  where
    go : (t : Bool) → eqb least 0 ≡ t → least ≤ start
    go true q = let z = eqb-true least 0 q in omega arith
    go false q = leb-true least start (rw q at e)

-- what stands at a place of the bands once one is set
module _ (bs : List Band) (c : ℕ) (b : Band) (room : c < length bs) where
  new-band : get_or (set bs c b) c no_band ≡ b
  new-band = get_or-set_same bs c b no_band room

  old-band : (k : ℕ) → k < c → get_or (set bs c b) k no_band ≡ get_or bs k no_band
  old-band k h = get_or-set_other bs c k b no_band (λ e. omega arith)

module _ (l : Leg) (least : ℕ) (b : Band) (p : Part l least) (room : l.count < 8) (ok : follows least b.start.0 ≡ true)
    (small : b.start.0 ≤ last_minute) (cheap : b.toll.0 ≤ most_cents) where
  in-bands : l.count < length l.bands
  in-bands = omega (arith, p.size)

  new_is : get_or (set l.bands l.count b) l.count no_band ≡ b
  new_is = new-band l.bands l.count b in-bands

  old-is : (k : ℕ) → k < l.count → get_or (set l.bands l.count b) k no_band ≡ get_or l.bands k no_band
  old-is k h = old-band l.bands l.count b in-bands k h

  -- a fact about each band, from the old ones and the new one
  each : (P : Band → Type 0) → ((k : ℕ) → k < l.count → P (get_or l.bands k no_band)) → P b
      → (k : ℕ) → k < l.count + 1 → P (get_or (set l.bands l.count b) k no_band)
  each P old new k h = go (dec_lt k l.count)
    where
      go : Dec (k < l.count) → P (get_or (set l.bands l.count b) k no_band)
      go (yes q) = subst P (sym (old-is k q)) (old k q)
      go (no q) = let same : k ≡ l.count = omega arith in rw same (subst P (sym new_is) new)

  starts-at-0 : (get_or (set l.bands l.count b) 0 no_band).start.0 ≡ 0
  starts-at-0 = go (dec_lt 0 l.count)
    where
      go : Dec (0 < l.count) → (get_or (set l.bands l.count b) 0 no_band).start.0 ≡ 0
      go (yes q) = ap (λ (x : Band). x.start.0) (old-is 0 q) ∙ p.begins q
      go (no q) =
          let first : l.count ≡ 0 = omega arith in
          let zero-start : b.start.0 ≡ 0 = follows-first b.start.0 (rw (p.none first) at ok) in
          let here = subst (λ (n : ℕ). get_or (set l.bands l.count b) n no_band ≡ b) first new_is in
          ap (λ (x : Band). x.start.0) here ∙ zero-start

  rises-on : (k : ℕ) → k + 1 < l.count + 1
      → (get_or (set l.bands l.count b) k no_band).start.0 < (get_or (set l.bands l.count b) (k + 1) no_band).start.0
  rises-on k h = go (dec_lt (k + 1) l.count)
    where
      old-start : (get_or (set l.bands l.count b) k no_band).start.0 ≡ start_of l k
      old-start = ap (λ (x : Band). x.start.0) (old-is k (omega arith))

      go : Dec (k + 1 < l.count) → (get_or (set l.bands l.count b) k no_band).start.0 < (get_or (set l.bands l.count b) (k + 1) no_band).start.0
      go (yes q) = omega (arith, p.rises k q, old-start, ap (λ (x : Band). x.start.0) (old-is (k + 1) q))
      go (no q) =
          let last : l.count ≡ k + 1 = omega arith in
          let least-is = p.next k last in
          let above = follows-later least b.start.0 (omega (arith, least-is)) ok in
          let here = ap (λ (x : Band). x.start.0) (subst (λ (n : ℕ). get_or (set l.bands l.count b) n no_band ≡ b) last new_is) in
          omega (arith, above, least-is, old-start, here)

  part-more : Part (with_band l b) (b.start.0 + 1)
  part-more = record {
    size = length-set l.bands l.count b ∙ p.size;
    none = λ e. absurd (omega (arith, e));
    next = λ k e.
        let same : k ≡ l.count = omega (arith, e) in
        rw same (ap (λ (x : Band). x.start.0 + 1) (sym new_is));
    begins = λ h. starts-at-0;
    rises = rises-on;
    starts = each (λ (x : Band). x.start.0 ≤ last_minute) p.starts small;
    tolls = each (λ (x : Band). x.toll.0 ≤ most_cents) p.tolls cheap;
  }

-- every leg of the list is sound
abbrev pub AllSound : ℕ → List Leg → Type 0
AllSound places ls = (k : ℕ) (other : Leg) → k < length ls → SoundLeg places (get_or ls k other)

-- a network that was found: 1 to 64 places, at most 512 legs, each of them sound
pub record SoundNetwork (net : Network) : Type 0 where
  pub some_place : 1 ≤ net.places
  pub few_places : net.places ≤ 64
  pub few_legs : length net.legs ≤ 512
  pub each_leg : AllSound net.places net.legs

-- sound legs have at most 8 bands each
pub bands_few : (places : ℕ) (ls : List Leg) → AllSound places ls → bands_of ls ≤ 8 * length ls
bands_few places [] a = omega arith
bands_few places (l ∷ ls) a =
    omega (arith, (a 0 l (omega arith)).few_bands, bands_few places ls (λ k other h. a (suc k) other (omega arith)))

module _ (src : Source) where
  bands-part : (n least : ℕ) (l : Leg) (at : ℕ) (l' : Leg) (end : ℕ) → bands n least l src at ≡ found l' end → Part l least → l.count + n ≤ 8
      → ((least' : ℕ) × Part l' least') × (l'.count ≡ l.count + n) × (l'.from ≡ l.from) × (l'.to ≡ l.to) × (l'.time ≡ l.time)
  unfolding bands
  bands-part zero least l at l' end e p room =
      let same : l ≡ l' = cc in
      subst
      (λ (x : Leg). ((least' : ℕ) × Part x least') × (x.count ≡ l.count + 0) × (x.from ≡ l.from) × (x.to ≡ l.to) × (x.time ≡ l.time))
      same
      ((least, p), omega arith, refl, refl, refl)
  bands-part (suc n) least l at l' end e p room =
      let s = inner-step l' end (band least src at) (λ b after. bands n (b.start.0 + 1) (with_band l b) src after) e in
      let b = s.0 in
      let r = band-inv src at least b s.1 s.2 in
      let q =
      part-more l least b p (omega arith) (start-after src at least b s.1 r) (start_small src at least b s.1 r)
      (toll-small src at least b s.1 r) in
      let t = bands-part n (b.start.0 + 1) (with_band l b) s.1 l' end s.3 q (omega arith) in
      (t.0, omega (arith, t.1), t.2, t.3, t.4)

  bare-part : (h : Head) → Part (bare edition1 h) 0
  bare-part h = record {
    size = refl;
    none = λ e. refl;
    next = λ k e. absurd (omega (arith, e));
    begins = λ h. absurd (omega arith);
    rises = λ k h. absurd (omega arith);
    starts = λ k h. absurd (omega arith);
    tolls = λ k h. absurd (omega arith);
  }

  pub leg-sound : (places at : ℕ) (l : Leg) (end : ℕ) → leg edition1 places src at ≡ found l end → SoundLeg places l
  leg-sound places at l end e =
      let s = inner-step l end (head edition1 places src at) (λ h after. bands h.count 0 (bare edition1 h) src after) e in
      let h = s.0 in
      let r = head-inv src at edition1 places h s.1 s.2 in
      let n = head-count src at edition1 places h s.1 r in
      let t = bands-part h.count 0 (bare edition1 h) s.1 l end s.3 (bare-part h) (omega (arith, n.1)) in
      let p = t.0.1 in
      let count : l.count ≡ h.count = omega (arith, t.1) in
      record {
        from_below =
            omega (arith, t.2, ap (λ (x : Head). x.from) r.head_is, ltb-true (src.value 6 at) places r.from_within);
        to_below =
            omega (arith, t.3, ap (λ (x : Head). x.to) r.head_is, ltb-true (src.value 6 (src.after 6 at)) places r.to_within);
        time_within = rw t.4 (head-time src at edition1 places h s.1 r);
        some_band = omega (arith, count, n.0);
        few_bands = omega (arith, count, n.1);
        begins = p.begins (omega (arith, count, n.0));
        rises = p.rises;
        starts_within = p.starts;
        tolls_within = p.tolls;
      }

  sound_more : (places : ℕ) (before : List Leg) (l : Leg) → AllSound places before → SoundLeg places l → AllSound places (before ++ (l ∷ []))
  sound_more places before l a s k other h = go (dec_lt k (length before))
    where
      go : Dec (k < length before) → SoundLeg places (get_or (before ++ (l ∷ [])) k other)
      go (yes q) = rw (get_or-append before (l ∷ []) other k q) (a k other q)
      go (no q) =
          let last : k ≡ length before = omega (arith, length-append before (l ∷ [])) in
          rw (last, get_or-append_seam before l [] other) s

  pub legs-sound : (places n : ℕ) (before : List Leg) (at : ℕ) (all : List Leg) (end : ℕ) → legs edition1 places n before src at ≡ found all end
      → AllSound places before → AllSound places all
  unfolding legs
  legs-sound places zero before at all end e a = let same : before ≡ all = cc in subst (λ (x : List Leg). AllSound places x) same a
  legs-sound places (suc n) before at all end e a =
      let s = next-leg edition1 places src n before at all end e in
      legs-sound places n (before ++ (s.0 ∷ [])) s.1 all end s.3
      (sound_more places before s.0 a (leg-sound places at s.0 s.1 s.2))

  pub network-sound : (net : Network) (end : ℕ) → network edition1 src 0 ≡ found net end → SoundNetwork net
  network-sound net end e =
      let a = accepted edition1 src net end e in
      record {
        some_place = a.top_read.places_within.0;
        few_places = a.top_read.places_within.1;
        few_legs = a.top_read.legs_within;
        each_leg = legs-sound net.places (length net.legs) [] a.body_at net.legs end a.legs_read (λ k other h. absurd (omega arith));
      }
