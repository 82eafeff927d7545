-- A reading that found something went through each of its parts.
use mathlib.Core.Bool.{◌&&◌}
use Prim.Native.Nat.{ℕ, ◌≤◌}
use mathlib.Core.Path.{◌≡◌, refl}
use mathlib.Core.Bool.{Bool, true, false}
use native.Mathlib.Omega.{arith}
use borrow.Author.Tests.{leb-true, eqb-true}
use lib.Dec.{leb, ltb, eqb}
use Rattle.answer.specs.declared.Refusal.{Refusal}
use Rattle.answer.specs.declared.Refusal.TheVariants.{Short, Edition, Range, Order}
use Rattle.leg.specs.declared.Band.{Band}
use Rattle.leg.specs.Ranges.{last_minute, most_cents, minute, band_of}
use Rattle.source.specs.Source.{Source}
use Rattle.source.proofs.Laws.{both_true}
use Rattle.network.specs.declared.Head.{Head}
use Rattle.network.specs.declared.Top.{Top}
use Rattle.network.specs.Reading.{Found, refused, found, next, pick, end}
use Rattle.network.specs.Network.{Form, follows, band, head, top}

module _ {B : Type 0} (b : B) (end : ℕ) where
  -- a test that the reading passed
  pub check-step : (t : Bool) (why : Refusal) (n : ℕ) (k : ℕ → Found B) → next (pick t (found (tt {0}) n) (refused why)) (λ _ at. k at) ≡ found b end
      → (t ≡ true) × (k n ≡ found b end)
  check-step true why n k e = (refl, e)
  check-step false why n k e = (cc, cc)

  -- a field that the reading took
  pub field_step : (t : Bool) (why : Refusal) (v n : ℕ) (k : ℕ → ℕ → Found B) → next (pick t (found v n) (refused why)) k ≡ found b end
      → (t ≡ true) × (k v n ≡ found b end)
  field_step true why v n k e = (refl, e)
  field_step false why v n k e = (cc, cc)

  -- a reading within the reading
  pub inner-step : {A : Type 0} (m : Found A) (k : A → ℕ → Found B) → next m k ≡ found b end
      → (a : A) × (at : ℕ) × (m ≡ found a at) × (k a at ≡ found b end)
  inner-step (refused why) k e = let z : ◌≡◌ {A = ℕ} 0 1 = cc in absurd (omega arith)
  inner-step (found a at) k e = (a, at, refl, e)

module _ (src : Source) (at : ℕ) where
  -- a band that was found: both fields are there and pass their tests
  pub record BandRead (least : ℕ) (b : Band) (end : ℕ) : Type 0 where
    pub start_there : src.has 12 at ≡ true
    pub start_within : leb (src.value 12 at) last_minute ≡ true
    pub start_follows : follows least (src.value 12 at) ≡ true
    pub toll_there : src.has 16 (src.after 12 at) ≡ true
    pub toll_within : leb (src.value 16 (src.after 12 at)) most_cents ≡ true
    pub band_is : b ≡ band_of (src.value 12 at) (src.value 16 (src.after 12 at))
    pub end_is : end ≡ src.after 16 (src.after 12 at)

  pub band-inv : (least : ℕ) (b : Band) (end : ℕ) → band least src at ≡ found b end → BandRead least b end
  band-inv least b end e =
      let s = field_step b end (src.has 12 at) Short (src.value 12 at) (src.after 12 at) _ e in
      let r = check-step b end (leb (src.value 12 at) last_minute) Range (src.after 12 at) _ s.1 in
      let o = check-step b end (follows least (src.value 12 at)) Order (src.after 12 at) _ r.1 in
      let t = field_step b end (src.has 16 (src.after 12 at)) Short (src.value 16 (src.after 12 at)) (src.after 16 (src.after 12 at)) _ o.1 in
      let m = check-step b end (leb (src.value 16 (src.after 12 at)) most_cents) Range (src.after 16 (src.after 12 at)) _ t.1 in
      record {
        start_there = s.0;
        start_within = r.0;
        start_follows = o.0;
        toll_there = t.0;
        toll_within = m.0;
        band_is = cc m.1;
        end_is = cc m.1;
      }

  pub start_small : (least : ℕ) (b : Band) (end : ℕ) → BandRead least b end → b.start.0 ≤ last_minute
  start_small least b end t =
      rw t.band_is (leb-true (src.value 12 at) last_minute t.start_within)

  pub toll-small : (least : ℕ) (b : Band) (end : ℕ) → BandRead least b end → b.toll.0 ≤ most_cents
  toll-small least b end t = rw t.band_is (leb-true (src.value 16 (src.after 12 at)) most_cents t.toll_within)

  pub start-after : (least : ℕ) (b : Band) (end : ℕ) → BandRead least b end → follows least b.start.0 ≡ true
  start-after least b end t = rw t.band_is t.start_follows

  -- a leg's head that was found: the places of its four fields, which are there and pass their tests
  pub record HeadRead (form : Form) (places : ℕ) (h : Head) (end : ℕ) : Type 0 where
    pub from_there : src.has 6 at ≡ true
    pub from_within : ltb (src.value 6 at) places ≡ true
    pub to_there : src.has 6 (src.after 6 at) ≡ true
    pub to_within : ltb (src.value 6 (src.after 6 at)) places ≡ true
    pub time_there : src.has 12 (src.after 6 (src.after 6 at)) ≡ true
    pub time_within : leb (src.value 12 (src.after 6 (src.after 6 at))) last_minute ≡ true
    pub count_there : src.has form.count_width (src.after 12 (src.after 6 (src.after 6 at))) ≡ true
    pub count_within : ◌&&◌ (leb 1 h.count) (leb h.count form.most_bands) ≡ true
    pub head_is : h
        ≡ record {
          from = src.value 6 at;
          to = src.value 6 (src.after 6 at);
          time = minute (src.value 12 (src.after 6 (src.after 6 at)));
          count = src.value form.count_width (src.after 12 (src.after 6 (src.after 6 at)));
        }
    pub end_is : end ≡ src.after form.count_width (src.after 12 (src.after 6 (src.after 6 at)))

  pub head-inv : (form : Form) (places : ℕ) (h : Head) (end : ℕ) → head form places src at ≡ found h end → HeadRead form places h end
  head-inv form places h end e =
      let at₁ = src.after 6 at in
      let at₂ = src.after 6 at₁ in
      let at₃ = src.after 12 at₂ in
      let at₄ = src.after form.count_width at₃ in
      let f = field_step h end (src.has 6 at) Short (src.value 6 at) at₁ _ e in
      let fr = check-step h end (ltb (src.value 6 at) places) Range at₁ _ f.1 in
      let t = field_step h end (src.has 6 at₁) Short (src.value 6 at₁) at₂ _ fr.1 in
      let tr = check-step h end (ltb (src.value 6 at₁) places) Range at₂ _ t.1 in
      let m = field_step h end (src.has 12 at₂) Short (src.value 12 at₂) at₃ _ tr.1 in
      let mr = check-step h end (leb (src.value 12 at₂) last_minute) Range at₃ _ m.1 in
      let n = field_step h end (src.has form.count_width at₃) Short (src.value form.count_width at₃) at₄ _ mr.1 in
      let nr =
      check-step h end (◌&&◌ (leb 1 (src.value form.count_width at₃)) (leb (src.value form.count_width at₃) form.most_bands)) Range at₄ _
      n.1 in
      let is : h ≡ record { from = src.value 6 at; to = src.value 6 at₁; time = minute (src.value 12 at₂); count = src.value form.count_width at₃ } =
      cc nr.1 in
      record {
        from_there = f.0;
        from_within = fr.0;
        to_there = t.0;
        to_within = tr.0;
        time_there = m.0;
        time_within = mr.0;
        count_there = n.0;
        count_within = rw is nr.0;
        head_is = is;
        end_is = cc nr.1;
      }

  -- a leg has one band at least, and no more than the form allows
  pub head-count : (form : Form) (places : ℕ) (h : Head) (end : ℕ) → HeadRead form places h end → (1 ≤ h.count) × (h.count ≤ form.most_bands)
  head-count form places h end r =
      let t = both_true (leb 1 h.count) (leb h.count form.most_bands) r.count_within in
      (leb-true 1 h.count t.0, leb-true h.count form.most_bands t.1)

  -- its driving time is a minute of the clock
  pub head-time : (form : Form) (places : ℕ) (h : Head) (end : ℕ) → HeadRead form places h end → h.time.0 ≤ last_minute
  head-time form places h end r =
      rw r.head_is (leb-true (src.value 12 (src.after 6 (src.after 6 at))) last_minute r.time_within)

  -- the head of a network that was found
  pub record TopRead (t : Top) (end : ℕ) : Type 0 where
    pub edition_there : src.has 8 at ≡ true
    pub edition_is : src.value 8 at ≡ 1
    pub places_there : src.has 7 (src.after 8 at) ≡ true
    pub places_within : (1 ≤ t.places) × (t.places ≤ 64)
    pub legs_there : src.has 10 (src.after 7 (src.after 8 at)) ≡ true
    pub legs_within : t.legs ≤ 512
    pub top_is : t ≡ record { places = src.value 7 (src.after 8 at); legs = src.value 10 (src.after 7 (src.after 8 at)) }
    pub end_is : end ≡ src.after 10 (src.after 7 (src.after 8 at))

  pub top-inv : (t : Top) (end : ℕ) → top src at ≡ found t end → TopRead t end
  top-inv t end e =
      let at₁ = src.after 8 at in
      let at₂ = src.after 7 at₁ in
      let at₃ = src.after 10 at₂ in
      let v = field_step t end (src.has 8 at) Short (src.value 8 at) at₁ _ e in
      let vr = check-step t end (eqb (src.value 8 at) 1) Edition at₁ _ v.1 in
      let p = field_step t end (src.has 7 at₁) Short (src.value 7 at₁) at₂ _ vr.1 in
      let pr = check-step t end (◌&&◌ (leb 1 (src.value 7 at₁)) (leb (src.value 7 at₁) 64)) Range at₂ _ p.1 in
      let n = field_step t end (src.has 10 at₂) Short (src.value 10 at₂) at₃ _ pr.1 in
      let nr = check-step t end (leb (src.value 10 at₂) 512) Range at₃ _ n.1 in
      let is : t ≡ record { places = src.value 7 at₁; legs = src.value 10 at₂ } = cc nr.1 in
      let w = both_true (leb 1 (src.value 7 at₁)) (leb (src.value 7 at₁) 64) pr.0 in
      record {
        edition_there = v.0;
        edition_is = eqb-true (src.value 8 at) 1 vr.0;
        places_there = p.0;
        places_within = rw is (leb-true 1 (src.value 7 at₁) w.0, leb-true (src.value 7 at₁) 64 w.1);
        legs_there = n.0;
        legs_within = rw is (leb-true (src.value 10 at₂) 512 nr.0);
        top_is = is;
        end_is = cc nr.1;
      }
