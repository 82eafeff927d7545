-- What a reading found, and the fields that it took: it finds the same on every source that carries them.
use mathlib.Core.Bool.{◌&&◌}
use Prim.Native.Nat.{ℕ, zero, suc, ◌+◌, ◌≤◌, ◌<◌}
use mathlib.Core.Path.{◌≡◌, refl, sym, ◌∙◌, ap, subst}
use mathlib.Core.Bool.{true}
use mathlib.Core.List.{List, [], ◌∷◌, ◌++◌, append_assoc, append-nil}
use native.Mathlib.Omega.{arith}
use borrow.Author.Tests.{le-leb}
use lib.Dec.{leb, ltb}
use lib.ListN.{length, length-set, set}
use lib.Seq.{get_or-set_same, get_or-set_other}
use Rattle.bits.specs.Packed.{Entry}
use Rattle.leg.specs.declared.Band.{Band}
use Rattle.leg.specs.declared.Leg.{Leg}
use Rattle.leg.specs.Ranges.{last_minute, most_cents, no_band}
use Rattle.source.specs.Source.{Source}
use Rattle.network.specs.declared.Head.{Head}
use Rattle.network.specs.declared.Top.{Top}
use Rattle.network.specs.Reading.{found, Reading, ◌>>=◌}
use Rattle.network.specs.Network.{Network, edition1, band, bands, bare, with_band, head, leg, legs, top, network}
use Rattle.network.specs.Fields.{band_fields, bands_fields, head_fields, leg_fields, legs_fields, top_fields, fields_of}
use Rattle.network.proofs.Inversion.{inner-step, band-inv, start-after, HeadRead, head-inv, head-count, TopRead}
use Rattle.network.proofs.Legs.{body-sound, network-topped}
use Rattle.network.proofs.Fields.{bands-fields-more, legs-fields-more}
use Rattle.network.proofs.Accepted.{accepted, next-leg, top_of}
use Rattle.network.proofs.Carries.{Carries, carries-append, carries-split}

-- the reading found `a` in these fields, and finds it wherever they are carried
pub record Trace {A : Type 0} (m : Reading A) (src : Source) (at : ℕ) (a : A) (end : ℕ) (es : List Entry) : Type 0 where
  pub carried : Carries src at es end
  pub replays : (other : Source) (from to : ℕ) → Carries other from es to → m other from ≡ found a to

-- the first k bands are the same after a later one is set
bands-set : (k : ℕ) (bs : List Band) (i : ℕ) (b : Band) → k ≤ i → bands_fields k (set bs i b) ≡ bands_fields k bs
unfolding bands_fields
bands-set zero bs i b h = refl
bands-set (suc k) bs i b h =
    rw (bands-set k bs i b (omega arith), get_or-set_other bs i k b no_band (λ e. omega arith))

-- and one more is set
bands-one-more : (l : Leg) (b : Band) → l.count < length l.bands
    → bands_fields (l.count + 1) (set l.bands l.count b) ≡ bands_fields l.count l.bands ++ band_fields b
bands-one-more l b room =
    bands-fields-more l.count (set l.bands l.count b)
    ∙ rw (bands-set l.count l.bands l.count b (omega arith), get_or-set_same l.bands l.count b no_band room)

module _ (src : Source) where
  -- one reading after another takes the fields of both
  trace-next : {A B : Type 0} (m : Reading A) (k : A → Reading B) (at : ℕ) (a : A) (mid : ℕ) (b : B) (end : ℕ) (es fs : List Entry)
      → Trace m src at a mid es → Trace (k a) src mid b end fs → Trace (m >>= k) src at b end (es ++ fs)
  trace-next m k at a mid b end es fs p q =
      record {
        carried = carries-append src at es fs mid end p.carried q.carried;
        replays = λ other from to c.
            let s = carries-split other from es fs to c in
            rw (p.replays other from s.0 s.1) (q.replays other s.0 to s.2);
      }

  -- one band takes its two fields
  pub band-trace : (least at : ℕ) (b : Band) (end : ℕ) → band least src at ≡ found b end → Trace (band least) src at b end (band_fields b)
  band-trace least at b end e =
      let r = band-inv src at least b end e in
      let s : leb b.start.0 last_minute ≡ true = rw r.band_is r.start_within in
      let o = start-after src at least b end r in
      let t : leb b.toll.0 most_cents ≡ true = rw r.band_is r.toll_within in
      record {
        carried = (r.start_there, rw r.band_is, (r.toll_there, rw r.band_is, sym r.end_is));
        replays = λ other from to c. simp (c.0, c.1, s, o, c.2.0, c.2.1, t, c.2.2);
      }

  -- so many bands more: the fields that they add, and that the head is kept
  record BandsTrace (n least : ℕ) (l : Leg) (at : ℕ) (l' : Leg) (end : ℕ) : Type 0 where
    es : List Entry
    trace : Trace (bands n least l) src at l' end es
    fields : bands_fields l'.count l'.bands ≡ bands_fields l.count l.bands ++ es
    count : l'.count ≡ l.count + n
    head_kept : (k : ℕ) → head_fields edition1 l' k ≡ head_fields edition1 l k

  bands-trace : (n least : ℕ) (l : Leg) (at : ℕ) (l' : Leg) (end : ℕ) → bands n least l src at ≡ found l' end → length l.bands ≡ 8 → l.count + n ≤ 8
      → BandsTrace n least l at l' end
  unfolding bands
  bands-trace zero least l at l' end e size room =
      let same : l' ≡ l = cc in
      let place : at ≡ end = cc in
      record {
        es = [];
        trace = record { carried = place; replays = λ other from to c. cc };
        fields = rw append-nil (ap (λ (x : Leg). bands_fields x.count x.bands) same);
        count = omega (arith, ap (λ (x : Leg). x.count) same);
        head_kept = λ k. ap (λ (x : Leg). head_fields edition1 x k) same;
      }
  bands-trace (suc n) least l at l' end e size room =
      let s = inner-step l' end (band least src at) (λ b after. bands n (b.start.0 + 1) (with_band l b) src after) e in
      let b = s.0 in
      let r =
      bands-trace n (b.start.0 + 1) (with_band l b) s.1 l' end s.3 (length-set l.bands l.count b ∙ size) (omega arith) in
      record {
        es = band_fields b ++ r.es;
        trace =
            trace-next (band least) (λ c. bands n (c.start.0 + 1) (with_band l c)) at b s.1 l' end (band_fields b) r.es
            (band-trace least at b s.1 s.2) r.trace;
        fields =
            r.fields ∙ ap (λ (fs : List Entry). fs ++ r.es) (bands-one-more l b (omega (arith, size)))
            ∙ append_assoc (bands_fields l.count l.bands) (band_fields b) r.es;
        count = omega (arith, r.count);
        head_kept = r.head_kept;
      }

  head-trace : (places at : ℕ) (h : Head) (end : ℕ) → HeadRead src at edition1 places h end
      → Trace (head edition1 places) src at h end (head_fields edition1 (bare edition1 h) h.count)
  head-trace places at h end r =
      let f : ltb h.from places ≡ true = rw r.head_is r.from_within in
      let t : ltb h.to places ≡ true = rw r.head_is r.to_within in
      let m : leb h.time.0 last_minute ≡ true = rw r.head_is r.time_within in
      let n = r.count_within in
      record {
        carried = (
          r.from_there,
          rw r.head_is,
          (r.to_there, rw r.head_is, (r.time_there, rw r.head_is, (r.count_there, rw r.head_is, sym r.end_is))),
        );
        replays = λ other from to c.
            simp (c.0, c.1, f, c.2.0, c.2.1, t, c.2.2.0, c.2.2.1, m, c.2.2.2.0, c.2.2.2.1, n, c.2.2.2.2);
      }

  pub leg-trace : (places at : ℕ) (l : Leg) (end : ℕ) → leg edition1 places src at ≡ found l end
      → Trace (leg edition1 places) src at l end (leg_fields edition1 l)
  unfolding bands_fields
  leg-trace places at l end e =
      let s = inner-step l end (head edition1 places src at) (λ h after. bands h.count 0 (bare edition1 h) src after) e in
      let h = s.0 in
      let r = head-inv src at edition1 places h s.1 s.2 in
      let few = (head-count src at edition1 places h s.1 r).1 in
      let b = bands-trace h.count 0 (bare edition1 h) s.1 l end s.3 refl (omega (arith, few)) in
      let count : l.count ≡ h.count = omega (arith, b.count) in
      let fields : leg_fields edition1 l ≡ head_fields edition1 (bare edition1 h) h.count ++ b.es =
      ap (λ (es : List Entry). head_fields edition1 l l.count ++ es) b.fields
      ∙ ap (λ (es : List Entry). es ++ b.es) (b.head_kept l.count ∙ ap (λ (k : ℕ). head_fields edition1 (bare edition1 h) k) count) in
      rw fields
      (trace-next (head edition1 places) (λ h. bands h.count 0 (bare edition1 h)) at h s.1 l end
      (head_fields edition1 (bare edition1 h) h.count) b.es
      (head-trace places at h s.1 r) b.trace)

  -- so many legs more, and the fields that they add
  record LegsTrace (places n : ℕ) (before : List Leg) (at : ℕ) (all : List Leg) (end : ℕ) : Type 0 where
    es : List Entry
    trace : Trace (legs edition1 places n before) src at all end es
    fields : legs_fields edition1 all ≡ legs_fields edition1 before ++ es

  legs-trace : (places n : ℕ) (before : List Leg) (at : ℕ) (all : List Leg) (end : ℕ) → legs edition1 places n before src at ≡ found all end
      → LegsTrace places n before at all end
  unfolding legs
  legs-trace places zero before at all end e =
      let same : all ≡ before = cc in
      let place : at ≡ end = cc in
      record {
        es = [];
        trace = record { carried = place; replays = λ other from to c. cc };
        fields = rw append-nil (ap (λ (ls : List Leg). legs_fields edition1 ls) same);
      }
  legs-trace places (suc n) before at all end e =
      let s = next-leg edition1 places src n before at all end e in
      let l = s.0 in
      let r = legs-trace places n (before ++ (l ∷ [])) s.1 all end s.3 in
      record {
        es = leg_fields edition1 l ++ r.es;
        trace =
            trace-next (leg edition1 places) (λ m. legs edition1 places n (before ++ (m ∷ []))) at l s.1 all end (leg_fields edition1 l) r.es
            (leg-trace places at l s.1 s.2) r.trace;
        fields =
            r.fields ∙ ap (λ (fs : List Entry). fs ++ r.es) (legs-fields-more edition1 before l)
            ∙ append_assoc (legs_fields edition1 before) (leg_fields edition1 l) r.es;
      }

  top-trace : (at : ℕ) (t : Top) (end : ℕ) → TopRead src at t end → Trace top src at t end (top_fields t.places t.legs)
  top-trace at t end r =
      let p : ◌&&◌ (leb 1 t.places) (leb t.places 64) ≡ true = simp (le-leb 1 t.places r.places_within.0, le-leb t.places 64 r.places_within.1) in
      let n = le-leb t.legs 512 r.legs_within in
      record {
        carried =
            (r.edition_there, r.edition_is, (r.places_there, rw r.top_is, (r.legs_there, rw r.top_is, sym r.end_is)));
        replays = λ other from to c. simp (c.0, c.1, c.2.0, c.2.1, p, c.2.2.0, c.2.2.1, n, c.2.2.2);
      }

-- a network that was found: its source carries its fields and ends, and every source that does so stands for it
pub record NetworkTrace (src : Source) (net : Network) (end : ℕ) : Type 0 where
  pub carried : Carries src 0 (fields_of edition1 net) end
  pub ends : src.ends end ≡ true
  pub replays : (other : Source) (to : ℕ) → Carries other 0 (fields_of edition1 net) to → other.ends to ≡ true → network edition1 other 0 ≡ found net to

pub network-trace : (src : Source) (net : Network) (end : ℕ) → network edition1 src 0 ≡ found net end → NetworkTrace src net end
unfolding legs_fields
network-trace src net end e =
    let a = accepted edition1 src net end e in
    let ls = net.legs in
    let t = top-trace src 0 (top_of net) a.body_at a.top_read in
    let r = legs-trace src net.places (length ls) [] a.body_at ls end a.legs_read in
    let first = top_fields net.places (length ls) in
    let rest : legs_fields edition1 ls ≡ r.es = r.fields in
    record {
      carried = carries-append src 0 first (legs_fields edition1 ls) a.body_at end t.carried (rw rest r.trace.carried);
      ends = a.ends;
      replays = λ other to c last.
          let s = carries-split other 0 first (legs_fields edition1 ls) to c in
          let same = r.trace.replays other s.0 to (subst (λ (fs : List Entry). Carries other s.0 fs to) rest s.2) in
          network-topped edition1 other 0 (top_of net) s.0 (t.replays other 0 s.0 s.1)
          ∙ body-sound edition1 (top_of net) other s.0 ls to same last;
    }
