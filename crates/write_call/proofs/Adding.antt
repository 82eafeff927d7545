-- Fields that follow those before them: none, several put at once, and more of them.
use Prim.Native.Nat.{ℕ, zero, suc, ◌+◌, ◌*◌, ◌<◌}
use native.Mathlib.Omega.{arith}
use mathlib.Core.Path.{◌≡◌, refl, ap, ◌∙◌}
use mathlib.Core.List.{List, [], ◌++◌, append_assoc, append-nil}
use lib.ListN.{get_or, replicate}
use Rattle.bits.specs.Field.{Put}
use Rattle.bits.specs.Packed.{Entry, bits_of, Written}
use Rattle.bits.proofs.Packing.{bits-append, written_none}
use Rattle.bits.proofs.Joined.{joined, AllFit, written-joined}
use Rattle.leg.specs.declared.Band.{Band}
use Rattle.leg.specs.Ranges.{no_band}
use Rattle.network.specs.Fields.{band_fields, bands_fields}
use Rattle.network.proofs.Fields.{bands-fields-more, bands-bits}
use Rattle.write_call.specs.Steps.{Adds}

pub adds_none : (s : List ℕ) (at : ℕ) → Adds s s at []
adds_none s at = record { same_length = refl; behind = λ fs e w. rw append-nil w }

pub adds-put : {s t : List ℕ} {at v : ℕ} (es : List Entry) → AllFit es → v ≡ joined es → Put s t at (bits_of es) v → Adds s t at es
adds-put es fit value put = record { same_length = put.same_length; behind = λ fs e w. written-joined es fit w (rw (e, ← value) put) }

pub adds_then : {a b c : List ℕ} {at : ℕ} (es gs : List Entry) → Adds a b at es → Adds b c (at + bits_of es) gs → Adds a c at (es ++ gs)
adds_then {at = at} es gs p q =
    record {
      same_length = q.same_length ∙ p.same_length;
      behind = λ fs e w.
          rw (← (append_assoc fs es gs))
          (q.behind (fs ++ es) (bits-append fs es ∙ ap (λ (n : ℕ). n + bits_of es) e) (p.behind fs e w));
    }

no-bands : (bs : List Band) → bands_fields 0 bs ≡ []
unfolding bands_fields
no-bands bs = refl

-- no band of a leg, and one band more
pub adds-no-bands : (s : List ℕ) (at : ℕ) (bs : List Band) → Adds s s at (bands_fields 0 bs)
adds-no-bands s at bs = rw (no-bands bs) (adds_none s at)

pub adds-band : {first s t : List ℕ} {at v : ℕ} (k : ℕ) (bs : List Band) → (get_or bs k no_band).start.0 < 4096 → (get_or bs k no_band).toll.0 < 65536
    → v ≡ (get_or bs k no_band).start.0 * 0x1_0000 + (get_or bs k no_band).toll.0 → Adds first s at (bands_fields k bs) → Put s t (at + 28 * k) 28 v
    → Adds first t at (bands_fields (k + 1) bs)
adds-band {at = at} {v = v} k bs start toll value a put =
    let es = band_fields (get_or bs k no_band) in
    let spelt : v ≡ joined es = omega arith in
    let place : at + 28 * k ≡ at + bits_of (bands_fields k bs) = omega (arith, bands-bits k bs) in
    rw (bands-fields-more k bs) (adds_then (bands_fields k bs) es a (adds-put es (start, (toll, tt)) spelt (rw place at put)))

get_or-zeros : (n i : ℕ) → ◌≡◌ {A = ℕ} (get_or (replicate n 0) i 0) 0
get_or-zeros zero i = refl
get_or-zeros (suc n) zero = refl
get_or-zeros (suc n) (suc i) = get_or-zeros n i

-- a writer begins with cleared bytes
pub written-cleared : (n : ℕ) (s : List ℕ) → s ≡ replicate n 0 → Written [] s
written-cleared n s e = written_none s (λ i. rw e (get_or-zeros n i))
