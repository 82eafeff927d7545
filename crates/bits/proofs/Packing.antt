-- Files of fields: what holds the fields, how a writer goes on, and that there is one file only.
use Prim.Native.Nat.{ℕ, ◌+◌, ◌-◌, ◌*◌, ◌/◌, ◌≤◌, ◌<◌}
use native.Mathlib.Nat.{add_assoc, add-zero, zero-add}
use native.Mathlib.Decide.{dec_lt}
use native.Mathlib.Omega.{arith}
use mathlib.Core.Path.{◌≡◌, sym, ◌∙◌}
use mathlib.Core.List.{List, [], ◌∷◌, ◌++◌}
use lib.ListN.{length, get_or}
use Rattle.bits.specs.Field.{bit, field, Put}
use Rattle.bits.specs.Packed.{Entry, item, bits_of, bytes_for, Holds, Written, Packed}
use Rattle.bits.proofs.Fields.{field-same, field-zero, bits-same, bits-zero}
use Rattle.bits.proofs.Bytes.{bits-ext, bit-of-zero, bit_past}

pub bits-append : (fs gs : List Entry) → bits_of (fs ++ gs) ≡ bits_of fs + bits_of gs
bits-append [] gs = sym (zero-add (bits_of gs))
bits-append (e ∷ fs) gs = rw (bits-append fs gs) (sym (add_assoc e.width (bits_of fs) (bits_of gs)))

-- the fields one by one
pub holds-none : (s : List ℕ) (at : ℕ) → Holds s at []
unfolding Holds
holds-none s at = tt

pub holds-cons : (s : List ℕ) (at : ℕ) (e : Entry) (es : List Entry) → field s at e.width ≡ e.value → Holds s (at + e.width) es
    → Holds s at (e ∷ es)
unfolding Holds
holds-cons s at e es h hs = (h, hs)

pub holds-head : (s : List ℕ) (at : ℕ) (e : Entry) (es : List Entry) → Holds s at (e ∷ es) → field s at e.width ≡ e.value
unfolding Holds
holds-head s at e es h = h.0

pub holds-tail : (s : List ℕ) (at : ℕ) (e : Entry) (es : List Entry) → Holds s at (e ∷ es) → Holds s (at + e.width) es
unfolding Holds
holds-tail s at e es h = h.1

-- fields and more fields
pub holds-append : (s : List ℕ) (at : ℕ) (fs gs : List Entry) → Holds s at fs → Holds s (at + bits_of fs) gs → Holds s at (fs ++ gs)
holds-append s at [] gs h k = rw add-zero at k
holds-append s at (e ∷ fs) gs h k =
    holds-cons s at e (fs ++ gs) (holds-head s at e fs h)
    (holds-append s (at + e.width) fs gs (holds-tail s at e fs h) (rw (← (add_assoc at e.width (bits_of fs))) at k))

pub holds-first : (s : List ℕ) (at : ℕ) (fs gs : List Entry) → Holds s at (fs ++ gs) → Holds s at fs
holds-first s at [] gs h = holds-none s at
holds-first s at (e ∷ fs) gs h =
    holds-cons s at e fs (holds-head s at e (fs ++ gs) h) (holds-first s (at + e.width) fs gs (holds-tail s at e (fs ++ gs) h))

pub holds-last : (s : List ℕ) (at : ℕ) (fs gs : List Entry) → Holds s at (fs ++ gs) → Holds s (at + bits_of fs) gs
holds-last s at [] gs h = rw add-zero h
holds-last s at (e ∷ fs) gs h =
    rw (← (add_assoc at e.width (bits_of fs))) (holds-last s (at + e.width) fs gs (holds-tail s at e (fs ++ gs) h))

-- bytes with the same bits there hold the same fields
pub holds_same : (s t : List ℕ) (at : ℕ) (fs : List Entry) → ((p : ℕ) → at ≤ p → p < at + bits_of fs → bit s p ≡ bit t p)
    → Holds t at fs → Holds s at fs
holds_same s t at [] same h = holds-none s at
holds_same s t at (e ∷ fs) same h =
    holds-cons s at e fs
    (field-same s t at e.width (λ p from to. same p from (omega arith)) ∙ holds-head t at e fs h)
    (holds_same s t (at + e.width) fs (λ p from to. same p (omega arith) (omega arith)) (holds-tail t at e fs h))

either : {A B : Type 0} → Dec A → (A → B) → ((A → ⊥) → B) → B
either (yes a) f g = f a
either (no n) f g = g n

-- bytes that hold the same fields have the same bits there
pub holds-bits : (s t : List ℕ) (at : ℕ) (fs : List Entry) → Holds s at fs → Holds t at fs → (p : ℕ) → at ≤ p → p < at + bits_of fs
    → bit s p ≡ bit t p
holds-bits s t at [] h k p from to = absurd (omega arith)
holds-bits s t at (e ∷ fs) h k p from to =
    either (dec_lt p (at + e.width))
    (λ within.
    let place : at + (p - at) ≡ p = omega arith in
    let equal : field s at e.width ≡ field t at e.width = holds-head s at e fs h ∙ sym (holds-head t at e fs k) in
    rw place at (bits-same s t at e.width (p - at) equal (omega arith)))
    (λ beyond. holds-bits s t (at + e.width) fs (holds-tail s at e fs h) (holds-tail t at e fs k) p (omega arith) (omega arith))

-- a writer begins with zeros
pub written_none : (s : List ℕ) → ((i : ℕ) → get_or s i 0 ≡ 0) → Written [] s
written_none s zeros =
    record { holds = holds-none s 0; fill = λ p from. bit-of-zero s p (zeros (p / 8)); byte = λ i. omega (arith, zeros i) }

-- and puts each field behind those before it
pub written-put : {fs : List Entry} {s t : List ℕ} {w v : ℕ} → Written fs s → Put s t (bits_of fs) w v
    → Written (fs ++ (item w v ∷ [])) t
written-put {fs} {s} {t} {w} {v} h put =
    let e = item w v in
    let total : bits_of (fs ++ (e ∷ [])) ≡ bits_of fs + (w + 0) = bits-append fs (e ∷ []) in
    record {
      holds =
          holds-append t 0 fs (e ∷ [])
          (holds_same t s 0 fs (λ p from to. put.bits_before p (omega arith)) h.holds)
          (holds-cons t (0 + bits_of fs) e [] (rw zero-add put.holds) (holds-none t (0 + bits_of fs + w)));
      fill = λ p from. put.bits_after p (omega arith) ∙ h.fill p (omega arith);
      byte = put.byte;
    }

-- a file whose fields were read and whose fill bits are zero is the file of those fields
pub packed-of-read : (fs : List Entry) (s : List ℕ) → length s ≡ bytes_for (bits_of fs) → Holds s 0 fs
    → field s (bits_of fs) (8 * length s - bits_of fs) ≡ 0 → ((i : ℕ) → get_or s i 0 < 256) → Packed fs s
packed-of-read fs s size held zeros bytes =
    record {
      size = size;
      written =
          record {
            holds = held;
            fill = λ p from.
                either (dec_lt p (8 * length s))
                (λ within. bits-zero s (bits_of fs) (8 * length s - bits_of fs) zeros p (omega arith) (omega arith))
                (λ beyond. bit_past s p (omega arith));
            byte = bytes;
          };
    }

-- and the other way round
pub packed-fill : {fs : List Entry} {s : List ℕ} → Packed fs s → (w : ℕ) → field s (bits_of fs) w ≡ 0
packed-fill {fs} {s} h w = field-zero s (bits_of fs) w (λ p from to. h.written.fill p from)

-- there is one file of given fields
pub packed-unique : (fs : List Entry) (a b : List ℕ) → Packed fs a → Packed fs b → a ≡ b
packed-unique fs a b h k =
    bits-ext a b (h.size ∙ sym k.size) h.written.byte k.written.byte λ p inside.
    either (dec_lt p (bits_of fs))
    (λ within. holds-bits a b 0 fs h.written.holds k.written.holds p (omega arith) (omega arith))
    (λ beyond. h.written.fill p (omega arith) ∙ sym (k.written.fill p (omega arith)))
