-- Several fields at once: one put of the number that they spell together.
use Prim.Native.Nat.{ℕ, ◌+◌, ◌*◌, ◌^◌, ◌≤◌, ◌<◌}
use native.Mathlib.Nat.{mul-le-mul_right, zero-add}
use native.Mathlib.Omega.{arith}
use mathlib.Core.Path.{◌≡◌, sym, ◌∙◌}
use mathlib.Core.List.{List, [], ◌∷◌, ◌++◌}
use lib.Pow.{pow-add, high, low}
use Rattle.bits.specs.Field.{field, Put}
use Rattle.bits.specs.Packed.{Entry, bits_of, Holds, Written}
use Rattle.bits.proofs.Fields.{part-first, part-last}
use Rattle.bits.proofs.Packing.{bits-append, holds-none, holds-cons, holds-append, holds_same}

-- the number that the fields spell together
abbrev pub joined : List Entry → ℕ
joined [] = 0
joined (e ∷ es) = e.value * 2 ^ bits_of es + joined es

-- each number fits its field
abbrev pub AllFit : List Entry → Type 0
AllFit [] = Unit
AllFit (e ∷ es) = (e.value < 2 ^ e.width) × AllFit es

pub joined-below : (es : List Entry) → AllFit es → joined es < 2 ^ bits_of es
joined-below [] h = omega arith
joined-below (e ∷ es) h =
    let one : e.value + 1 ≤ 2 ^ e.width = omega (arith, h.0) in
    rw (pow-add 2 e.width (bits_of es)) (omega (arith, joined-below es h.1, mul-le-mul_right (2 ^ bits_of es) one))

-- the number in their bits is the fields one by one
pub holds-joined : (s : List ℕ) (at : ℕ) (es : List Entry) → AllFit es → field s at (bits_of es) ≡ joined es → Holds s at es
holds-joined s at [] h q = holds-none s at
holds-joined s at (e ∷ es) h q =
    let b = bits_of es in
    let below = joined-below es h.1 in
    holds-cons s at e es (sym (part-first s at e.width b (sym q)) ∙ high e.value b below)
    (holds-joined s (at + e.width) es h.1 (sym (part-last s at e.width b (sym q)) ∙ low e.value b below))

-- a writer puts several fields at once
pub written-joined : {fs : List Entry} {s t : List ℕ} (es : List Entry) → AllFit es → Written fs s → Put s t (bits_of fs) (bits_of es) (joined es)
    → Written (fs ++ es) t
written-joined {fs} {s} {t} es fit h put =
    let total = bits-append fs es in
    record {
      holds =
          holds-append t 0 fs es
          (holds_same t s 0 fs (λ p from to. put.bits_before p (omega arith)) h.holds)
          (rw zero-add (holds-joined t (bits_of fs) es fit put.holds));
      fill = λ p from. put.bits_after p (omega arith) ∙ h.fill p (omega arith);
      byte = put.byte;
    }
