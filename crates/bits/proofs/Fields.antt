-- Laws of fields, over every width.
use Prim.Native.Nat.{ℕ, zero, suc, ◌+◌, ◌-◌, ◌*◌, ◌/◌, ◌%◌, ◌^◌, ◌≤◌, ◌<◌}
use native.Mathlib.Nat.{add-zero, add-suc, add_assoc, mod-lt, zero-div, pow-suc}
use native.Mathlib.Omega.{arith}
use mathlib.Core.Path.{◌≡◌, refl, sym, ap, ◌∙◌}
use mathlib.Core.List.{List}
use lib.Pow.{high, low}
use Rattle.bits.specs.Field.{bit, field}

-- a field of no bits is 0
pub field-none : (s : List ℕ) (at : ℕ) → field s at 0 ≡ 0
unfolding field
field-none s at = refl

pub field-suc : (s : List ℕ) (at w : ℕ) → field s at (suc w) ≡ field s at w * 2 + bit s (at + w)
unfolding field
field-suc s at w = refl

pub bit_below : (s : List ℕ) (p : ℕ) → bit s p < 2
unfolding bit
bit_below s p = mod-lt _ (omega arith)

-- a field is below 2 to its width
pub field_below : (s : List ℕ) (at w : ℕ) → field s at w < 2 ^ w
field_below s at zero = rw field-none (omega arith)
field_below s at (suc w) = rw (field-suc s at w) (omega (arith, field_below s at w, bit_below s (at + w)))

-- a field's first bits, and the others
pub field-split : (s : List ℕ) (at a b : ℕ) → field s at (a + b) ≡ field s at a * 2 ^ b + field s (at + a) b
field-split s at a zero = rw (add-zero, field-none s (at + a)) (omega arith)
field-split s at a (suc b) =
    rw (add-suc a b, field-suc s at (a + b), field-suc s (at + a) b, field-split s at a b, add_assoc at a b, pow-suc 2 b)
    (omega arith)

-- the parts of a field that was taken at once: its first bits, its last, and some in the middle, which a shift and a mask leave
pub part-first : (s : List ℕ) (at a b : ℕ) {x : ℕ} → x ≡ field s at (a + b) → x / 2 ^ b ≡ field s at a
part-first s at a b h = rw (h, field-split s at a b) (high (field s at a) b (field_below s (at + a) b))

pub part-last : (s : List ℕ) (at a b : ℕ) {x : ℕ} → x ≡ field s at (a + b) → x % 2 ^ b ≡ field s (at + a) b
part-last s at a b h = rw (h, field-split s at a b) (low (field s at a) b (field_below s (at + a) b))

pub part-middle : (s : List ℕ) (at a b c : ℕ) {x : ℕ} → x ≡ field s at (a + b + c) → x / 2 ^ c % 2 ^ b ≡ field s (at + a) b
part-middle s at a b c h = part-last s at a b (part-first s at (a + b) c h)

-- one bit as a field
pub field-one : (s : List ℕ) (at : ℕ) → field s at 1 ≡ bit s at
field-one s at = field-suc s at 0 ∙ rw (field-none, add-zero) (omega arith)

-- equal bits make equal fields
pub field-same : (s t : List ℕ) (at w : ℕ) → ((p : ℕ) → at ≤ p → p < at + w → bit s p ≡ bit t p) → field s at w ≡ field t at w
field-same s t at zero h = rw (field-none s at, field-none t at)
field-same s t at (suc w) h =
    rw (field-suc s at w, field-suc t at w, field-same s t at w (λ p l u. h p l (omega arith)), h (at + w) (omega arith) (omega arith))

-- bit k of a field
pub field-bit : (s : List ℕ) (at w k : ℕ) → k < w → bit s (at + k) ≡ field s at w / 2 ^ (w - suc k) % 2
field-bit s at w k h =
    sym (field-one s (at + k)) ∙ sym (part-middle s at k 1 (w - suc k) (ap (λ (n : ℕ). field s at n) (omega arith)))

-- equal fields have equal bits
pub bits-same : (s t : List ℕ) (at w k : ℕ) → field s at w ≡ field t at w → k < w → bit s (at + k) ≡ bit t (at + k)
bits-same s t at w k h below = rw (field-bit s at w k below, field-bit t at w k below, h)

-- a field of zero bits is 0
pub field-zero : (s : List ℕ) (at w : ℕ) → ((p : ℕ) → at ≤ p → p < at + w → bit s p ≡ 0) → field s at w ≡ 0
field-zero s at zero h = field-none s at
field-zero s at (suc w) h =
    rw (field-suc s at w, field-zero s at w (λ p l u. h p l (omega arith)), h (at + w) (omega arith) (omega arith))

-- and such a field has only zero bits
pub bits-zero : (s : List ℕ) (at w : ℕ) → field s at w ≡ 0 → (p : ℕ) → at ≤ p → p < at + w → bit s p ≡ 0
bits-zero s at w h p from to =
    let place : at + (p - at) ≡ p = omega arith in
    let here : bit s (at + (p - at)) ≡ 0 = rw (field-bit s at w (p - at) (omega arith), h, zero-div (2 ^ (w - suc (p - at)))) in
    rw place at here
