-- Fields and whole bytes: what a byte is as a field, how words are put together, and what bytes elsewhere do not change.
use Prim.Native.Nat.{ℕ, zero, suc, ◌+◌, ◌-◌, ◌*◌, ◌/◌, ◌%◌, ◌^◌, ◌≤◌, ◌<◌}
use native.Mathlib.Nat.{add-zero, zero-add, add_assoc, div-eq_of_lt, zero-div}
use native.Mathlib.Decide.{dec_lt}
use native.Mathlib.Omega.{arith}
use mathlib.Core.Path.{◌≡◌, sym, ap, ◌∙◌}
use mathlib.Core.List.{List, ◌++◌}
use lib.ListN.{length, get_or, take, drop, get_or-append, get_or-eq_default}
use lib.Seq.{ext_get_or, get_or-take, get_or-drop}
use lib.Pow.{shr-shr}
use Rattle.std.specs.Int.{w64, from_be_bytes}
use Rattle.bits.specs.Field.{bit, field}
use Rattle.bits.proofs.Fields.{field-none, field-suc, field-split, part-middle, field-same, field-zero}

-- bit k of byte i
pub bit-of-byte : (s : List ℕ) (i k : ℕ) → k < 8 → bit s (8 * i + k) ≡ get_or s i 0 / 2 ^ (7 - k) % 2
unfolding bit
bit-of-byte s i k h =
    let q : (8 * i + k) / 8 ≡ i = omega arith in
    let r : (8 * i + k) % 8 ≡ k = omega arith in
    rw (q, r)

-- the first k bits of byte i
first-bits : (s : List ℕ) (i k : ℕ) → get_or s i 0 < 256 → k ≤ 8 → field s (8 * i) k ≡ get_or s i 0 / 2 ^ (8 - k)
first-bits s i zero b h = field-none s (8 * i) ∙ sym (div-eq_of_lt b)
first-bits s i (suc k) b h =
    let e : 8 - k ≡ (7 - k) + 1 = omega arith in
    let f : 8 - suc k ≡ 7 - k = omega arith in
    let d : get_or s i 0 / 2 ^ (8 - k) ≡ get_or s i 0 / 2 ^ (7 - k) / 2 = ap (λ (n : ℕ). get_or s i 0 / 2 ^ n) e ∙ sym (shr-shr (get_or s i 0) (7 - k) 1) in
    rw (field-suc s (8 * i) k, first-bits s i k b (omega arith), bit-of-byte s i k (omega arith), f) (omega arith)

-- a byte is its field of eight bits
pub field-byte : (s : List ℕ) (i : ℕ) → get_or s i 0 < 256 → field s (8 * i) 8 ≡ get_or s i 0
field-byte s i b = first-bits s i 8 b (omega arith) ∙ omega arith

-- n bytes, and what follows them, as one number
pub joined : (s : List ℕ) (i n w : ℕ) {x y : ℕ} → x ≡ field s (8 * i) (8 * n) → y ≡ field s (8 * (i + n)) w
    → x * 2 ^ w + y ≡ field s (8 * i) (8 * n + w)
joined s i n w hx hy =
    let e : 8 * (i + n) ≡ 8 * i + 8 * n = omega arith in
    rw (hx, hy, e) (sym (field-split s (8 * i) (8 * n) w))

-- a field, cut out of the bytes that hold it
pub field_cut : (s : List ℕ) (at w n : ℕ) {x : ℕ} → at % 8 + w ≤ 8 * n → x ≡ field s (8 * (at / 8)) (8 * n)
    → x / 2 ^ (8 * n - at % 8 - w) % 2 ^ w ≡ field s at w
field_cut s at w n {x} h e =
    let down = 8 * n - at % 8 - w in
    let place : 8 * (at / 8) + at % 8 ≡ at = omega arith in
    let whole : at % 8 + w + down ≡ 8 * n = omega arith in
    rw place at (part-middle s (8 * (at / 8)) (at % 8) w down {x = x} (rw whole e))

-- bytes with equal bits are equal
pub bits-ext : (a b : List ℕ) → length a ≡ length b → ((i : ℕ) → get_or a i 0 < 256) → ((i : ℕ) → get_or b i 0 < 256)
    → ((p : ℕ) → p < 8 * length a → bit a p ≡ bit b p) → a ≡ b
bits-ext a b l ha hb h =
    ext_get_or 0 a b l λ i below.
    sym (field-byte a i (ha i)) ∙ field-same a b (8 * i) 8 (λ p from to. h p (omega arith)) ∙ field-byte b i (hb i)

-- equal bytes have equal bits
pub bit-same : (s t : List ℕ) (p : ℕ) → get_or s (p / 8) 0 ≡ get_or t (p / 8) 0 → bit s p ≡ bit t p
unfolding bit
bit-same s t p h = rw h

-- a byte of 0 has bits 0
pub bit-of-zero : (s : List ℕ) (p : ℕ) → get_or s (p / 8) 0 ≡ 0 → bit s p ≡ 0
unfolding bit
bit-of-zero s p h = rw (h, zero-div (2 ^ (7 - p % 8)))

-- past the end every bit is 0
pub bit_past : (s : List ℕ) (p : ℕ) → 8 * length s ≤ p → bit s p ≡ 0
bit_past s p h = bit-of-zero s p (get_or-eq_default s 0 (omega arith))

-- bits and fields do not look past their last byte
pub bit-take : (n : ℕ) (s : List ℕ) (p : ℕ) → p < 8 * n → bit (take n s) p ≡ bit s p
bit-take n s p h = bit-same (take n s) s p (get_or-take n s (p / 8) 0 (omega arith))

pub bit-append : (a b : List ℕ) (p : ℕ) → p < 8 * length a → bit (a ++ b) p ≡ bit a p
bit-append a b p h = bit-same (a ++ b) a p (get_or-append a b 0 (p / 8) (omega arith))

pub field-take : (n : ℕ) (s : List ℕ) (at w : ℕ) → at + w ≤ 8 * n → field (take n s) at w ≡ field s at w
field-take n s at w h = field-same (take n s) s at w λ p from to. bit-take n s p (omega arith)

pub field-append : (a b : List ℕ) (at w : ℕ) → at + w ≤ 8 * length a → field (a ++ b) at w ≡ field a at w
field-append a b at w h = field-same (a ++ b) a at w λ p from to. bit-append a b p (omega arith)

-- with the first n bytes gone, what is left stands 8 * n bits earlier
pub bit-drop : (n : ℕ) (s : List ℕ) (p : ℕ) → bit (drop n s) p ≡ bit s (8 * n + p)
unfolding bit
bit-drop n s p =
    let q : (8 * n + p) / 8 ≡ n + p / 8 = omega arith in
    let r : (8 * n + p) % 8 ≡ p % 8 = omega arith in
    rw (get_or-drop n s (p / 8) 0, q, r)

pub field-drop : (n : ℕ) (s : List ℕ) (at w : ℕ) → field (drop n s) at w ≡ field s (8 * n + at) w
field-drop n s at zero = rw (field-none (drop n s) at, field-none s (8 * n + at))
field-drop n s at (suc w) =
    rw (field-suc (drop n s) at w, field-suc s (8 * n + at) w, field-drop n s at w, bit-drop n s (at + w), add_assoc (8 * n) at w)

-- n bytes that stand elsewhere too are the same field there
pub moved : (s t : List ℕ) (i j n : ℕ) → ((k : ℕ) → k < n → get_or s (i + k) 0 ≡ get_or t (j + k) 0) → field s (8 * i) (8 * n) ≡ field t (8 * j) (8 * n)
moved s t i j n h =
    sym (front s i) ∙ field-same (drop i s) (drop j t) 0 (8 * n) (λ p from to. bit-same (drop i s) (drop j t) p (same (p / 8) (omega arith))) ∙ front t j
  where
    front : (s : List ℕ) (i : ℕ) → field (drop i s) 0 (8 * n) ≡ field s (8 * i) (8 * n)
    front s i = field-drop i s 0 (8 * n) ∙ ap (λ (p : ℕ). field s p (8 * n)) (add-zero (8 * i))

    same : (k : ℕ) → k < n → get_or (drop i s) k 0 ≡ get_or (drop j t) k 0
    same k below = get_or-drop i s k 0 ∙ h k below ∙ sym (get_or-drop j t k 0)

-- eight bytes are the number that the library reads in them
pub eight_bytes : (s : List ℕ) → ((j : ℕ) → j < 8 → get_or s j 0 < 256) → from_be_bytes w64 s ≡ field s 0 64
eight_bytes s small =
    let byte = λ (j : ℕ) (h : j < 8). sym (field-byte s j (small j h)) in
    let two = joined s 0 1 8 (byte 0 (omega arith)) (byte 1 (omega arith)) in
    let three = joined s 0 2 8 two (byte 2 (omega arith)) in
    let four = joined s 0 3 8 three (byte 3 (omega arith)) in
    let five = joined s 0 4 8 four (byte 4 (omega arith)) in
    let six = joined s 0 5 8 five (byte 5 (omega arith)) in
    let seven = joined s 0 6 8 six (byte 6 (omega arith)) in
    omega (arith, joined s 0 7 8 seven (byte 7 (omega arith)))

-- the last n of eight bytes, where those before are zero
pub last_bytes : (s t : List ℕ) (i n : ℕ) → n ≤ 8 → ((j : ℕ) → get_or s j 0 < 256) → ((j : ℕ) → j < 8 - n → get_or t j 0 ≡ 0)
    → ((k : ℕ) → k < n → get_or t (8 - n + k) 0 ≡ get_or s (i + k) 0) → from_be_bytes w64 t ≡ field s (8 * i) (8 * n)
last_bytes s t i n few small zeros same =
    let m = 8 - n in
    let whole : 64 ≡ 8 * m + 8 * n = omega arith in
    let front = field-zero t 0 (8 * m) λ p from to. bit-of-zero t p (zeros (p / 8) (omega arith)) in
    eight_bytes t (λ j h. byte j (dec_lt j m) h) ∙ ap (λ (w : ℕ). field t 0 w) whole ∙ field-split t 0 (8 * m) (8 * n)
    ∙ rw (front, zero-add (8 * m)) (omega (arith, moved t s m i n same))
  where
    byte : (j : ℕ) → Dec (j < 8 - n) → j < 8 → get_or t j 0 < 256
    byte j (yes before) h = omega (arith, zeros j before)
    byte j (no later) h =
        let k = j - (8 - n) in
        let place : 8 - n + k ≡ j = omega arith in
        let here : get_or t (8 - n + k) 0 < 256 = omega (arith, same k (omega arith), small (i + k)) in
        rw place at here
