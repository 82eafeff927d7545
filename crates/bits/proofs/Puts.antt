-- What a put leaves, from the bytes that it stored; and what of it callers use.
use Prim.Native.Nat.{ℕ, ◌+◌, ◌-◌, ◌*◌, ◌/◌, ◌%◌, ◌^◌, ◌≤◌, ◌<◌}
use native.Mathlib.Decide.{dec_lt}
use native.Mathlib.Omega.{arith}
use mathlib.Core.Path.{◌≡◌, refl, sym, ap, ◌∙◌}
use mathlib.Core.List.{List}
use lib.ListN.{get_or}
use Rattle.bits.specs.Field.{bit, field, Put}
use Rattle.bits.specs.Word.{spliced, Stored}
use Rattle.bits.proofs.Fields.{part-first, part-last, part-middle, field-same, bits-same}
use Rattle.bits.proofs.Bytes.{bit-same}
use Rattle.bits.proofs.Splices.{splice-high, splice-middle, splice-low}

-- n bytes from byte i on were a bits, the w bits of the field, and d bits; v was spliced into them
module _ (s t : List ℕ) (i n a w d v : ℕ) (parts : a + w + d ≡ 8 * n) (small : v < 2 ^ w)
    (h : Stored s t i n (spliced (field s (8 * i) (8 * n)) d w v)) where
  word : field t (8 * i) (a + w + d) ≡ spliced (field s (8 * i) (a + w + d)) d w v
  word = rw parts h.holds

  high-kept : field t (8 * i) a ≡ field s (8 * i) a
  high-kept =
      let new = part-first t (8 * i) a w (part-first t (8 * i) (a + w) d refl) in
      let old = part-first s (8 * i) a w (part-first s (8 * i) (a + w) d refl) in
      rw (← new, word, splice-high (field s (8 * i) (a + w + d)) d w v small) old

  low-kept : field t (8 * i + (a + w)) d ≡ field s (8 * i + (a + w)) d
  low-kept =
      sym (part-last t (8 * i) (a + w) d refl)
      ∙ ap (λ (x : ℕ). x % 2 ^ d) word
      ∙ splice-low (field s (8 * i) (a + w + d)) d w v small
      ∙ part-last s (8 * i) (a + w) d refl

  spliced-in : field t (8 * i + a) w ≡ v
  spliced-in = sym (part-middle t (8 * i) a w d (sym word)) ∙ splice-middle (field s (8 * i) (a + w + d)) d w v small

  kept-before : (p : ℕ) → p < 8 * i + a → Dec (p < 8 * i) → bit t p ≡ bit s p
  kept-before p below (yes earlier) = bit-same t s p (h.bytes_before (p / 8) (omega arith))
  kept-before p below (no later) =
      let k = p - 8 * i in
      let place : 8 * i + k ≡ p = omega arith in
      rw place at (bits-same t s (8 * i) a k high-kept (omega arith))

  kept-after : (p : ℕ) → 8 * i + a + w ≤ p → Dec (p < 8 * (i + n)) → bit t p ≡ bit s p
  kept-after p above (yes within) =
      let k = p - (8 * i + (a + w)) in
      let place : 8 * i + (a + w) + k ≡ p = omega arith in
      rw place at (bits-same t s (8 * i + (a + w)) d k low-kept (omega arith))
  kept-after p above (no beyond) = bit-same t s p (h.bytes_after (p / 8) (omega arith))

  pub put-of-stored : ((j : ℕ) → get_or t j 0 < 256) → Put s t (8 * i + a) w v
  put-of-stored byte =
      record {
        same_length = h.same_length;
        holds = spliced-in;
        bits_before = λ p below. kept-before p below (dec_lt p (8 * i));
        bits_after = λ p above. kept-after p above (dec_lt p (8 * (i + n)));
        byte = byte;
      }

-- what was put is taken back: `holds`. A field wholly before or after the put is untouched
pub put-other-before : {s t : List ℕ} {at w v : ℕ} → Put s t at w v → (b c : ℕ) → b + c ≤ at → field t b c ≡ field s b c
put-other-before {s} {t} h b c apart = field-same t s b c (λ p from to. h.bits_before p (omega arith))

pub put-other-after : {s t : List ℕ} {at w v : ℕ} → Put s t at w v → (b c : ℕ) → at + w ≤ b → field t b c ≡ field s b c
put-other-after {s} {t} h b c apart = field-same t s b c (λ p from to. h.bits_after p (omega arith))
