-- Fields that reach past the end of a file, how many of four are there, and both halves of a test.
use mathlib.Core.Bool.{◌&&◌}
use Prim.Native.Nat.{ℕ, ◌+◌, ◌-◌, ◌*◌, ◌%◌, ◌^◌, ◌≤◌}
use mathlib.Core.Path.{◌≡◌, refl, ◌∙◌}
use mathlib.Core.Bool.{Bool, true, false}
use mathlib.Core.List.{List}
use native.Mathlib.Nat.{add-zero, mod-eq_of_lt, lt_of_lt_of_le}
use native.Mathlib.Omega.{arith}
use borrow.Author.Tests.{leb-true, le-leb}
use lib.Dec.{leb}
use lib.Pow.{pow_mono}
use lib.ListN.{length}
use Rattle.bits.specs.Field.{field}
use Rattle.source.specs.Source.{Whole}
use Rattle.bits.proofs.Bytes.{bit_past}
use Rattle.bits.proofs.Fields.{field-split, field-zero, field_below}

-- both halves of a test
pub both_true : (a b : Bool) → ◌&&◌ a b ≡ true → (a ≡ true) × (b ≡ true)
both_true true b e = (refl, e)
both_true false b e = (e, cc)

pub field_past : (s : List ℕ) (at w : ℕ) → 8 * length s ≤ at → field s at w ≡ 0
field_past s at w h = field-zero s at w (λ p l m. bit_past s p (omega arith))

-- a field that is cut by the end: the bits that are there, then zeros
pub field_cut : (s : List ℕ) (at left more : ℕ) → at + left ≡ 8 * length s → field s at (left + more) ≡ field s at left * 2 ^ more
field_cut s at left more e = field-split s at left more ∙ rw (field_past s (at + left) more (omega arith), add-zero)

-- how many of four fields are there, from the tests on the way
module _ (end at f₁ f₂ f₃ f₄ : ℕ) (h : (f₁ ≤ f₂) × (f₂ ≤ f₃) × (f₃ ≤ f₄)) where
  pub whole_four : leb (at + f₄) end ≡ true → Whole end at f₁ f₂ f₃ f₄ 4
  whole_four e =
      let l = leb-true (at + f₄) end e in
      record {
        one = le-leb (at + f₁) end (omega arith);
        two = le-leb (at + f₂) end (omega arith);
        three = le-leb (at + f₃) end (omega arith);
        four = e;
      }

-- the same, as the code computes it: the bits that are there, shifted up in a 32-bit word
pub field-shifted : (s : List ℕ) (at left w : ℕ) → at + left ≡ 8 * length s → left ≤ w → w ≤ 32 → field s at left * 2 ^ (w - left) % 2 ^ 32 ≡ field s at w
field-shifted s at left w e l h =
    let whole : left + (w - left) ≡ w = omega arith in
    let cut : field s at w ≡ field s at left * 2 ^ (w - left) = rw whole at (field_cut s at left (w - left) e) in
    rw (← cut) (mod-eq_of_lt (lt_of_lt_of_le (field_below s at w) (pow_mono h)))
