-- A number with some of its bits replaced.
use Prim.Native.Nat.{ℕ, ◌+◌, ◌-◌, ◌*◌, ◌/◌, ◌%◌, ◌^◌, ◌≤◌, ◌<◌}
use native.Mathlib.Nat.{mod-lt}
use native.Mathlib.Omega.{arith}
use mathlib.Core.Path.{◌≡◌, sym, ap, ◌∙◌}
use lib.Arith.{digits_lt}
use lib.Pow.{pow_pos, pow-add, split, high, low, shr_lt, shl_exact}
use Rattle.bits.specs.Word.{spliced}

module _ (word d w : ℕ) where
  -- what the middle bits were, with what stands around them
  whole : word ≡ (word / 2 ^ d / 2 ^ w * 2 ^ w + word / 2 ^ d % 2 ^ w) * 2 ^ d + word % 2 ^ d
  whole = sym (ap (λ (n : ℕ). n * 2 ^ d + word % 2 ^ d) (split (word / 2 ^ d) w) ∙ split word d)

  module _ (v : ℕ) (small : v < 2 ^ w) where
    above : spliced word d w v / 2 ^ d ≡ word / 2 ^ d / 2 ^ w * 2 ^ w + v
    unfolding spliced
    above = high (word / 2 ^ d / 2 ^ w * 2 ^ w + v) d (mod-lt word (pow_pos d))

    pub splice-high : spliced word d w v / 2 ^ d / 2 ^ w ≡ word / 2 ^ d / 2 ^ w
    splice-high = rw above (high (word / 2 ^ d / 2 ^ w) w small)

    pub splice-middle : spliced word d w v / 2 ^ d % 2 ^ w ≡ v
    splice-middle = rw above (low (word / 2 ^ d / 2 ^ w) w small)

    pub splice-low : spliced word d w v % 2 ^ d ≡ word % 2 ^ d
    unfolding spliced
    splice-low = low (word / 2 ^ d / 2 ^ w * 2 ^ w + v) d (mod-lt word (pow_pos d))

    -- the bits above the spliced ones stay below their bound
    pub splice-below : (m : ℕ) → d + w ≤ m → word < 2 ^ m → spliced word d w v < 2 ^ m
    unfolding spliced
    splice-below m h b =
        let j = m - d - w in
        let e : m ≡ j + w + d = omega arith in
        let q : word / 2 ^ d / 2 ^ w < 2 ^ j = shr_lt j w (shr_lt (j + w) d (rw e at b)) in
        let qv : word / 2 ^ d / 2 ^ w * 2 ^ w + v < 2 ^ (j + w) = rw (pow-add 2 j w) (digits_lt q small) in
        rw (e, pow-add 2 (j + w) d) (digits_lt qv (mod-lt word (pow_pos d)))

    -- what the code does: the old bits are taken away, and the new are added
    module _ (inside : w + d ≤ 64) where
      pub old-exact : word / 2 ^ d % 2 ^ w * 2 ^ d % 2 ^ 64 ≡ word / 2 ^ d % 2 ^ w * 2 ^ d
      old-exact = shl_exact w d 64 (mod-lt (word / 2 ^ d) (pow_pos w)) inside

      pub old-within : word / 2 ^ d % 2 ^ w * 2 ^ d % 2 ^ 64 ≤ word
      old-within = rw old-exact (omega (arith, whole))

      pub splice-code : word - word / 2 ^ d % 2 ^ w * 2 ^ d % 2 ^ 64 + v * 2 ^ d % 2 ^ 64 ≡ spliced word d w v
      unfolding spliced
      splice-code = rw (old-exact, shl_exact w d 64 small inside) (omega (arith, whole))
