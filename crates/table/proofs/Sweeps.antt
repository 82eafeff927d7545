-- The sweep: which place is next, and why it ends.
use Prim.Native.Nat.{ℕ, zero, suc, ◌+◌, ◌*◌, ◌-◌, ◌≤◌, ◌<◌}
use native.Mathlib.Omega.{arith}
use mathlib.Core.Path.{◌≡◌, ap}
use mathlib.Core.Logic.{◌⊎◌, inl, inr}
use mathlib.Core.List.{List, [], ◌∷◌}
use lib.ListN.{length, set, length-set}
use Rattle.rows.specs.Row.{at}
use Rattle.rows.specs.Whole.{sum}
use Rattle.table.specs.Kept.{Onward}

-- ---- the measure

sum-set : (xs : List ℕ) (i v : ℕ) → i < length xs → sum (set xs i v) + at xs i ≡ sum xs + v
unfolding sum
sum-set [] i v h = absurd (omega arith)
sum-set (x ∷ xs) zero v h = omega arith
sum-set (x ∷ xs) (suc i) v h = omega (arith, sum-set xs i v (omega arith))

sum-most : (xs : List ℕ) (most : ℕ) → most ≤ 2880 → ((i : ℕ) → at xs i ≤ most) → sum xs ≤ 2880 * length xs
unfolding sum
sum-most [] most b h = omega arith
sum-most (x ∷ xs) most b h = omega (arith, h 0, sum-most xs most b (λ i. h (suc i)))

-- the sum of all cells first, and then what the first changed columns come to
abbrev pub left : List ℕ → List ℕ → ℕ
left cells low = sum cells * 184321 + (184320 - sum low)

pub falls : (cells cells' low low' : List ℕ) (p w : ℕ) → length low ≡ 64 → p < 64 → at low p < w → w ≤ 2880 → ((o : ℕ) → at low o ≤ w) → ((o : ℕ) → at low' o ≤ w)
    → Onward cells cells' (set low p w) low' → left cells' low' < left cells low
falls cells cells' low low' p w size here new clock lows lows' o = by o.noted
  where
    by : (low' ≡ set low p w) ⊎ (sum cells' < sum cells) → left cells' low' < left cells low
    by (inr l) = omega arith
    by (inl e) =
        omega (
          arith,
          o.falls,
          ap sum e,
          sum-set low p w (omega arith),
          sum-most low' w clock lows',
          o.long,
          length-set low p w,
        )
