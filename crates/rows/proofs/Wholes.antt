-- A row that was lent out and has come back, put into the whole table; and what all cells come to.
use Prim.Native.Nat.{ℕ, suc, zero, ◌+◌, ◌*◌, ◌-◌, ◌≤◌, ◌<◌, min}
use native.Mathlib.Omega.{arith}
use native.Mathlib.Decide.{dec_lt}
use native.Mathlib.Nat.{mul-le-mul_right, add-mul, one-mul}
use mathlib.Core.Path.{◌≡◌, sym, ◌∙◌, ap}
use mathlib.Core.Logic.{◌≢◌, ◌⊎◌, inl, inr}
use mathlib.Core.List.{List, [], ◌∷◌, ◌++◌}
use lib.ListN.{length, take, drop, length-take, length-drop, get_or-append, take-append-drop}
use lib.Seq.{get_or-take, get_or-drop, get_or-append-add, length-take-le, take_at, drop_at}
use borrow.Rule.Slice.PartMut.{put_mid, same_len_mid}
use Rattle.rows.specs.Row.{at, Settle, Search, Lower}
use Rattle.rows.specs.Whole.{cell, row_of, sum, Only, SettleRow, LowerRow}

-- ---- sums

pub sum-append : (xs ys : List ℕ) → sum (xs ++ ys) ≡ sum xs + sum ys
unfolding sum
sum-append [] ys = omega arith
sum-append (x ∷ xs) ys = omega (arith, sum-append xs ys)

pub sum_below : (old new : List ℕ) → length new ≡ length old → ((i : ℕ) → at new i ≤ at old i) → sum new ≤ sum old
unfolding sum
sum_below [] [] e h = omega arith
sum_below [] (y ∷ ys) e h = absurd (omega arith)
sum_below (x ∷ xs) [] e h = absurd (omega arith)
sum_below (x ∷ xs) (y ∷ ys) e h = omega (arith, h 0, sum_below xs ys (omega arith) (λ i. h (suc i)))

pub sum_less : (old new : List ℕ) (k : ℕ) → length new ≡ length old → ((i : ℕ) → at new i ≤ at old i) → at new k < at old k → sum new < sum old
unfolding sum
sum_less [] [] k e h l = absurd (omega arith)
sum_less [] (y ∷ ys) k e h l = absurd (omega arith)
sum_less (x ∷ xs) [] k e h l = absurd (omega arith)
sum_less (x ∷ xs) (y ∷ ys) zero e h l = omega (arith, sum_below xs ys (omega arith) (λ i. h (suc i)))
sum_less (x ∷ xs) (y ∷ ys) (suc k) e h l = omega (arith, h 0, sum_less xs ys k (omega arith) (λ i. h (suc i)) l)

-- ---- places and columns

-- the rows of two places do not meet
pub rows_apart : (o p w : ℕ) → o < p → o * w + w ≤ p * w
rows_apart o p w h = omega (arith, mul-le-mul_right {m = o + 1} {n = p} w (omega arith), add-mul o 1 w, one-mul w)

module _ (cells : List ℕ) (w p : ℕ) (fits : p * w + w ≤ length cells) where
  pub row-length : length (row_of cells w p) ≡ w
  row-length = simp (length-take, length-drop) (omega arith)

  pub row_at : (j : ℕ) → j < w → at (row_of cells w p) j ≡ cell cells w p j
  row_at j h = rw (get_or-take, get_or-drop)

module _ (cells : List ℕ) (w p : ℕ) (fits : p * w + w ≤ length cells) (ys : List ℕ) (long : length ys ≡ w) where
  abbrev pub whole : List ℕ
  whole = put_mid (p * w) w cells ys

  front_length : length (take (p * w) cells) ≡ p * w
  front_length = length-take-le (p * w) cells (omega arith)

  pub whole_length : length whole ≡ length cells
  whole_length = same_len_mid (p * w) w cells ys (long ∙ sym (row-length cells w p fits))

  pub whole_row : row_of whole w p ≡ ys
  whole_row = ap (take w) (drop_at (take (p * w) cells) (ys ++ drop w (drop (p * w) cells)) (p * w) front_length) ∙ take_at ys (drop w (drop (p * w) cells)) w long

  whole-at : (i : ℕ) → (i < p * w) ⊎ (p * w + w ≤ i) → at whole i ≡ at cells i
  whole-at i (inl h) =
      get_or-append (take (p * w) cells) (ys ++ drop w (drop (p * w) cells)) 0 i (omega (arith, front_length)) ∙ get_or-take (p * w) cells i 0 h
  whole-at i (inr h) =
      let m = i - (p * w + w) in
      let is : i ≡ length (take (p * w) cells) + (length ys + m) = omega (arith, front_length) in
      let there : p * w + (w + m) ≡ i = omega arith in
      ap (at whole) is ∙ get_or-append-add (take (p * w) cells) (ys ++ drop w (drop (p * w) cells)) (length ys + m) 0
      ∙ get_or-append-add ys (drop w (drop (p * w) cells)) m 0 ∙ get_or-drop w (drop (p * w) cells) m 0
      ∙ get_or-drop (p * w) cells (w + m) 0 ∙ ap (at cells) there

  pub whole-only : Only cells whole w p
  whole-only = record { long = whole_length; others = λ o j n h. whole-at (o * w + j) (side o j n h (dec_lt o p)) }
    where
      side : (o j : ℕ) → o ≢ p → j < w → Dec (o < p) → (o * w + j < p * w) ⊎ (p * w + w ≤ o * w + j)
      side o j n h (yes l) = inl (omega (arith, rows_apart o p w l))
      side o j n h (no g) = inr (omega (arith, rows_apart p o w (omega arith)))

  pub whole_sum : sum whole + sum (row_of cells w p) ≡ sum cells + sum ys
  whole_sum =
      let front = take (p * w) cells in
      let rest = drop (p * w) cells in
      let all = ap sum (take-append-drop (p * w) cells) in
      let back = ap sum (take-append-drop w rest) in
      omega (
        arith,
        sum-append front (ys ++ drop w rest),
        sum-append ys (drop w rest),
        all,
        sum-append front rest,
        back,
        sum-append (take w rest) (drop w rest),
      )

  -- ---- a settled row, put back
  pub settled-row : (copy : List ℕ) (from : ℕ) → Settle (row_of cells w p) ys copy from w → SettleRow cells whole copy w p from
  settled-row copy from s = record {
    only = whole-only;
    row = rw whole_row s;
    falls = omega (arith, whole_sum, sum_below (row_of cells w p) ys s.long s.below);
  }

  -- ---- a lowered row, put back
  module _ (row : List ℕ) (from until time add first : ℕ) (room : until + time ≤ w) (s : Search (row_of cells w p) row from until time add first) where
    pub lowered-row : first < until → Lower (row_of cells w p) ys row first until time add → LowerRow cells whole row w p from until time add (first + time)
    lowered-row h l = record {
      only = whole-only;
      lower = rw whole_row wider;
      within = omega arith;
      kept = λ j k. rw whole_row (l.before j k);
      falls = omega (arith, whole_sum, sum_below (row_of cells w p) ys l.long below);
      less = λ _. omega (arith, whole_sum, sum_less (row_of cells w p) ys (first + time) l.long below (omega (arith, s.lowers h, l.ridden first (omega arith) h)));
    }
      where
        each : (j : ℕ) → from ≤ j → j < until → Dec (j < first) → at ys (j + time) ≡ min (at (row_of cells w p) (j + time)) (at row j + add)
        each j f u (yes b) = omega (arith, l.before (j + time) (omega arith), s.passed j f b)
        each j f u (no b) = l.ridden j (omega arith) u

        wider : Lower (row_of cells w p) ys row from until time add
        wider = record {
          long = l.long;
          before = λ j k. l.before j (omega (arith, s.within.0));
          after = l.after;
          ridden = λ j f u. each j f u (dec_lt j first);
        }

        falls_at : (i : ℕ) → Dec (i < first + time) → Dec (i < until + time) → at ys i ≤ at (row_of cells w p) i
        falls_at i (yes a) b = omega (arith, l.before i a)
        falls_at i (no a) (no b) = omega (arith, l.after i (omega arith))
        falls_at i (no a) (yes b) =
            let is : i - time + time ≡ i = omega arith in
            omega (arith, rw is at (l.ridden (i - time) (omega arith) (omega arith)))

        below : (i : ℕ) → at ys i ≤ at (row_of cells w p) i
        below i = falls_at i (dec_lt i (first + time)) (dec_lt i (until + time))
