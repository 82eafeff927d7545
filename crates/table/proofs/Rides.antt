-- Rides along a leg, band by band.
use Prim.Native.Nat.{ℕ, zero, suc, ◌+◌, ◌*◌, ◌-◌, ◌≤◌, ◌<◌, min, max}
use native.Mathlib.Omega.{arith}
use native.Mathlib.Decide.{dec_lt}
use mathlib.Core.Path.{◌≡◌, refl, sym, ◌∙◌}
use mathlib.Core.Logic.{◌⊎◌, inl, inr}
use mathlib.Core.List.{List}
use borrow.Author.Tests.{lt-ltb, le-ltb}
use lib.ListN.{length, get_or}
use Rattle.leg.specs.declared.Leg.{Leg}
use Rattle.leg.specs.Ranges.{no_band}
use Rattle.leg.specs.Toll.{toll_at, toll_of_first, either}
use Rattle.leg.proofs.Laws.{toll-begun, toll-later}
use Rattle.rows.specs.Row.{at}
use Rattle.rows.specs.Whole.{cell, row_of, LowerRow}
use Rattle.rows.proofs.Wholes.{row_at}
use Rattle.table.specs.Ride.{Banded, band_start, adds, Arrives, Rode}

abbrev pub start_of : Leg → ℕ → ℕ
start_of leg k = (get_or leg.bands k no_band).start.0

abbrev pub toll_of : Leg → ℕ → ℕ
toll_of leg k = (get_or leg.bands k no_band).toll.0

pub band-starts : (leg : Leg) (k : ℕ) → k < leg.count → band_start leg k ≡ start_of leg k
unfolding either
band-starts leg k h = rw (lt-ltb k leg.count h, either)

pub band-ends : (leg : Leg) (k : ℕ) → leg.count ≤ k → band_start leg k ≡ 2880
unfolding either
band-ends leg k h = rw (le-ltb k leg.count h, either)

-- ---- the toll within a band
module _ (leg : Leg) (b : Banded leg) (k t : ℕ) (known : k < leg.count) (begun : band_start leg k ≤ t) (on : t < band_start leg (k + 1)) where
  -- the bands after it start later
  band-later : (d : ℕ) → k + 1 + d < leg.count → t < start_of leg (k + 1 + d)
  band-later zero h =
      let is : k + 1 + 0 ≡ k + 1 = omega arith in
      rw is (omega (arith, on, band-starts leg (k + 1) (omega arith)))
  band-later (suc d) h =
      let is : k + 1 + suc d ≡ k + 1 + d + 1 = omega arith in
      rw is (omega (arith, band-later d (omega arith), b.rises (k + 1 + d) (omega arith)))

  toll-first : (d : ℕ) → k + 1 + d ≤ leg.count → toll_of_first (k + 1 + d) leg.bands t ≡ toll_of leg k
  toll-first zero h =
      let is : k + 1 + 0 ≡ k + 1 = omega arith in
      rw is (toll-begun k leg.bands t (omega (arith, band-starts leg k known)))
  toll-first (suc d) h =
      let is : k + 1 + suc d ≡ k + 1 + d + 1 = omega arith in
      rw is (toll-later (k + 1 + d) leg.bands t (band-later d (omega arith)) ∙ toll-first d (omega arith))

  pub toll_within : toll_at leg t ≡ toll_of leg k
  toll_within =
      let all : k + 1 + (leg.count - (k + 1)) ≡ leg.count = omega arith in
      rw all at (toll-first (leg.count - (k + 1)) (omega arith))

-- ---- rides

module _ (leg : Leg) (earliest w from : ℕ) (row : List ℕ) where
  -- from no column
  pub rode-none : (cells : List ℕ) (lo hi : ℕ) → ((i : ℕ) → from ≤ i → lo ≤ earliest + i → earliest + i < hi → i + leg.time.0 < w → ⊥)
      → Rode leg earliest w from cells cells row w lo hi
  rode-none cells lo hi none = record {
    only = record { long = refl; others = λ o j n h. refl };
    within = omega arith;
    kept = λ j h k. refl;
    below = λ j h. omega arith;
    ridden = λ j h. inl refl;
    obeys = λ i f l h a. absurd (none i f l h a);
    falls = omega arith;
    less = λ h. absurd (omega arith);
  }

  -- from the columns of one toll
  module _ (old new : List ℕ) (toll first lo hi : ℕ) (fits : leg.to * w + w ≤ length old)
      (same : (i : ℕ) → from ≤ i → lo ≤ earliest + i → earliest + i < hi → toll_at leg (earliest + i) ≡ toll)
      (l : LowerRow old new row w leg.to (max from (lo - earliest)) (min (hi - earliest) (w - leg.time.0)) leg.time.0 (64 * toll + 1) first) where
    old-at : (j : ℕ) → j < w → at (row_of old w leg.to) j ≡ cell old w leg.to j
    old-at = row_at old w leg.to fits

    new-at : (j : ℕ) → j < w → at (row_of new w leg.to) j ≡ cell new w leg.to j
    new-at = row_at new w leg.to (omega (arith, l.only.long, fits))

    -- a ride from one of the columns
    ride-at : (i : ℕ) → max from (lo - earliest) ≤ i → i < min (hi - earliest) (w - leg.time.0)
        → cell new w leg.to (i + leg.time.0) ≡ min (cell old w leg.to (i + leg.time.0)) (at row i + adds leg earliest i)
    ride-at i f u =
        omega (
          arith,
          same i (omega arith) (omega arith) (omega arith),
          l.lower.ridden i f u,
          old-at (i + leg.time.0) (omega arith),
          new-at (i + leg.time.0) (omega arith),
        )

    arrive : (j : ℕ) → j < w → Dec (j < max from (lo - earliest) + leg.time.0) → Dec (j < min (hi - earliest) (w - leg.time.0) + leg.time.0)
        → (cell new w leg.to j ≡ cell old w leg.to j)
        ⊎ Arrives leg earliest from row j (cell new w leg.to j) (cell old w leg.to j)
    arrive j h (yes a) u = inl (sym (new-at j h) ∙ l.lower.before j a ∙ old-at j h)
    arrive j h (no a) (no u) = inl (sym (new-at j h) ∙ l.lower.after j (omega arith) ∙ old-at j h)
    arrive j h (no a) (yes u) =
        let i = j - leg.time.0 in
        let is : j - leg.time.0 + leg.time.0 ≡ j = omega arith in
        let r = rw is at (ride-at i (omega arith) (omega arith)) in
        either_way i is r (dec_lt (at row i + adds leg earliest i) (cell old w leg.to j))
      where
        either_way : (i : ℕ) → i + leg.time.0 ≡ j → cell new w leg.to j ≡ min (cell old w leg.to j) (at row i + adds leg earliest i)
            → Dec (at row i + adds leg earliest i < cell old w leg.to j)
            → (cell new w leg.to j ≡ cell old w leg.to j)
            ⊎ Arrives leg earliest from row j (cell new w leg.to j) (cell old w leg.to j)
        either_way i is r (yes lt) =
            inr (record { column = i; since = omega arith; here = is; gives = omega (arith, r); lower = omega (arith, r) })
        either_way i is r (no ge) = inl (omega (arith, r))

    arrives : (j : ℕ) → j < w
        → (cell new w leg.to j ≡ cell old w leg.to j)
        ⊎ Arrives leg earliest from row j (cell new w leg.to j) (cell old w leg.to j)
    arrives j h = arrive j h (dec_lt j _) (dec_lt j _)

    pub rode-lowered : Rode leg earliest w from old new row first lo hi
    rode-lowered = record {
      only = l.only;
      within = l.within;
      kept = λ j h k. sym (new-at j k) ∙ l.kept j h ∙ old-at j k;
      below = λ j h. falls j (arrives j h);
      ridden = arrives;
      obeys = λ i f a b h. omega (arith, ride-at i (omega arith) (omega arith));
      falls = l.falls;
      less = l.less;
    }
      where
        falls : (j : ℕ) → (cell new w leg.to j ≡ cell old w leg.to j)
            ⊎ Arrives leg earliest from row j (cell new w leg.to j) (cell old w leg.to j)
            → cell new w leg.to j ≤ cell old w leg.to j
        falls j (inl e) = omega (arith, e)
        falls j (inr a) = omega (arith, a.lower)

  -- from the columns of band k that the code finds
  pub rode-band : (old new : List ℕ) (k begin until add first : ℕ) → LowerRow old new row w leg.to begin until leg.time.0 add first
      → Banded leg → k < leg.count → leg.to * w + w ≤ length old
      → begin ≡ max from (band_start leg k - earliest) → until ≡ min (band_start leg (k + 1) - earliest) (w - leg.time.0) → add ≡ 64 * toll_of leg k + 1
      → Rode leg earliest w from old new row first (band_start leg k) (band_start leg (k + 1))
  rode-band old new k begin until add first l b known fits begins ends gives =
      rode-lowered old new (toll_of leg k) first (band_start leg k) (band_start leg (k + 1)) fits
      (λ i f a h. toll_within leg b k (earliest + i) known a h)
      (rw (begins, ends, gives) at l)
