-- Rides along one leg: what they do to the row of the place that it goes to.
use Rattle.std.specs.Prelude.{ℕ, ◌+◌, ◌*◌, ◌≤◌, ◌<◌, min, ◌≡◌, ◌⊎◌, List, ltb, get_or, set}
use Rattle.leg.specs.declared.Leg.{Leg}
use Rattle.leg.specs.Ranges.{no_band}
use Rattle.leg.specs.Toll.{toll_at, either}
use Rattle.rows.specs.Row.{at}
use Rattle.rows.specs.Whole.{cell, sum, Only}

-- the minute at which band k starts; past the last band, the end of the clock
abbrev pub band_start : Leg → ℕ → ℕ
band_start leg k = either (ltb k leg.count) (get_or leg.bands k no_band).start.0 2880

-- a leg's bands: 1 to 8, and their starts rise from 0
pub record Banded (leg : Leg) : Type 0 where
  pub some : 1 ≤ leg.count
  pub few : leg.count ≤ 8
  pub begins : (get_or leg.bands 0 no_band).start.0 ≡ 0
  pub rises : (k : ℕ) → k + 1 < leg.count → (get_or leg.bands k no_band).start.0 < (get_or leg.bands (k + 1) no_band).start.0

-- what a ride from a column adds to a cell
abbrev pub adds : Leg → ℕ → ℕ → ℕ
adds leg earliest i = 64 * toll_at leg (earliest + i) + 1

-- the value is what a ride from a column not before `from` gives, arriving at column j, and is below what was there
pub record Arrives (leg : Leg) (earliest from : ℕ) (row : List ℕ) (j value was : ℕ) : Type 0 where
  pub column : ℕ
  pub since : from ≤ column
  pub here : column + leg.time.0 ≡ j
  pub gives : value ≡ at row column + adds leg earliest column
  pub lower : value < was

-- Rides from all columns not before `from` whose minute is one of lo..hi. Only the target's row changes, from column `first` on.
pub record Rode (leg : Leg) (earliest w from : ℕ) (old new row : List ℕ) (first lo hi : ℕ) : Type 0 where
  pub only : Only old new w leg.to
  pub within : first ≤ w
  pub kept : (j : ℕ) → j < first → j < w → cell new w leg.to j ≡ cell old w leg.to j
  pub below : (j : ℕ) → j < w → cell new w leg.to j ≤ cell old w leg.to j
  pub ridden : (j : ℕ) → j < w
      → (cell new w leg.to j ≡ cell old w leg.to j)
      ⊎ Arrives leg earliest from row j (cell new w leg.to j) (cell old w leg.to j)
  pub obeys : (i : ℕ) → from ≤ i → lo ≤ earliest + i → earliest + i < hi → i + leg.time.0 < w
      → cell new w leg.to (i + leg.time.0) ≤ at row i + adds leg earliest i
  pub falls : sum new ≤ sum old
  pub less : first < w → sum new < sum old

-- all rides along a leg, and the first column that changed since noted at its target
pub record RodeOut (leg : Leg) (earliest w from : ℕ) (old new row low low' : List ℕ) : Type 0 where
  pub first : ℕ
  pub rode : Rode leg earliest w from old new row first 0 2880
  pub noted : low' ≡ set low leg.to (min (at low leg.to) first)
