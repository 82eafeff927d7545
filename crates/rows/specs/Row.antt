-- What happens to one row of cells.
use Rattle.std.specs.Prelude.{ℕ, ◌+◌, ◌≤◌, ◌<◌, min, ◌≡◌, List, length, get_or, Option, Some, None}

-- what a row holds at a column
abbrev pub at : List ℕ → ℕ → ℕ
at row j = get_or row j 0

-- the value stands in the row at this column or before it
pub record Since (row : List ℕ) (j : ℕ) (value : ℕ) : Type 0 where
  pub column : ℕ
  pub before : column ≤ j
  pub there : value ≡ at row column

-- The columns from..until are settled: no cell is above the one before it, each is one that stood there or before, and is copied.
pub record Settle (old new copy : List ℕ) (from until : ℕ) : Type 0 where
  pub long : length new ≡ length old
  pub before : (j : ℕ) → j < from → at new j ≡ at old j
  pub after : (j : ℕ) → until ≤ j → at new j ≡ at old j
  pub below : (j : ℕ) → at new j ≤ at old j
  pub since : (j : ℕ) → Since old j (at new j)
  pub falls : (j : ℕ) → from ≤ j + 1 → j + 1 < until → at new (j + 1) ≤ at new j
  pub copied : (j : ℕ) → from ≤ j → j < until → at copy j ≡ at new j

-- no ride from the columns from..until arrives below what stands there
abbrev pub Passed : List ℕ → List ℕ → ℕ → ℕ → ℕ → ℕ → Type 0
Passed part row from until time add = (j : ℕ) → from ≤ j → j < until → at part (j + time) ≤ at row j + add

-- No ride from the columns before the one found arrives below what stands there; the one found does.
pub record Search (part row : List ℕ) (from until time add first : ℕ) : Type 0 where
  pub within : (from ≤ first) × (first ≤ until)
  pub passed : Passed part row from first time add
  pub lowers : first < until → at row first + add < at part (first + time)

-- the first of the columns from..until whose ride arrives below what stands there, or that there is none
abbrev pub First : List ℕ → List ℕ → ℕ → ℕ → ℕ → ℕ → Option ℕ → Type 0
First part row from until time add None = Passed part row from until time add
First part row from until time add (Some first) = (first < until) × Search part row from until time add first

-- A ride from each of the columns from..until: the smaller of what stood where it arrives and what it gives.
pub record Lower (old new row : List ℕ) (from until time add : ℕ) : Type 0 where
  pub long : length new ≡ length old
  pub before : (j : ℕ) → j < from + time → at new j ≡ at old j
  pub after : (j : ℕ) → until + time ≤ j → at new j ≡ at old j
  pub ridden : (j : ℕ) → from ≤ j → j < until → at new (j + time) ≡ min (at old (j + time)) (at row j + add)
