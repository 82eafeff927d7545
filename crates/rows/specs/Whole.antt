-- Rows as stretches of the whole table: w cells for each place.
use Rattle.std.specs.Prelude.{ℕ, ◌+◌, ◌*◌, ◌≤◌, ◌<◌, ◌≡◌, ◌≢◌, List, [], ◌∷◌, length, take, drop}
use Rattle.rows.specs.Row.{at, Settle, Lower}

-- the cell of place p at a column
abbrev pub cell : List ℕ → ℕ → ℕ → ℕ → ℕ
cell cells w p j = at cells (p * w + j)

-- the row of place p
abbrev pub row_of : List ℕ → ℕ → ℕ → List ℕ
row_of cells w p = take w (drop (p * w) cells)

-- what all cells come to
unfoldable pub sum : List ℕ → ℕ
sum [] = 0
sum (x ∷ xs) = x + sum xs

-- only the row of place p may have changed
pub record Only (old new : List ℕ) (w p : ℕ) : Type 0 where
  pub long : length new ≡ length old
  pub others : (o j : ℕ) → o ≢ p → j < w → cell new w o j ≡ cell old w o j

-- the row of place p is settled from a column on
pub record SettleRow (old new copy : List ℕ) (w p from : ℕ) : Type 0 where
  pub only : Only old new w p
  pub row : Settle (row_of old w p) (row_of new w p) copy from w
  pub falls : sum new ≤ sum old

-- The row of place p is lowered along a ride from the columns from..until; `first` is the first column that changed, or w.
pub record LowerRow (old new row : List ℕ) (w p from until time add first : ℕ) : Type 0 where
  pub only : Only old new w p
  pub lower : Lower (row_of old w p) (row_of new w p) row from until time add
  pub within : first ≤ w
  pub kept : (j : ℕ) → j < first → at (row_of new w p) j ≡ at (row_of old w p) j
  pub falls : sum new ≤ sum old
  pub less : first < w → sum new < sum old
