-- What the sweep keeps, in columns: cells are attained, and the rules hold of each place up to the first column that changed since its
-- last visit.
use Rattle.std.specs.Prelude.{ℕ, ◌+◌, ◌*◌, ◌≤◌, ◌<◌, ◌≡◌, ◌⊎◌, ◌≢◌, List, length, set, replicate, Option, Some, None}
use borrow.Rule.Slice.PartMut.{put_mid}
use Rattle.plan.specs.Network.{Network, Query}
use Rattle.plan.specs.Plan.{Ride, total, Stands}
use Rattle.plan.specs.Table.{no_plan, weight, width}
use Rattle.rows.specs.Row.{at}
use Rattle.rows.specs.Whole.{cell, sum}

-- the value is the weight of a plan that stands at p by this column
abbrev pub Reached : Network → Query → ℕ → ℕ → ℕ → Type 0
Reached N q p j value = (plan : List Ride) × Stands N q p (q.earliest + j) plan × (total (weight N) plan ≡ value)

-- `low` has for each place the first column that changed since its last visit. The rides that are due may break the rule.
pub record Kept (N : Network) (q : Query) (cells low : List ℕ) (Due : ℕ → ℕ → Type 0) : Type 0 where
  pub long : length cells ≡ N.places * width q
  pub places : N.places ≤ length low
  pub lows : (p : ℕ) → at low p ≤ width q
  pub most : (p j : ℕ) → p < N.places → j < width q → cell cells (width q) p j ≤ no_plan
  pub reached : (p j : ℕ) → p < N.places → j < width q → cell cells (width q) p j ≢ no_plan → Reached N q p j (cell cells (width q) p j)
  pub starts : cell cells (width q) q.start 0 ≡ 0
  pub waits : (p j : ℕ) → p < N.places → j + 1 < at low p → cell cells (width q) p (j + 1) ≤ cell cells (width q) p j
  pub rides : (l j : ℕ) → l < N.legs → j < at low (N.source l) → j + N.time l < width q → (Due l j → ⊥)
      → cell cells (width q) (N.target l) (j + N.time l) ≤ cell cells (width q) (N.source l) j + weight N l (q.earliest + j)

-- no ride is due
abbrev pub Never : ℕ → ℕ → Type 0
Never l j = ⊥

-- due are the rides from the columns from x on, by the legs of p below l
abbrev pub Below : Network → ℕ → ℕ → ℕ → ℕ → ℕ → Type 0
Below N p x l k j = (N.source k ≡ p) × (k < l) × (x ≤ j)

-- while p is visited: its settled row stands in `row`, and its legs from l on are done
pub record Visiting (N : Network) (q : Query) (cells low row : List ℕ) (p x l : ℕ) : Type 0 where
  pub kept : Kept N q cells low (Below N p x l)
  pub standing : (j : ℕ) → x ≤ j → j < width q → at row j ≢ no_plan → Reached N q p j (at row j)
  pub current : (j : ℕ) → x ≤ j → j < at low p → at row j ≡ cell cells (width q) p j

-- cells that have not risen; and either some have fallen or no place has anything new to pass on
pub record Onward (cells cells' low low' : List ℕ) : Type 0 where
  pub long : length low' ≡ length low
  pub falls : sum cells' ≤ sum cells
  pub noted : (low' ≡ low) ⊎ (sum cells' < sum cells)

-- no place has anything new to pass on
pub record Clean (N : Network) (q : Query) (cells low : List ℕ) : Type 0 where
  pub kept : Kept N q cells low Never
  pub clean : (p : ℕ) → p < N.places → width q ≤ at low p

-- a visit of p: what p had to pass on is passed on
pub record Visited (N : Network) (q : Query) (cells cells' low low' : List ℕ) : Type 0 where
  pub kept : Kept N q cells' low' Never
  pub onward : Onward cells cells' low low'

-- the first of the places from..until whose first changed column lies below w, or that there is none
abbrev pub FirstNew : List ℕ → ℕ → ℕ → ℕ → Option ℕ → Type 0
FirstNew low from until w None = (p : ℕ) → from ≤ p → p < until → w ≤ at low p
FirstNew low from until w (Some first) = (from ≤ first) × (first < until) × (at low first < w) × ((p : ℕ) → from ≤ p → p < first → w ≤ at low p)

-- a place whose first changed column lies below w, or that there is none
abbrev pub NextNew : List ℕ → ℕ → ℕ → Option ℕ → Type 0
NextNew low places w None = (p : ℕ) → p < places → w ≤ at low p
NextNew low places w (Some next) = (next < places) × (at low next < w)

-- the table before the first visit: 0 in the start's row and `no_plan` elsewhere, and only the start has something to pass on
pub record Outset (start w : ℕ) (cells cells' low low' : List ℕ) : Type 0 where
  pub cells_are : cells' ≡ put_mid (start * w) w (replicate (length cells) no_plan) (replicate w 0)
  pub low_is : low' ≡ set (replicate (length low) w) start 0
