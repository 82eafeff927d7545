-- The steps of a sheet, read off the rows of a filled table.
use Rattle.std.specs.Prelude.{ℕ, zero, suc, ◌+◌, ◌/◌, List, [], ◌∷◌, ltb}
use Rattle.network.specs.Reading.{pick}
use Rattle.rows.specs.Whole.{row_of}
use Rattle.plan.specs.Network.{Minute, Cents}
use Rattle.plan.specs.Sheet.{Step}

-- what a cell without a plan shows for a cost: above every cost
abbrev pub no_cost : Cents
no_cost = 67108863

-- a step at this minute to this cost
abbrev pub step_to : Minute → Cents → Step
step_to t x = record { minute = t; price = x }

-- the steps of the cells from minute t on: one wherever the cost falls below what it was before
unfoldable pub steps_from : Minute → Cents → List ℕ → List Step
steps_from t was [] = []
steps_from t was (c ∷ cs) = pick (ltb (c / 64) was) (step_to t (c / 64) ∷ steps_from (t + 1) (c / 64) cs) (steps_from (t + 1) was cs)

-- the steps of a row that begins at minute t
abbrev pub steps_of : Minute → List ℕ → List Step
steps_of t row = steps_from t no_cost row

-- the steps of k places from place p on, in a table of rows of w cells
unfoldable pub places_from : List ℕ → ℕ → Minute → ℕ → ℕ → List (List Step)
places_from cells w t p zero = []
places_from cells w t p (suc k) = steps_of t (row_of cells w p) ∷ places_from cells w t (p + 1) k

-- the sheet of a table of n places
abbrev pub sheet_in : List ℕ → ℕ → Minute → ℕ → List (List Step)
sheet_in cells w t n = places_from cells w t 0 n
