-- The ten rows and the sheet, each by one computed test and one law.
-- The tables below are only handed to the test: nothing rests on where they come from. Assumes nothing.
use Prim.Native.Nat.{ℕ, ◌+◌, ◌*◌}
use mathlib.Core.Bool.{Bool, true, false, ◌&&◌, cond}
use mathlib.Core.List.{List, [], ◌∷◌}
use lib.Dec.{T, leb, ltb, eqb, leb→le, ltb→lt, eqb→eq}
use lib.ListN.{get_or}
use Rattle.leg.specs.Toll.{either, toll_of_first}
use Rattle.plan.specs.Network.{Minute, Network, InRange, Query, Askable}
use Rattle.plan.specs.Plan.{arrival, cost}
use Rattle.plan.specs.Table.{no_plan, MinuteTable}
use Rattle.plan.specs.Sheet.{Step}
use Rattle.plan.specs.Trial.{Says, ten, route, Row, Right, AllRight, legs, trial, rows}
use Rattle.plan.proofs.Tests.{and_left, and_right, every_from, any_below}
use Rattle.plan.proofs.Tested.{table?, named?, best?, test-exact, test-named}
use Rattle.plan.proofs.Named.{none-feasible}
use Rattle.plan.proofs.Legs.{are_legs, test-legs}

-- ---- cells by steps

abbrev from_step : ℕ → List Step → Minute → ℕ
from_step v [] t = v
from_step v (s ∷ ss) t = cond (leb s.minute t) (from_step s.price ss t) v

-- the cells that a list of steps for each place gives
abbrev pub cells : List (List Step) → ℕ → Minute → ℕ
cells table p t = from_step no_plan (get_or table p []) t

abbrev fall : Minute → ℕ → Step
fall t v = record { minute = t; price = v }

-- ---- one row

-- the row's table passes, its query is in range, and what it says passes against the table
abbrev is_said : (N : Network) → Query → (ℕ → Minute → ℕ) → Says → Bool
is_said N q c ten = eqb (c q.end q.latest) no_plan
is_said N q c (route x a plan) = named? N q c plan && (eqb (cost N plan) x && eqb (arrival N q plan) a)

is_row : Network → Query → (ℕ → Minute → ℕ) → Says → Bool
is_row N q c says =
    (ltb q.start N.places && (ltb q.end N.places && leb q.earliest q.latest))
    && (table? N q c && is_said N q c says)

test-row : (N : Network) → InRange N → (q : Query) (c : ℕ → Minute → ℕ) (says : Says) → T (is_row N q c says) → Right N q says
unfolding is_row
test-row N ok q c says h = at says said
  where
    query : T (ltb q.start N.places && (ltb q.end N.places && leb q.earliest q.latest))
    query = and_left (ltb q.start N.places && (ltb q.end N.places && leb q.earliest q.latest)) _ h

    tested : T (table? N q c && is_said N q c says)
    tested = and_right (ltb q.start N.places && (ltb q.end N.places && leb q.earliest q.latest)) _ h

    ends : T (ltb q.end N.places && leb q.earliest q.latest)
    ends = and_right (ltb q.start N.places) _ query

    asked : Askable N q
    asked = record {
      ranges = ok;
      home = ltb→lt q.start N.places (and_left (ltb q.start N.places) _ query);
      goal = ltb→lt q.end N.places (and_left (ltb q.end N.places) _ ends);
      window = leb→le q.earliest q.latest (and_right (ltb q.end N.places) _ ends);
    }

    m : MinuteTable N q c
    m = test-exact N q c asked (and_left (table? N q c) _ tested)

    said : T (is_said N q c says)
    said = and_right (table? N q c) _ tested

    at : (s : Says) → T (is_said N q c s) → Right N q s
    at ten t = none-feasible N q asked c m (eqb→eq (c q.end q.latest) no_plan t)
    at (route x a plan) t =
        let sums = and_right (named? N q c plan) _ t in (
          test-named N q c asked m plan (and_left (named? N q c plan) _ t),
          eqb→eq (cost N plan) x (and_left (eqb (cost N plan) x) _ sums),
          eqb→eq (arrival N q plan) a (and_right (eqb (cost N plan) x) _ sums),
        )

-- ---- all rows

-- THE TEST OF A LIST OF ROWS, each with a table
unfoldable pub are_rows : Network → List Row → List (List (List Step)) → Bool
unfolding is_row
are_rows N [] tables = true
are_rows N (r ∷ rs) [] = false
are_rows N (r ∷ rs) (t ∷ ts) = is_row N r.query (cells t) r.says && are_rows N rs ts

-- ITS LAW
pub test-rows : (N : Network) → InRange N → (rs : List Row) (ts : List (List (List Step))) → T (are_rows N rs ts) → AllRight N rs
unfolding are_rows
test-rows N ok [] ts h = tt
test-rows N ok (r ∷ rs) [] h = absurd h
test-rows N ok (r ∷ rs) (t ∷ ts) h = (
  test-row N ok r.query (cells t) r.says (and_left (is_row N r.query (cells t) r.says) (are_rows N rs ts) h),
  test-rows N ok rs ts (and_right (is_row N r.query (cells t) r.says) (are_rows N rs ts) h),
)

-- ---- the trial network

pub trial-in-range : InRange trial
unfolding are_legs every_from
trial-in-range = test-legs 3 legs tt

abbrev cell : ℕ → ℕ → ℕ
cell x n = 64 * x + n

-- the cells of a query that starts at place 0 at minute 0
abbrev pub from_0 : List (List Step)
from_0 =
    (fall 0 0 ∷ [])
    ∷ (fall 10 (cell 500 1) ∷ fall 70 (cell 100 1) ∷ [])
    ∷ (fall 30 (cell 700 2) ∷ fall 90 (cell 300 2) ∷ [])
    ∷ []

-- a table for each row
abbrev tables : List (List (List Step))
tables =
    from_0
    ∷ from_0
    ∷ from_0
    ∷ from_0
    ∷ from_0
    ∷ ((fall 69 0 ∷ []) ∷ (fall 79 (cell 100 1) ∷ []) ∷ (fall 99 (cell 300 2) ∷ []) ∷ [])
    ∷ ((fall 70 0 ∷ []) ∷ (fall 80 (cell 100 1) ∷ []) ∷ (fall 100 (cell 1000 2) ∷ []) ∷ [])
    ∷ ((fall 70 0 ∷ []) ∷ (fall 80 (cell 100 1) ∷ []) ∷ (fall 100 (cell 1000 2) ∷ fall 110 (cell 800 1) ∷ []) ∷ [])
    ∷ ([] ∷ (fall 5 0 ∷ []) ∷ [])
    ∷ ([] ∷ [] ∷ (fall 0 0 ∷ []) ∷ [])
    ∷ []

-- THE TEN ROWS ARE RIGHT
pub rows_right : AllRight trial rows
unfolding are_rows is_row table? named? best? every_from any_below either toll_of_first
rows_right = test-rows trial trial-in-range rows tables tt
