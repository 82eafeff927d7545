-- The trial sheet is our sheet, by a computed test against a minute table. Assumes nothing.
use Prim.Native.Nat.{ℕ, ◌+◌, ◌<◌}
use native.Mathlib.Omega.{arith}
use mathlib.Core.Path.{◌≡◌, refl, ap, subst}
use mathlib.Core.Bool.{Bool, true, false, ◌&&◌}
use mathlib.Core.Option.{Option, none, some}
use mathlib.Core.List.{List, [], ◌∷◌}
use lib.Dec.{T, leb, ltb, eqb, leb→le, ltb→lt, eqb→eq, lit<, lit≤}
use lib.ListN.{length, get_or}
use Rattle.leg.specs.Toll.{either, toll_of_first}
use Rattle.plan.specs.Network.{Minute, Cents, Network, Query, Askable}
use Rattle.plan.specs.Table.{MinuteTable}
use Rattle.plan.specs.Sheet.{Step, value_at, StepsAfter, Steps, LeastCost, OurSheet}
use Rattle.plan.specs.Trial.{trial, sheet_query, sheet}
use Rattle.plan.proofs.Tests.{and_left, and_right, every_from, every-at, any_below}
use Rattle.plan.proofs.Tested.{table?, test-exact}
use Rattle.plan.proofs.Sheets.{cost_of, cell-cost}
use Rattle.plan.proofs.Trial.{cells, from_0, trial-in-range}

-- ---- tests of steps and values

abbrev is_after : Query → Step → List Step → Bool
is_after q s [] = leb s.minute q.latest
is_after q s (s' ∷ ss) = ltb s.minute s'.minute && (ltb s'.price s.price && is_after q s' ss)

abbrev are_steps : Query → List Step → Bool
are_steps q [] = true
are_steps q (s ∷ ss) = leb q.earliest s.minute && is_after q s ss

test-after : (q : Query) (s : Step) (ss : List Step) → T (is_after q s ss) → StepsAfter q s ss
test-after q s [] h = leb→le s.minute q.latest h
test-after q s (s' ∷ ss) h =
    let rest = and_right (ltb s.minute s'.minute) (ltb s'.price s.price && is_after q s' ss) h in (
      ltb→lt s.minute s'.minute (and_left (ltb s.minute s'.minute) _ h),
      ltb→lt s'.price s.price (and_left (ltb s'.price s.price) _ rest),
      test-after q s' ss (and_right (ltb s'.price s.price) (is_after q s' ss) rest),
    )

test-steps : (q : Query) (ss : List Step) → T (are_steps q ss) → Steps q ss
test-steps q [] h = tt
test-steps q (s ∷ ss) h = (
  leb→le q.earliest s.minute (and_left (leb q.earliest s.minute) _ h),
  test-after q s ss (and_right (leb q.earliest s.minute) (is_after q s ss) h),
)

abbrev is_same : Option Cents → Option Cents → Bool
is_same none none = true
is_same none (some y) = false
is_same (some x) none = false
is_same (some x) (some y) = eqb x y

test-same : (v w : Option Cents) → T (is_same v w) → v ≡ w
test-same none none h = refl
test-same none (some y) h = absurd h
test-same (some x) none h = absurd h
test-same (some x) (some y) h = ap some (eqb→eq x y h)

-- ---- a sheet against a table

-- its steps are as described, and at each minute it shows the table's cost
is_place : Query → (ℕ → Minute → ℕ) → List (List Step) → ℕ → Bool
is_place q c sheet p =
    are_steps q (get_or sheet p [])
    && every_from (q.latest + 1) 0 (λ t. is_same (cost_of (c p t)) (value_at sheet p t))

unfoldable pub is_sheet : Network → Query → (ℕ → Minute → ℕ) → List (List Step) → Bool
unfolding is_place
is_sheet N q c sheet = eqb (length sheet) N.places && every_from N.places 0 (is_place q c sheet)

-- A SHEET THAT PASSES is our sheet
pub test-sheet : (N : Network) (q : Query) → Askable N q → (c : ℕ → Minute → ℕ) → MinuteTable N q c → (sheet : List (List Step)) → T (is_sheet N q c sheet)
    → OurSheet N q sheet
unfolding is_sheet is_place
test-sheet N q asked c m sheet h = record {
  size = eqb→eq (length sheet) N.places (and_left (eqb (length sheet) N.places) _ h);
  steps = λ p hp. test-steps q (get_or sheet p []) (and_left (are_steps q (get_or sheet p [])) _ (at p hp));
  costs = λ p t win.
      subst (λ (v : Option Cents). LeastCost N q p t v)
      (test-same (cost_of (c p t)) (value_at sheet p t)
      (every-at (q.latest + 1) 0 (λ t. is_same (cost_of (c p t)) (value_at sheet p t)) (and_right (are_steps q (get_or sheet p [])) _ (at p win.place)) t
      (omega arith) (omega arith)))
      (cell-cost N q asked c m p t win);
}
  where
    at : (p : ℕ) → p < N.places → T (is_place q c sheet p)
    at p hp =
        every-at N.places 0 (is_place q c sheet) (and_right (eqb (length sheet) N.places) _ h) p (omega arith) (omega arith)

-- THE TRIAL SHEET IS OUR SHEET
pub sheet-right : OurSheet trial sheet_query sheet
unfolding table? is_sheet is_place every_from any_below either toll_of_first
sheet-right =
    let asked : Askable trial sheet_query = record { ranges = trial-in-range; home = lit< tt; goal = lit< tt; window = lit≤ tt } in
    test-sheet trial sheet_query asked (cells from_0) (test-exact trial sheet_query (cells from_0) asked tt) sheet tt
