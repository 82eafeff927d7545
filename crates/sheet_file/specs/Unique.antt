-- That a place is as described is one fact, and that a sheet's places are: each has one proof at most, so that a type can keep it.
use Rattle.std.specs.Prelude.{ℕ, List, [], ◌∷◌}
use Rattle.std.specs.Coded.{le_prop}
use Rattle.plan.specs.Network.{Query}
use Rattle.plan.specs.Sheet.{Step, StepsAfter, Steps}
use Rattle.sheet_file.specs.InPlace.{place_at}
use Rattle.sheet_file.specs.Asked.{PlaceAsked, Placed}

after_once : (q : Query) (s : Step) (ss : List Step) → IsProp (StepsAfter q s ss)
after_once q s [] = λ a b. λ i. le_prop a b i
after_once q s (x ∷ xs) = λ a b. λ i. (le_prop a.0 b.0 i, le_prop a.1 b.1 i, after_once q x xs a.2 b.2 i)

steps_once : (q : Query) (ss : List Step) → IsProp (Steps q ss)
steps_once q [] = λ a b. λ i. tt
steps_once q (x ∷ xs) = λ a b. λ i. (le_prop a.0 b.0 i, after_once q x xs a.1 b.1 i)

pub place_once : (s : List ℕ) (place : ℕ) (q : Query) → IsProp (PlaceAsked s place q)
place_once s place q = λ a b. λ i. record {
  inside = le_prop a.inside b.inside i;
  steps = steps_once q (place_at s place) a.steps b.steps i;
}

pub placed_once : (s : List ℕ) (places : ℕ) (q : Query) (index : List ℕ) → IsProp (Placed s places q index)
placed_once s places q index = λ a b. λ i. record {
  few = le_prop a.few b.few i;
  each = λ p low. place_once s _ q (a.each p low) (b.each p low) i;
}
