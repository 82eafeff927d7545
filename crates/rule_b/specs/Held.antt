-- Where a cursor stands among the steps of a place, and among the bands of a leg.
use Rattle.std.specs.Prelude.{ℕ, ◌+◌, ◌*◌, ◌≤◌, ◌≡◌, List, [], ◌∷◌, ltb, length, get_or}
use Rattle.leg.specs.declared.Leg.{Leg}
use Rattle.leg.specs.Ranges.{no_band}
use Rattle.leg.specs.Toll.{either}
use Rattle.plan.specs.Network.{Minute}
use Rattle.plan.specs.Sheet.{Step}
use Rattle.sheet_file.specs.InPlace.{steps_at}

-- later than every minute
abbrev pub never : Minute
never = 4096

-- the minute of the first of some steps
abbrev pub first_of : List Step → Minute
first_of [] = never
first_of (x ∷ xs) = x.minute

-- the steps that are not passed lie in the file, and `next` is the minute of the first
pub record Held (s : List ℕ) (at left : ℕ) (next : Minute) : Type 0 where
  pub inside : at + 44 * left ≤ 8 * length s
  pub near : at + 44 * left ≤ 8589934592
  pub next_is : next ≡ first_of (steps_at s at left)

-- where band k of a leg starts; never, if it has no such band
abbrev pub start_or : Leg → ℕ → Minute
start_or leg k = either (ltb k leg.count) (get_or leg.bands k no_band).start.0 never

-- so many of the leg's bands are passed, and `next` is where the next starts
pub record Passed (leg : Leg) (count passed : ℕ) (next : Minute) : Type 0 where
  pub count_is : count ≡ leg.count
  pub few : passed ≤ leg.count
  pub next_is : next ≡ start_or leg passed
