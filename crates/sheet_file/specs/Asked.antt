-- What is known of a sheet that was judged, and of each of its places.
use Rattle.std.specs.Prelude.{ℕ, ◌+◌, ◌*◌, ◌≤◌, ◌<◌, List, length, get_or}
use Rattle.plan.specs.Network.{Query}
use Rattle.plan.specs.Sheet.{Steps}
use Rattle.sheet_file.specs.InPlace.{place_at, count_at}

-- a place whose steps are as described and lie in the file
pub record PlaceAsked (s : List ℕ) (place : ℕ) (q : Query) : Type 0 where
  pub inside : place + 12 + 44 * count_at s place ≤ 8 * length s
  pub steps : Steps q (place_at s place)

-- every place's steps are as described and lie in the file, from the bit that the index gives
pub record Placed (s : List ℕ) (places : ℕ) (q : Query) (index : List ℕ) : Type 0 where
  pub few : places ≤ 64
  pub each : (p : ℕ) → p < places → PlaceAsked s (get_or index p 0) q
