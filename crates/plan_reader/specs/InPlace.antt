-- A plan file where it stands: what a reading in place goes by.
use Rattle.std.specs.Prelude.{ℕ, zero, suc, ◌+◌, ◌*◌, ◌≤◌, ◌≡◌, List, [], ◌∷◌, Option}
use Rattle.leg.specs.declared.Cents.{Cents}
use Rattle.leg.specs.Price.{price_of}
use Rattle.bits.specs.Field.{field}
use Rattle.plan.specs.Network.{Query}
use Rattle.plan.specs.Plan.{Ride}
use Rattle.plan_file.specs.declared.Query.{Query as Asked}
use Rattle.plan_file.specs.PlanFile.{PlanFile, FileOf, Allowed, most_legs, ride_of, query_of, stated}

-- ride k of the bytes, counted from the first
abbrev pub ride_at : List ℕ → ℕ → Ride
ride_at s k = ride_of (field s (89 + 21 * k) 9) (field s (89 + 21 * k + 9) 12)

-- the first so many rides, the last of them first
unfoldable pub rides_at : List ℕ → ℕ → List Ride
rides_at s zero = []
rides_at s (suc k) = ride_at s k ∷ rides_at s k

-- the query that stands from a bit on
abbrev pub query_at : List ℕ → ℕ → Query
query_at s bit = record { start = field s bit 6; end = field s (bit + 6) 6; earliest = field s (bit + 12) 12; latest = field s (bit + 24) 12 }

-- what the bytes say, if they are a plan file
abbrev pub file_at : List ℕ → PlanFile
file_at s = record {
  verdict = field s 8 1;
  query = record { start = field s 9 6; end = field s 15 6; earliest = field s 21 12; latest = field s 33 12 };
  price = field s 45 32;
  rides = rides_at s (field s 77 12);
}

-- the bytes are a plan file that says what it may
pub record Says (s : List ℕ) (f : PlanFile) : Type 0 where
  pub file : FileOf f s
  pub allowed : Allowed most_legs f

-- the head of a plan file that says what it may, as far as the fields before the rides tell
pub record HeadAllowed (s : List ℕ) : Type 0 where
  pub edition : field s 0 8 ≡ 1
  pub few : field s 77 12 ≤ most_legs
  pub none_price : field s 8 1 ≡ 0 → field s 45 32 ≡ 0
  pub none_legs : field s 8 1 ≡ 0 → field s 77 12 ≡ 0

-- what a plan file says, but for its rides, as it is handed on
pub record Headed (s : List ℕ) (cost : Option Cents) (query : Asked) (legs : ℕ) : Type 0 where
  pub stated_is : price_of cost ≡ stated (file_at s)
  pub query_is : query_of query ≡ (file_at s).query
  pub legs_is : legs ≡ field s 77 12
