-- Document 01, "Files": what a plan file says, and its fields in file order with their widths.
use Rattle.std.specs.Prelude.{ℕ, ◌+◌, ◌*◌, ◌≤◌, ◌<◌, ◌≡◌, cond, List, [], ◌∷◌, ◌++◌, eqb, length}
use Rattle.std.proofs.Math.Option.{Option, none, some}
use Rattle.bits.specs.Packed.{Entry, item, bytes_for, Packed}
use Rattle.plan.specs.Network.{Minute, Cents, Network, Query}
use Rattle.plan.specs.Plan.{Ride, cost}
use Rattle.leg.specs.declared.Window.{Window}
use Rattle.plan_file.specs.declared.Query.{Query as Asked}
use Rattle.plan_file.specs.declared.Verdict.{Verdict}

-- What a plan file says. The rides stand here as in the theory, THE LAST RIDE FIRST; in the file the first ride stands first.
pub record PlanFile : Type 0 where
  pub verdict : ℕ
  pub query : Query
  pub price : Cents
  pub rides : List Ride

-- the code's verdict as the number in the file
abbrev pub verdict_of : Verdict → ℕ
verdict_of Verdict.NoPlan = 0
verdict_of Verdict.Plan = 1

-- the code's query as the theory's
abbrev pub query_of : Asked → Query
query_of a = record { start = a.start; end = a.end; earliest = a.earliest.0; latest = a.latest.0 }

-- its window
abbrev pub window_of : Asked → Window
window_of a = record { earliest = a.earliest; latest = a.latest }

-- its values fit their fields
pub record InWidth (a : Asked) : Type 0 where
  pub start : a.start < 64
  pub end : a.end < 64
  pub earliest : a.earliest.0 < 4096
  pub latest : a.latest.0 < 4096

-- leg l left at minute d
abbrev pub ride_of : ℕ → Minute → Ride
ride_of l d = record { leg = l; leave = d }

-- start, end, earliest, latest
abbrev pub query_fields : Query → List Entry
query_fields q = item 6 q.start ∷ item 6 q.end ∷ item 12 q.earliest ∷ item 12 q.latest ∷ []

-- everything before the rides: edition, verdict, the query, cost, number of legs
abbrev pub head_fields : ℕ → Query → Cents → ℕ → List Entry
head_fields verdict q price legs = item 8 1 ∷ item 1 verdict ∷ (query_fields q ++ (item 32 price ∷ item 12 legs ∷ []))

-- one ride: leg number, departure
abbrev pub ride_fields : Ride → List Entry
ride_fields r = item 9 r.leg ∷ item 12 r.leave ∷ []

-- the rides, the first one first
unfoldable pub rides_fields : List Ride → List Entry
rides_fields [] = []
rides_fields (r ∷ rs) = rides_fields rs ++ ride_fields r

-- the whole file: the head, then the rides
abbrev pub plan_fields : PlanFile → List Entry
plan_fields f = head_fields f.verdict f.query f.price (length f.rides) ++ rides_fields f.rides

-- how many bytes a plan file of so many legs has
abbrev pub plan_bytes : ℕ → ℕ
plan_bytes legs = bytes_for (89 + 21 * legs)

-- these bytes are the file that says this
abbrev pub FileOf : PlanFile → List ℕ → Type 0
FileOf f bytes = Packed (plan_fields f) bytes

-- verdict "plan": this plan and its cost
abbrev pub file_of_plan : Network → Query → List Ride → PlanFile
file_of_plan N q plan = record { verdict = 1; query = q; price = cost N plan; rides = plan }

-- verdict "none": cost 0 and no legs
abbrev pub none_file : Query → PlanFile
none_file q = record { verdict = 0; query = q; price = 0; rides = [] }

-- the cost that a plan file states: none with verdict "none"
abbrev pub stated_cost : ℕ → Cents → Option Cents
stated_cost verdict price = cond (eqb verdict 0) none (some price)

-- the cost that this file states
abbrev pub stated : PlanFile → Option Cents
stated f = stated_cost f.verdict f.price

-- how many legs a plan file may hold
abbrev pub most_legs : ℕ
most_legs = 63

-- what a plan file may say, with its limit of legs: not more legs than that, and "none" with cost 0 and no legs
pub record Allowed (most : ℕ) (f : PlanFile) : Type 0 where
  pub few : length f.rides ≤ most
  pub none_price : f.verdict ≡ 0 → f.price ≡ 0
  pub none_legs : f.verdict ≡ 0 → length f.rides ≡ 0
