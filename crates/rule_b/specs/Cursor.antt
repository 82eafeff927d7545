-- Walking the steps of a place, and the bands of a leg, forward in time.
use Rattle.std.specs.Prelude.{◌+◌, ◌-◌, ◌≤◌, ◌<◌, ◌≡◌, None, List, [], ◌∷◌, get_or}
use Rattle.std.proofs.Math.Option.{Option, none, some}
use Rattle.bits.specs.Field.{field}
use Rattle.leg.specs.declared.Leg.{Leg}
use Rattle.leg.specs.Ranges.{no_band}
use Rattle.leg.specs.Price.{price_of}
use Rattle.leg.specs.Toll.{toll_of_first}
use Rattle.network.specs.InFile.{leg_at}
use Rattle.network.specs.declared.in_file.LegInFile.{LegInFile}
use Rattle.plan.specs.Network.{Minute, Cents, Query}
use Rattle.plan.specs.Sheet.{Step, or_else, value, StepsAfter, AtMost}
use Rattle.sheet_file.specs.InPlace.{steps_at, place_at}
use Rattle.sheet_file.specs.declared.sheet_place.SheetPlace.{SheetPlace}
use Rattle.rule_b.specs.Rule.{InOrder}
use Rattle.rule_b.specs.declared.cursor.Cursor.{Cursor}
use Rattle.rule_b.specs.declared.tolls.Tolls.{Tolls}

-- the leg that stands there
abbrev pub leg_of : LegInFile → Leg
leg_of l = leg_at l.net.now l.at

-- the steps of a place of a sheet
abbrev pub steps_of : SheetPlace → List Step
steps_of p = place_at p.sheet.now p.bit

-- the steps that a cursor has not passed
abbrev pub ahead : Cursor → List Step
ahead c = steps_at c.sheet.now c.at c.left

-- steps in order
abbrev pub Sorted : Query → List Step → Type 0
Sorted q [] = Unit {0}
Sorted q (x ∷ xs) = StepsAfter q x xs

-- the cursor has passed steps of ss, all of them at or before minute t
pub record Reached (q : Query) (ss : List Step) (t : Minute) (c : Cursor) : Type 0 where
  pub split : (u : Minute) → t ≤ u → value ss u ≡ or_else (value (ahead c) u) (price_of c.price)
  pub sorted : Sorted q (ahead c)

-- before the first of some steps
pub record Begun (ss : List Step) (c : Cursor) : Type 0 where
  pub all : ahead c ≡ ss
  pub nothing : c.price ≡ None

-- one step further
pub record Stepped (old new : Cursor) : Type 0 where
  pub same : new.sheet.now ≡ old.sheet.now
  pub at_is : new.at ≡ old.at + 44
  pub left_is : new.left ≡ old.left - 1
  pub price_is : price_of new.price ≡ some (field old.sheet.now (old.at + 12) 32)

-- what moving a cursor forward to minute t leaves
pub record Moved (t : Minute) (old new : Cursor) : Type 0 where
  pub past : t < new.next.0
  pub reached : (q : Query) (ss : List Step) → Reached q ss t old → Reached q ss t new

-- no band of the leg is passed
pub record Fresh (leg : Leg) (c : Tolls) : Type 0 where
  pub is : leg_of c.leg ≡ leg
  pub nothing : c.passed ≡ 0
  pub free : c.toll.0 ≡ 0

-- one band further
pub record Onward (old new : Tolls) : Type 0 where
  pub same : leg_of new.leg ≡ leg_of old.leg
  pub count_is : new.count ≡ old.count
  pub passed_is : new.passed ≡ old.passed + 1
  pub toll_is : new.toll.0 ≡ (get_or (leg_of old.leg).bands old.passed no_band).toll.0

-- the leg's bands so far, all of which have begun at minute t
pub record Banded (leg : Leg) (t : Minute) (c : Tolls) : Type 0 where
  pub is : leg_of c.leg ≡ leg
  pub known : (u : Minute) → t ≤ u → toll_of_first c.passed leg.bands u ≡ c.toll.0
  pub small : c.toll.0 ≤ 65535

-- the value at the arrival covers the value at the departure and the toll
abbrev pub Covers : Option Cents → Option Cents → Cents → Type 0
Covers none v toll = Unit {0}
Covers (some x) v toll = AtMost v (x + toll)

-- a leg that is held against a sheet up to this minute
pub record LegAsked (leg : Leg) (latest : Minute) : Type 0 where
  pub order : InOrder leg
  pub end : latest ≤ 2879
