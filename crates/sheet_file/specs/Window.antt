-- What the judging functions return for one step and for one place.
use Rattle.std.specs.Prelude.{ℕ, ◌+◌, ◌*◌, ◌≤◌, ◌≡◌, List, Option, Some, None}
use Rattle.source.specs.Source.{file_of}
use Rattle.plan.specs.Network.{Minute, Cents, Query}
use Rattle.network.specs.Reading.{found}
use Rattle.sheet_file.specs.declared.Step.{Step}
use Rattle.leg.specs.declared.Window.{Window}
use Rattle.leg.specs.declared.Cents.{Cents as LegCents}
use Rattle.sheet_file.specs.SheetFile.{step, steps, one_place, any_cost}
use Rattle.sheet_file.specs.InPlace.{step_at, steps_at, place_at, count_at, Nothing}

-- of a query a sheet file's meaning takes the window alone
abbrev pub window : Minute → Minute → Query
window earliest latest = record { start = 0; end = 0; earliest = earliest; latest = latest }

-- the same of a window
abbrev pub of_window : Window → Query
of_window w = window w.earliest.0 w.latest.0

-- what the next step's cost is below: the last step's, or any cost where there is none
abbrev pub below : Option LegCents → Cents
below (Some last) = last.0
below None = any_cost

-- one step was judged: a sound one is handed on
abbrev pub StepIs : List ℕ → ℕ → Minute → Minute → Cents → Option Step → Type 0
StepIs s at low latest limit None = Nothing (step low latest limit (file_of s) at)
StepIs s at low latest limit (Some x) =
    (step low latest limit (file_of s) at ≡ found (step_at s at) (at + 44)) × (record { minute = x.minute.0; price = x.price.0 } ≡ step_at s at)

-- the steps of a place were judged: where sound ones end is handed on
abbrev pub StepsAre : List ℕ → ℕ → ℕ → Minute → Minute → Option ℕ → Type 0
StepsAre s at count earliest latest None = Nothing (steps count earliest latest any_cost (file_of s) at)
StepsAre s at count earliest latest (Some after) =
    (steps count earliest latest any_cost (file_of s) at ≡ found (steps_at s at count) (at + 44 * count)) × (after ≡ at + 44 * count)

-- one place was judged: where a sound one ends is handed on
abbrev pub PlaceIs : List ℕ → ℕ → Query → Option ℕ → Type 0
PlaceIs s at q None = Nothing (one_place q (file_of s) at)
PlaceIs s at q (Some after) =
    (one_place q (file_of s) at ≡ found (place_at s at) after) × (after ≡ at + 12 + 44 * count_at s at) × (after ≤ at + 126732)
