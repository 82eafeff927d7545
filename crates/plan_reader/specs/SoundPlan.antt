-- A plan file that was judged.
use Rattle.std.specs.Prelude.{ℕ, ◌≡◌, List, Option, Some, None}
use Rattle.plan_file.specs.PlanFile.{PlanFile}
use Rattle.plan_reader.specs.InPlace.{Says}
use Rattle.plan_reader.specs.declared.sound_plan.SoundPlan.{SoundPlan}

-- a plan that was found is these bytes (what they say goes with it); where none was, they say nothing
abbrev pub Told : List ℕ → Option SoundPlan → Type 0
Told s (Some plan) = plan.bytes.now ≡ s
Told s None = (f : PlanFile) → Says s f → ⊥
