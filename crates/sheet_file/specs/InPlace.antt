-- A sheet's steps where they stand in the file: what a reading in place goes by.
use Rattle.std.specs.Prelude.{ℕ, zero, suc, ◌+◌, ◌*◌, ◌≤◌, ◌<◌, ◌≡◌, Bool, true, false, List, [], ◌∷◌, length, get_or}
use Rattle.bits.specs.Field.{field}
use Rattle.network.specs.Reading.{Found, refused, found}
use Rattle.plan.specs.Sheet.{Step}

-- the step at a bit
abbrev pub step_at : List ℕ → ℕ → Step
step_at s at = record { minute = field s at 12; price = field s (at + 12) 32 }

-- so many steps from a bit on
unfoldable pub steps_at : List ℕ → ℕ → ℕ → List Step
steps_at s at zero = []
steps_at s at (suc k) = step_at s at ∷ steps_at s (at + 44) k

-- how many steps the place has whose count stands at a bit
abbrev pub count_at : List ℕ → ℕ → ℕ
count_at s at = field s at 12

-- the steps of the place whose count stands at a bit
abbrev pub place_at : List ℕ → ℕ → List Step
place_at s at = steps_at s (at + 12) (count_at s at)

-- a reading found nothing
abbrev pub Nothing : {A : Type 0} → Found A → Type 0
Nothing (refused why) = Unit {0}
Nothing (found a at) = ⊥

-- a test that says yes found this, up to here; one that says no found nothing
abbrev pub Tested : {A : Type 0} → Bool → Found A → A → ℕ → Type 0
Tested true x a at = x ≡ found a at
Tested false x a at = Nothing x

-- the bits where each place's count stands
pub record Indexed (s : List ℕ) (n : ℕ) (index : List ℕ) (sheet : List (List Step)) : Type 0 where
  pub size : length sheet ≡ n
  pub steps : (p : ℕ) → p < n → get_or sheet p [] ≡ place_at s (get_or index p 0)
  pub inside : (p : ℕ) → p < n → get_or index p 0 + 12 + 44 * count_at s (get_or index p 0) ≤ 8 * length s
