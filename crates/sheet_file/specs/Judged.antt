-- What is found of a sheet file.
use Rattle.std.specs.Prelude.{ℕ, ◌≡◌, List, Option, Some, None}
use Rattle.leg.specs.declared.Window.{Window}
use Rattle.network.specs.Reading.{Found, refused, found}
use Rattle.plan.specs.Sheet.{Step}
use Rattle.sheet_file.specs.declared.sound_sheet.SoundSheet.{SoundSheet}
use Rattle.sheet_file.specs.InPlace.{Indexed}

-- a sheet that is handed on is these bytes, judged for so many places and this window, and says where each place's count stands
pub record HandedOn (s : List ℕ) (n : ℕ) (w : Window) (sheet : List (List Step)) (r : SoundSheet) : Type 0 where
  pub bytes : r.sheet.now ≡ s
  pub places : r.places ≡ n
  pub window : r.window ≡ w
  pub indexed : Indexed s n r.index sheet

-- one is handed on if the file is sound, and else none
abbrev pub Judged : List ℕ → ℕ → Window → Found (List (List Step)) → Option SoundSheet → Type 0
Judged s n w (refused why) None = Unit {0}
Judged s n w (refused why) (Some r) = ⊥
Judged s n w (found sheet at) None = ⊥
Judged s n w (found sheet at) (Some r) = HandedOn s n w sheet r
