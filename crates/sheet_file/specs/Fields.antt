-- Document 01, "Files": the fields of a sheet file in file order with their widths: what the sheet call writes, and `sheet_of` reads back.
use Rattle.std.specs.Prelude.{ℕ, List, [], ◌∷◌, ◌++◌, length}
use Rattle.bits.specs.Packed.{Entry, item, bits_of, bytes_for, Packed}
use Rattle.plan.specs.Sheet.{Step}

-- one step: minute, cost
abbrev pub step_fields : Step → List Entry
step_fields s = item 12 s.minute ∷ item 32 s.price ∷ []

-- the steps, one after another
unfoldable pub steps_fields : List Step → List Entry
steps_fields [] = []
steps_fields (s ∷ ss) = step_fields s ++ steps_fields ss

-- one place: how many steps, and the steps
abbrev pub place_fields : List Step → List Entry
place_fields ss = item 12 (length ss) ∷ steps_fields ss

-- the places, one after another
unfoldable pub places_fields : List (List Step) → List Entry
places_fields [] = []
places_fields (ss ∷ rest) = place_fields ss ++ places_fields rest

-- the whole file: edition, places, and each place's steps
abbrev pub sheet_fields : List (List Step) → List Entry
sheet_fields sheet = item 8 1 ∷ item 7 (length sheet) ∷ places_fields sheet

-- how many bytes it has
abbrev pub sheet_bytes : List (List Step) → ℕ
sheet_bytes sheet = bytes_for (bits_of (sheet_fields sheet))

-- these bytes are the file of this sheet
abbrev pub FileOf : List (List Step) → List ℕ → Type 0
FileOf sheet bytes = Packed (sheet_fields sheet) bytes
