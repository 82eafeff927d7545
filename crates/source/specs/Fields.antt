-- The fields that were taken together.
use Rattle.std.specs.Prelude.{ℕ, ◌+◌, ◌-◌, ◌<◌, ◌≡◌, List, [], ◌∷◌, length, get_or}
use Rattle.source.specs.Source.{Source, Fetched, top_widths, head_widths, band_widths}
use Rattle.source.specs.declared.Fields.{Fields}

-- the next n numbers of a list, as far as they are there
pub record Listed (l : List ℕ) (at n : ℕ) (r : Fields n) : Type 0 where
  pub have_is : r.have ≡ length l - at
  pub value_is : (k : ℕ) → k < n → get_or l (at + k) 0 ≡ get_or r.values k 0
  pub after_is : r.after ≡ at + n

-- the head of a network
abbrev pub TopFields : Source → Fields 3 → Type 0
TopFields src r = Fetched src 0 top_widths (get_or r.values 0 0 ∷ get_or r.values 1 0 ∷ get_or r.values 2 0 ∷ []) 0 r.have r.after

-- a leg's head, from a place on
abbrev pub HeadFields : Source → ℕ → Fields 4 → Type 0
HeadFields src at r =
    Fetched src at head_widths (get_or r.values 0 0 ∷ get_or r.values 1 0 ∷ get_or r.values 2 0 ∷ get_or r.values 3 0 ∷ []) 0 r.have r.after

-- a band, from a place on
abbrev pub BandFields : Source → ℕ → Fields 2 → Type 0
BandFields src at r = Fetched src at band_widths (get_or r.values 0 0 ∷ get_or r.values 1 0 ∷ []) 0 r.have r.after
