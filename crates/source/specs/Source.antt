-- Where the fields of a network come from: the bits of a file, or a list of numbers.
use Rattle.std.specs.Prelude.{ℕ, suc, ◌+◌, ◌*◌, ◌≡◌, Bool, List, [], ◌∷◌, leb, ltb, eqb, length, get_or}
use Rattle.bits.specs.Field.{field}
use Rattle.reader.specs.File.{ends_at}

-- fields one after another; a place is a bit's number in a file and an index in a list
pub record Source : Type 0 where
  -- is the whole field of this width there, at this place
  pub has : ℕ → ℕ → Bool
  -- the value of the field of this width at this place
  pub value : ℕ → ℕ → ℕ
  -- the place after the field of this width at this place
  pub after : ℕ → ℕ → ℕ
  -- from this place on there is nothing but fill
  pub ends : ℕ → Bool

-- a file: the last byte is filled with zero bits, and nothing follows
abbrev pub file_of : List ℕ → Source
file_of s =
    record {
      has = λ width at. leb (at + width) (8 * length s);
      value = λ width at. field s at width;
      after = λ width at. at + width;
      ends = λ at. ends_at s at;
    }

-- a list of numbers: one for each field, whatever its width
abbrev pub list_of : List ℕ → Source
list_of l =
    record {
      has = λ width at. ltb at (length l);
      value = λ width at. get_or l at 0;
      after = λ width at. at + 1;
      ends = λ at. eqb at (length l);
    }

-- fields of these widths from a place on, counted from k: the first `have` are there; these are the values, and `end` is the place after the last
abbrev pub Fetched : Source → ℕ → List ℕ → List ℕ → ℕ → ℕ → ℕ → Type 0
Fetched src at [] [] k have end = at ≡ end
Fetched src at [] (v ∷ vs) k have end = ⊥
Fetched src at (w ∷ ws) [] k have end = ⊥
Fetched src at (w ∷ ws) (v ∷ vs) k have end =
    (src.has w at ≡ ltb k have) × (src.value w at ≡ v) × Fetched src (src.after w at) ws vs (suc k) have end

-- the widths of document 01's table: the head of a network: edition, places, number of legs
abbrev pub top_widths : List ℕ
top_widths = 8 ∷ 7 ∷ 10 ∷ []

-- a leg's head: from, to, driving time, number of bands
abbrev pub head_widths : List ℕ
head_widths = 6 ∷ 6 ∷ 12 ∷ 4 ∷ []

-- a band: start, toll
abbrev pub band_widths : List ℕ
band_widths = 12 ∷ 16 ∷ []

-- the fields of these widths that stand one after another in a file, from a bit on
abbrev pub fields_at : List ℕ → ℕ → List ℕ → List ℕ
fields_at s at [] = []
fields_at s at (w ∷ ws) = field s at w ∷ fields_at s (at + w) ws

-- x is so many bits, and in it stand fields of these widths, with these values: wherever x is what stands in a file, they are the fields there
abbrev pub Parts : ℕ → ℕ → List ℕ → List ℕ → Type 0
Parts x size widths values = (s : List ℕ) (at : ℕ) → x ≡ field s at size → values ≡ fields_at s at widths

-- of four fields that end so many bits after `at`, the first `have` end before `end`
pub record Whole (end at first second third fourth have : ℕ) : Type 0 where
  pub one : leb (at + first) end ≡ ltb 0 have
  pub two : leb (at + second) end ≡ ltb 1 have
  pub three : leb (at + third) end ≡ ltb 2 have
  pub four : leb (at + fourth) end ≡ ltb 3 have
