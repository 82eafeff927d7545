-- From one load and the count of whole fields to what was fetched, for each group of fields; and the same from a list.
use Prim.Native.Nat.{ℕ, ◌+◌, ◌*◌, ◌/◌, ◌%◌}
use mathlib.Core.Path.{◌≡◌, refl, sym}
use mathlib.Core.List.{List, [], ◌∷◌}
use native.Mathlib.Nat.{add-zero, add_assoc}
use lib.ListN.{length, get_or}
use Rattle.bits.specs.Field.{field}
use Rattle.bits.proofs.Fields.{part-first, part-last, part-middle}
use Rattle.source.specs.Source.{file_of, top_widths, head_widths, band_widths, fields_at, Parts, Whole, Fetched}

module _ (s : List ℕ) (x have : ℕ) where
  pub file-top : Whole (8 * length s) 0 8 15 25 25 have → x ≡ field s 0 25
      → Fetched (file_of s) 0 top_widths (x / 131072 ∷ x / 1024 % 128 ∷ x % 1024 ∷ []) 0 have 25
  file-top w e = (
    w.one,
    sym (part-first s 0 8 17 e),
    (w.two, sym (part-middle s 0 8 7 10 e), (w.three, sym (part-last s 0 15 10 e), refl)),
  )

-- the fields in the 28 bits of a head, and of a band
pub head-cut : (x : ℕ) → Parts x 28 head_widths (x / 4194304 % 64 ∷ x / 65536 % 64 ∷ x / 16 % 4096 ∷ x % 16 ∷ [])
head-cut x s at e =
    rw (add_assoc at 6 6, add_assoc at 12 12, part-middle s at 0 6 22 e, part-middle s at 6 6 16 e, part-middle s at 12 12 4 e, part-last s at 24 4 e, add-zero at)

pub band-cut : (x : ℕ) → Parts x 28 band_widths (x / 65536 % 4096 ∷ x % 65536 ∷ [])
band-cut x s at e = rw (part-middle s at 0 12 16 e, part-last s at 12 16 e, add-zero at)

module _ (s : List ℕ) (at have : ℕ) (values : List ℕ) where
  pub file-head : Whole (8 * length s) at 6 12 24 28 have → values ≡ fields_at s at head_widths
      → Fetched (file_of s) at head_widths (get_or values 0 0 ∷ get_or values 1 0 ∷ get_or values 2 0 ∷ get_or values 3 0 ∷ []) 0 have (at + 28)
  file-head w e =
      rw (e, add_assoc at 6 6, add_assoc at 12 12, add_assoc at 24 4) (w.one, refl, (w.two, refl, (w.three, refl, (w.four, refl, refl))))

  pub file-band : Whole (8 * length s) at 12 28 28 28 have → values ≡ fields_at s at band_widths
      → Fetched (file_of s) at band_widths (get_or values 0 0 ∷ get_or values 1 0 ∷ []) 0 have (at + 28)
  file-band w e = rw (e, add_assoc at 12 16) (w.one, refl, (w.two, refl, refl))
