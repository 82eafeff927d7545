-- The file of a sheet reads back as that sheet, if each place's steps are as described. Assumes nothing.
use Prim.Native.Nat.{ℕ, suc, ◌+◌, ◌-◌, ◌*◌, ◌≤◌, ◌<◌}
use native.Mathlib.Omega.{arith}
use mathlib.Core.Path.{◌≡◌, refl, ap}
use mathlib.Core.Bool.{true}
use mathlib.Core.List.{List, [], ◌∷◌}
use borrow.Author.Tests.{le-leb, lt-ltb, eq-eqb}
use lib.Dec.{eqb}
use lib.ListN.{length, get_or}
use Rattle.bits.specs.Field.{field}
use Rattle.bits.specs.Packed.{bits_of, bytes_for}
use Rattle.bits.proofs.Fields.{field_below}
use Rattle.bits.proofs.Packing.{packed-fill}
use Rattle.source.specs.Source.{Source, file_of}
use Rattle.network.specs.Reading.{found}
use Rattle.network.proofs.Carries.{Carries, carries-split, carried-of-holds}
use Rattle.plan.specs.Network.{Minute, Cents, Query}
use Rattle.plan.specs.Sheet.{Step, StepsAfter, Steps}
use Rattle.sheet_file.specs.SheetFile.{step, steps, one_place, places, sheet_of, any_cost}
use Rattle.sheet_file.specs.Fields.{step_fields, steps_fields, place_fields, places_fields, sheet_fields, FileOf}
use Rattle.sheet_file.proofs.Found.{Falling}

-- ---- steps as described are steps as the reader wants them

after-falling : (q : Query) (low : Minute) (limit : Cents) (x : Step) (xs : List Step) → low ≤ x.minute → x.price < limit → StepsAfter q x xs
    → Falling q low limit (x ∷ xs)
after-falling q low limit x [] early cheap h = (early, h, cheap, tt)
after-falling q low limit x (y ∷ ys) early cheap h =
    let rest = after-falling q (x.minute + 1) x.price y ys (omega (arith, h.0)) h.1 h.2 in
    (early, omega (arith, h.0, rest.1), cheap, rest)

-- there are not more of them than minutes
falling-few : (q : Query) (low : Minute) (limit : Cents) (xs : List Step) → Falling q low limit xs → length xs ≤ q.latest + 1 - low
falling-few q low limit [] h = omega arith
falling-few q low limit (x ∷ xs) h = omega (arith, h.0, h.1, falling-few q (x.minute + 1) x.price xs h.3)

-- ---- what carries their fields, reads as them

module _ (src : Source) (q : Query) where
  step_back : (low : Minute) (limit : Cents) (x : Step) (at end : ℕ) → low ≤ x.minute → x.minute ≤ q.latest → x.price < limit
      → Carries src at (step_fields x) end → step low q.latest limit src at ≡ found x end
  step_back low limit x at end early late cheap c =
      simp (
        c.0,
        c.1,
        le-leb low x.minute early,
        le-leb x.minute q.latest late,
        c.2.0,
        c.2.1,
        lt-ltb x.price limit cheap,
        c.2.2,
      )

  steps_back : (low : Minute) (limit : Cents) (xs : List Step) (at end : ℕ) → Falling q low limit xs → Carries src at (steps_fields xs) end
      → steps (length xs) low q.latest limit src at ≡ found xs end
  unfolding steps steps_fields
  steps_back low limit [] at end h c = ap (found []) c
  steps_back low limit (x ∷ xs) at end h c =
      let (mid, one, rest) = carries-split src at (step_fields x) (steps_fields xs) end c in
      rw (step_back low limit x at mid h.0 h.1 h.2 one)
      (rw (steps_back (x.minute + 1) x.price xs mid end h.3 rest) refl)

-- ---- in a file

module _ (s : List ℕ) (q : Query) (last : q.latest ≤ 2879) where
  -- a cost that stands in 32 bits is below 2 to the 32
  steps-falling : (xs : List Step) (at end : ℕ) → Steps q xs → Carries (file_of s) at (steps_fields xs) end → Falling q q.earliest any_cost xs
  unfolding steps_fields
  steps-falling [] at end h c = tt
  steps-falling (x ∷ xs) at end h c =
      after-falling q q.earliest any_cost x xs h.0 (omega (arith, field_below s (at + 12) 32, c.2.1)) h.1

  place-back : (xs : List Step) (at end : ℕ) → Steps q xs → Carries (file_of s) at (place_fields xs) end → one_place q (file_of s) at ≡ found xs end
  place-back xs at end h c =
      let falling = steps-falling xs (at + 12) end h c.2 in
      let few : length xs ≤ 2880 = omega (arith, falling-few q q.earliest any_cost xs falling) in
      simp (c.0, c.1, le-leb (length xs) 2880 few, steps_back (file_of s) q q.earliest any_cost xs (at + 12) end falling c.2)

  places-back : (sheet : List (List Step)) (at end : ℕ) → ((p : ℕ) → p < length sheet → Steps q (get_or sheet p []))
      → Carries (file_of s) at (places_fields sheet) end → places (length sheet) q (file_of s) at ≡ found sheet end
  unfolding places places_fields
  places-back [] at end h c = ap (found []) c
  places-back (xs ∷ rest) at end h c =
      let (mid, one, more) = carries-split (file_of s) at (place_fields xs) (places_fields rest) end c in
      rw (place-back xs at mid (h 0 (omega arith)) one)
      (rw (places-back rest mid end (λ p low. h (suc p) (omega arith)) more) refl)

  -- THE FILE OF A SHEET READS BACK AS THAT SHEET
  pub sheet-reads-back : (sheet : List (List Step)) → ((p : ℕ) → p < length sheet → Steps q (get_or sheet p [])) → FileOf sheet s
      → sheet_of (length sheet) q s ≡ found sheet (bits_of (sheet_fields sheet))
  sheet-reads-back sheet h f =
      let n = bits_of (sheet_fields sheet) in
      let c = carried-of-holds s 0 (sheet_fields sheet) n f.written.holds (omega arith) (omega (arith, f.size)) in
      let size : eqb (length s) (bytes_for n) ≡ true = eq-eqb (length s) (bytes_for n) f.size in
      let fill : eqb (field s n (8 * length s - n)) 0 ≡ true = eq-eqb (field s n (8 * length s - n)) 0 (packed-fill f (8 * length s - n)) in
      simp (c.0, c.1, c.2.0, c.2.1, eq-eqb (length sheet) (length sheet) refl, places-back sheet 15 n h c.2.2, size, fill)
