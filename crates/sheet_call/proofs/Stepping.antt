-- One cell after another: what a loop over a row's cells goes by.
use Prim.Native.Nat.{ℕ, suc, ◌+◌, ◌*◌, ◌/◌, ◌≤◌, ◌<◌}
use native.Mathlib.Numerals.{add-one}
use native.Mathlib.Omega.{arith}
use borrow.Author.Tests.{lt-ltb, le-ltb}
use mathlib.Core.Path.{◌≡◌, refl, sym, ap, ◌∙◌}
use mathlib.Core.Bool.{Bool, true, false}
use mathlib.Core.List.{List, [], ◌∷◌, ◌++◌}
use lib.Dec.{ltb}
use lib.ListN.{length, get_or, drop, drop_of_length-le}
use lib.Seq.{drop-cons}
use Rattle.bits.specs.Packed.{Entry, bits_of}
use Rattle.bits.proofs.Packing.{bits-append, holds-none}
use Rattle.network.specs.Reading.{pick}
use Rattle.plan.specs.Network.{Minute, Cents}
use Rattle.plan.specs.Sheet.{Step}
use Rattle.plan_file.specs.Puts.{Puts}
use Rattle.plan_file.proofs.Puts.{puts_then}
use Rattle.sheet_call.specs.Rows.{step_to, steps_from}
use Rattle.sheet_file.specs.Fields.{step_fields, steps_fields, place_fields, places_fields}

-- ---- the steps, cell by cell

pub steps-none : (t : Minute) (was : Cents) → steps_from t was [] ≡ []
unfolding steps_from
steps-none t was = refl

pub steps-lower : (t : Minute) (was : Cents) (c : ℕ) (cs : List ℕ) → c / 64 < was
    → steps_from t was (c ∷ cs) ≡ step_to t (c / 64) ∷ steps_from (t + 1) (c / 64) cs
unfolding steps_from
steps-lower t was c cs h = rw (lt-ltb (c / 64) was h)

pub steps-same : (t : Minute) (was : Cents) (c : ℕ) (cs : List ℕ) → was ≤ c / 64 → steps_from t was (c ∷ cs) ≡ steps_from (t + 1) was cs
unfolding steps_from
steps-same t was c cs h = rw (le-ltb (c / 64) was h)

-- a row has as many steps whatever its first minute, and not more than cells
pub steps-long : (t u : Minute) (was : Cents) (cs : List ℕ) → length (steps_from t was cs) ≡ length (steps_from u was cs)
unfolding steps_from
steps-long t u was [] = refl
steps-long t u was (c ∷ cs) = at (ltb (c / 64) was) (λ w. steps-long (t + 1) (u + 1) w cs)
  where
    at : (b : Bool) → ((w : Cents) → length (steps_from (t + 1) w cs) ≡ length (steps_from (u + 1) w cs))
        → length (pick b (step_to t (c / 64) ∷ steps_from (t + 1) (c / 64) cs) (steps_from (t + 1) was cs))
        ≡ length (pick b (step_to u (c / 64) ∷ steps_from (u + 1) (c / 64) cs) (steps_from (u + 1) was cs))
    at true ih = ap suc (ih (c / 64))
    at false ih = ih was

-- ---- in a row, from column k on

module _ (row : List ℕ) (t : Minute) (was : Cents) (k : ℕ) where
  pub from_start : steps_from (t + 0) was (drop 0 row) ≡ steps_from t was row
  from_start = let e : t + 0 ≡ t = omega arith in ap (λ (n : ℕ). steps_from n was row) e

  pub from_end : length row ≤ k → steps_from (t + k) was (drop k row) ≡ []
  from_end h = ap (steps_from (t + k) was) (drop_of_length-le row {i = k} h) ∙ steps-none (t + k) was

  module _ (h : k < length row) where
    here : drop k row ≡ get_or row k 0 ∷ drop (k + 1) row
    here = drop-cons row k 0 h ∙ ap (λ (n : ℕ). get_or row k 0 ∷ drop n row) (sym (add-one k))

    later : t + k + 1 ≡ t + (k + 1)
    later = omega arith

    pub from-lower : get_or row k 0 / 64 < was
        → steps_from (t + k) was (drop k row) ≡ step_to (t + k) (get_or row k 0 / 64) ∷ steps_from (t + (k + 1)) (get_or row k 0 / 64) (drop (k + 1) row)
    from-lower l =
        ap (steps_from (t + k) was) here ∙ steps-lower (t + k) was (get_or row k 0) (drop (k + 1) row) l
        ∙ ap (λ (n : ℕ). step_to (t + k) (get_or row k 0 / 64) ∷ steps_from n (get_or row k 0 / 64) (drop (k + 1) row)) later

    pub from-same : was ≤ get_or row k 0 / 64 → steps_from (t + k) was (drop k row) ≡ steps_from (t + (k + 1)) was (drop (k + 1) row)
    from-same l =
        ap (steps_from (t + k) was) here ∙ steps-same (t + k) was (get_or row k 0) (drop (k + 1) row) l
        ∙ ap (λ (n : ℕ). steps_from n was (drop (k + 1) row)) later

-- ---- their fields

pub fields-none : steps_fields [] ≡ []
unfolding steps_fields
fields-none = refl

pub fields-more : (s : Step) (ss : List Step) → steps_fields (s ∷ ss) ≡ step_fields s ++ steps_fields ss
unfolding steps_fields
fields-more s ss = refl

-- 44 bits a step, and 12 in front of them
pub steps-bits : (ss : List Step) → bits_of (steps_fields ss) ≡ 44 * length ss
unfolding steps_fields
steps-bits [] = refl
steps-bits (s ∷ ss) = bits-append (step_fields s) (steps_fields ss) ∙ omega (arith, steps-bits ss)

pub place-bits : (ss : List Step) → bits_of (place_fields ss) ≡ 12 + 44 * length ss
place-bits ss = ap (λ (n : ℕ). 12 + n) (steps-bits ss)

pub places-none : places_fields [] ≡ []
unfolding places_fields
places-none = refl

pub places-more : (ss : List Step) (rest : List (List Step)) → places_fields (ss ∷ rest) ≡ place_fields ss ++ places_fields rest
unfolding places_fields
places-more ss rest = refl

pub places-bits : (ss : List Step) (rest : List (List Step)) → bits_of (places_fields (ss ∷ rest)) ≡ 12 + 44 * length ss + bits_of (places_fields rest)
unfolding places_fields
places-bits ss rest = bits-append (place_fields ss) (places_fields rest) ∙ ap (λ (n : ℕ). n + bits_of (places_fields rest)) (place-bits ss)

-- nothing is put
pub puts_none : (s : List ℕ) (at : ℕ) → ((i : ℕ) → get_or s i 0 < 256) → Puts s s at []
puts_none s at byte =
    record { same_length = refl; holds = holds-none s at; bits_before = λ p to. refl; bits_after = λ p from. refl; byte = byte }

-- ---- what is still to be put: put it, and the whole is put

pub record Left (first now : List ℕ) (start at : ℕ) (rest all : List Entry) : Type 0 where
  pub then : (last : List ℕ) → Puts now last at rest → Puts first last start all

pub left-all : (now : List ℕ) (start : ℕ) (all : List Entry) → Left now now start start all all
left-all now start all = record { then = λ last h. h }

pub left-done : {first now : List ℕ} {start at : ℕ} {all : List Entry} → Left first now start at [] all → ((i : ℕ) → get_or now i 0 < 256) → Puts first now start all
left-done {first} {now} {start} {at} {all} left byte = left.then now (puts_none now at byte)

pub left-more : {first now next : List ℕ} {start at : ℕ} (es : List Entry) {rest all : List Entry} → Left first now start at (es ++ rest) all → Puts now next at es
    → Left first next start (at + bits_of es) rest all
left-more es left put = record { then = λ last h. left.then last (puts_then {fs = es} put h) }
