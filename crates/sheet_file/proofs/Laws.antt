-- A step, and the steps of a place, one further: what the loops go by. Assumes nothing.
use Prim.Native.Nat.{ℕ, zero, suc, ◌+◌, ◌*◌, ◌-◌, ◌<◌}
use native.Mathlib.Omega.{arith}
use native.Mathlib.Numerals.{add-one}
use mathlib.Core.Path.{◌≡◌, refl, sym, ◌∙◌, ap}
use mathlib.Core.Bool.{Bool, true, false}
use mathlib.Core.List.{List, [], ◌∷◌, ◌++◌, append_assoc}
use Rattle.answer.specs.declared.Refusal.{Refusal}
use Rattle.bits.proofs.Fields.{field_below}
use Rattle.source.specs.Source.{Source, file_of}
use Rattle.network.specs.Reading.{Found, refused, found, next, pick}
use Rattle.plan.specs.Network.{Minute, Cents}
use Rattle.plan.specs.Sheet.{Step}
use Rattle.sheet_file.specs.SheetFile.{step, steps}
use Rattle.sheet_file.specs.InPlace.{step_at, steps_at, Nothing, Tested}

-- a reading that finds nothing on the way finds nothing
pub nothing-next : {A B : Type 0} (x : Found A) (k : A → ℕ → Found B) → Nothing x → Nothing (next x k)
nothing-next (refused why) k h = tt
nothing-next (found a at) k h = absurd h

pub nothing-after : {A B : Type 0} (t : Bool) (why : Refusal) (a : A) (n : ℕ) (k : A → ℕ → Found B) → Nothing (k a n)
    → Nothing (next (pick t (found a n) (refused why)) k)
nothing-after true why a n k h = h
nothing-after false why a n k h = tt

-- what a test tells of a reading
pub tested-true : {A : Type 0} (b : Bool) (x : Found A) (a : A) (at : ℕ) → b ≡ true → Tested b x a at → x ≡ found a at
tested-true true x a at e t = t
tested-true false x a at e t = cc

-- what was found, after some that were found before
abbrev pub prepend : {A : Type 0} → List A → Found (List A) → Found (List A)
prepend b (refused why) = refused why
prepend b (found xs at) = found (b ++ xs) at

pub prepend-twice : {A : Type 0} (a b : List A) (x : Found (List A)) → prepend a (prepend b x) ≡ prepend (a ++ b) x
prepend-twice a b (refused why) = refl
prepend-twice a b (found xs at) = ap (λ l. found l at) (sym (append_assoc a b xs))

pub prepend-nothing : {A : Type 0} (b : List A) (x : Found (List A)) → Nothing x → Nothing (prepend b x)
prepend-nothing b (refused why) h = tt
prepend-nothing b (found xs at) h = absurd h

pub next-prepend : {A : Type 0} (a : A) (x : Found (List A)) → next x (λ rest at. found (a ∷ rest) at) ≡ prepend (a ∷ []) x
next-prepend a (refused why) = refl
next-prepend a (found xs at) = refl

pub nil : {A : Type 0} (l : List A) → l ++ [] ≡ l
nil [] = refl
nil (x ∷ l) = ap (λ r. x ∷ r) (nil l)

pub prepend-none : {A : Type 0} (x : Found (List A)) → x ≡ prepend [] x
prepend-none (refused why) = refl
prepend-none (found xs at) = refl

module _ (src : Source) (n m at : ℕ) (low latest : Minute) (limit : Cents) (e : n ≡ suc m) where
  pub steps-more : (s : Step) (after : ℕ) → step low latest limit src at ≡ found s after
      → steps n low latest limit src at ≡ prepend (s ∷ []) (steps m (s.minute + 1) latest s.price src after)
  unfolding steps
  steps-more s after q = rw e (rw q (next-prepend s (steps m (s.minute + 1) latest s.price src after)))

  pub steps-nothing : Nothing (step low latest limit src at) → Nothing (steps n low latest limit src at)
  unfolding steps
  steps-nothing h = rw e (nothing-next (step low latest limit src at) _ h)

-- one more step in place
steps-at-suc : (s : List ℕ) (at k : ℕ) → steps_at s at k ++ (step_at s (at + 44 * k) ∷ []) ≡ steps_at s at (suc k)
unfolding steps_at
steps-at-suc s at zero = let here : at + 44 * 0 ≡ at = omega arith in rw here
steps-at-suc s at (suc k) =
    let there : at + 44 * suc k ≡ at + 44 + 44 * k = omega arith in
    rw there (ap (λ l. step_at s at ∷ l) (steps-at-suc s (at + 44) k))

pub steps-at-more : (s : List ℕ) (at k : ℕ) → steps_at s at k ++ (step_at s (at + 44 * k) ∷ []) ≡ steps_at s at (k + 1)
steps-at-more s at k = rw add-one (steps-at-suc s at k)

-- THE LOOP OVER STEPS: k are read, the others are to be read from here on
module _ (s : List ℕ) (at n k : ℕ) (low₀ latest : Minute) (limit₀ : Cents) (low : Minute) (limit : Cents)
    (inv : steps n low₀ latest limit₀ (file_of s) at ≡ prepend (steps_at s at k) (steps (n - k) low latest limit (file_of s) (at + 44 * k))) where
  pub loop-more : k < n → (minute : Minute) (price : Cents) → record { minute = minute; price = price } ≡ step_at s (at + 44 * k)
      → step low latest limit (file_of s) (at + 44 * k) ≡ found (step_at s (at + 44 * k)) (at + 44 * k + 44)
      → steps n low₀ latest limit₀ (file_of s) at
      ≡ prepend (steps_at s at (k + 1)) (steps (n - (k + 1)) (minute + 1) latest price (file_of s) (at + 44 * (k + 1)))
  loop-more h minute price v q =
      let left : n - k ≡ suc (n - (k + 1)) = omega arith in
      let on : at + 44 * k + 44 ≡ at + 44 * (k + 1) = omega arith in
      let here = step_at s (at + 44 * k) in
      let rest = steps (n - (k + 1)) (here.minute + 1) latest here.price (file_of s) (at + 44 * k + 44) in
      let one = steps-more (file_of s) (n - k) (n - (k + 1)) (at + 44 * k) low latest limit left here (at + 44 * k + 44) q in
      inv ∙ ap (λ x. prepend (steps_at s at k) x) one ∙ prepend-twice (steps_at s at k) (here ∷ []) rest
      ∙ ap (λ l. prepend l rest) (steps-at-more s at k)
      ∙ ap (λ (p : ℕ). prepend (steps_at s at (k + 1)) (steps (n - (k + 1)) (here.minute + 1) latest here.price (file_of s) p)) on
      ∙ ap (λ (x : Step). prepend (steps_at s at (k + 1)) (steps (n - (k + 1)) (x.minute + 1) latest x.price (file_of s) (at + 44 * (k + 1)))) (sym v)

  pub loop-nothing : k < n → Nothing (step low latest limit (file_of s) (at + 44 * k)) → Nothing (steps n low₀ latest limit₀ (file_of s) at)
  loop-nothing h q =
      let left : n - k ≡ suc (n - (k + 1)) = omega arith in
      rw inv (prepend-nothing (steps_at s at k) (steps (n - k) low latest limit (file_of s) (at + 44 * k)) (steps-nothing (file_of s) (n - k) (n - (k + 1)) (at + 44 * k) low latest limit left q))

  pub loop-done : k ≡ n → steps n low₀ latest limit₀ (file_of s) at ≡ found (steps_at s at n) (at + 44 * n)
  unfolding steps
  loop-done e =
      let none : n - k ≡ 0 = omega arith in
      inv ∙ rw (none, e) (ap (λ l. found l (at + 44 * n)) (nil (steps_at s at n)))

pub loop-start : (s : List ℕ) (at n : ℕ) (low latest : Minute) (limit : Cents)
    → steps n low latest limit (file_of s) at ≡ prepend (steps_at s at 0) (steps (n - 0) low latest limit (file_of s) (at + 44 * 0))
unfolding steps_at
loop-start s at n low latest limit =
    let all : n - 0 ≡ n = omega arith in
    let here : at + 44 * 0 ≡ at = omega arith in
    rw (all, here) (prepend-none (steps n low latest limit (file_of s) at))

-- the values that a sound step came with
pub minute-small : (s : List ℕ) (at minute : ℕ) (price : ℕ) → ◌≡◌ {A = Step} (record { minute = minute; price = price }) (step_at s at) → minute < 4096
minute-small s at minute price e = omega (arith, ap (λ (x : Step). x.minute) e, field_below s at 12)
