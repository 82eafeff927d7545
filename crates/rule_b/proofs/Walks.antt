-- Walking the steps of a place forward: what the cursor shows is the value, up to its next step. Assumes nothing.
use Prim.Native.Nat.{ℕ, zero, suc, ◌+◌, ◌-◌, ◌≤◌, ◌<◌}
use native.Mathlib.Omega.{arith}
use mathlib.Core.Path.{◌≡◌, refl, sym, ◌∙◌, ap, ap₂, subst}
use mathlib.Core.Bool.{cond}
use mathlib.Core.Option.{Option, none, some}
use mathlib.Core.List.{List, [], ◌∷◌}
use borrow.Author.Tests.{le-leb, lt-leb}
use Rattle.bits.specs.Field.{field}
use Rattle.plan.specs.Network.{Minute, Cents, Query}
use Rattle.plan.specs.Sheet.{Step, or_else, value, Steps}
use Rattle.sheet_file.specs.InPlace.{step_at, steps_at}
use Rattle.rule_b.specs.declared.cursor.Cursor.{Cursor}
use Rattle.leg.specs.Price.{price_of}
use Rattle.rule_b.specs.Held.{first_of}
use Rattle.rule_b.specs.Cursor.{ahead, Sorted, Reached, Begun, Stepped}

module _ (s : List ℕ) (at n m : ℕ) (e : n ≡ suc m) where
  pub ahead_more : steps_at s at n ≡ step_at s at ∷ steps_at s (at + 44) m
  unfolding steps_at
  ahead_more = rw e

pub first-none : (s : List ℕ) (at n : ℕ) → n ≡ 0 → first_of (steps_at s at n) ≡ 4096
unfolding steps_at
first-none s at n e = rw e

pub first_some : (s : List ℕ) (at n : ℕ) → 0 < n → first_of (steps_at s at n) ≡ field s at 12
first_some s at n h = let e : n ≡ suc (n - 1) = omega arith in ap first_of (ahead_more s at n (n - 1) e)

-- a cursor whose next step has a minute has a step left
pub some_left : (c : Cursor) → c.next.0 < 4096 → 0 < c.left
some_left c l = at c.left refl
  where
    at : (n : ℕ) → c.left ≡ n → 0 < c.left
    at zero e = absurd (omega (arith, c.held.next_is, first-none c.sheet.now c.at c.left e))
    at (suc n) e = omega arith

else-past : (v w : Option Cents) (p : Cents) → or_else (or_else v (some p)) w ≡ or_else v (some p)
else-past none w p = refl
else-past (some x) w p = refl

sorted_rest : (q : Query) (x : Step) (xs : List Step) → Sorted q (x ∷ xs) → Sorted q xs
sorted_rest q x [] h = tt
sorted_rest q x (y ∷ ys) h = h.2

-- no value before the first step
pub none_before : (q : Query) (xs : List Step) → Sorted q xs → (u : Minute) → u < first_of xs → value xs u ≡ none
none_before q [] h u l = refl
none_before q (x ∷ []) h u l = ap (λ b. cond b (some x.price) none) (lt-leb x.minute u l)
none_before q (x ∷ (y ∷ ys)) h u l =
    ap₂ (λ v b. or_else v (cond b (some x.price) none)) (none_before q (y ∷ ys) h.2 u (omega (arith, h.0))) (lt-leb x.minute u l)

pub steps-sorted : (q : Query) (xs : List Step) → Steps q xs → Sorted q xs
steps-sorted q [] h = tt
steps-sorted q (x ∷ xs) h = h.1

-- one step further
module _ (q : Query) (ss : List Step) (t : Minute) (old new : Cursor) (due : old.next.0 ≤ t) (low : t < 4096) (step : Stepped old new) where
  left : 0 < old.left
  left = some_left old (omega arith)

  ahead-is : ahead old ≡ step_at old.sheet.now old.at ∷ ahead new
  ahead-is = ahead_more old.sheet.now old.at old.left (old.left - 1) (omega (arith, left)) ∙ rw (step.same, step.at_is, step.left_is)

  pub reached-more : Reached q ss t old → Reached q ss t new
  reached-more r = record {
    split = λ u h.
        r.split u h
        ∙ ap (λ (xs : List Step). or_else (value xs u) (price_of old.price)) ahead-is
        ∙ ap (λ b. or_else (or_else (value (ahead new) u) (cond b (some (field old.sheet.now (old.at + 12) 32)) none)) (price_of old.price))
        (le-leb (field old.sheet.now old.at 12) u (omega (arith, old.held.next_is, first_some old.sheet.now old.at old.left left)))
        ∙ else-past (value (ahead new) u) (price_of old.price) (field old.sheet.now (old.at + 12) 32)
        ∙ ap (λ v. or_else (value (ahead new) u) v) (sym step.price_is);
    sorted = sorted_rest q (step_at old.sheet.now old.at) (ahead new) (subst (λ (xs : List Step). Sorted q xs) ahead-is r.sorted);
  }

-- what a cursor shows up to its next step
pub reached-value : (q : Query) (ss : List Step) (t : Minute) (c : Cursor) → Reached q ss t c
    → (u : Minute) → t ≤ u → u < c.next.0 → value ss u ≡ price_of c.price
reached-value q ss t c r u l k =
    r.split u l
    ∙ ap (λ v. or_else v (price_of c.price)) (none_before q (ahead c) r.sorted u (omega (arith, c.held.next_is)))

pub reached-later : (q : Query) (ss : List Step) (t t' : Minute) (c : Cursor) → t ≤ t' → Reached q ss t c → Reached q ss t' c
reached-later q ss t t' c l r = record { split = λ u h. r.split u (omega arith); sorted = r.sorted }

-- before the first step nothing is passed
pub reached-begun : (q : Query) (ss : List Step) (t : Minute) (c : Cursor) → Begun ss c → Steps q ss → Reached q ss t c
reached-begun q ss t c b h = record {
  split = λ u l. sym (else-none (value ss u)) ∙ ap (λ (xs : List Step). or_else (value xs u) none) (sym b.all)
      ∙ ap (λ x. or_else (value (ahead c) u) (price_of x)) (sym b.nothing);
  sorted = subst (λ (xs : List Step). Sorted q xs) (sym b.all) (steps-sorted q ss h);
}
  where
    else-none : (v : Option Cents) → or_else v none ≡ v
    else-none none = refl
    else-none (some x) = refl
