-- There is one sheet of given values: steps with rising minutes and falling costs are told by their values. Assumes nothing.
use Prim.Native.Nat.{ℕ, suc, ◌≤◌, ◌<◌}
use native.Mathlib.Omega.{arith}
use native.Mathlib.Decide.{ℕ_discrete, dec_lt}
use mathlib.Core.Path.{◌≡◌, refl, sym, ap, ap₂, ◌∙◌, subst}
use mathlib.Core.Logic.{◌↔◌}
use mathlib.Core.Bool.{true, false, cond}
use mathlib.Core.Option.{Option, none, some}
use mathlib.Core.List.{List, [], ◌∷◌}
use borrow.Author.Tests.{le-leb, lt-leb}
use lib.Dec.{leb}
use lib.ListN.{get_or}
use lib.Seq.{ext_get_or}
use Rattle.plan.specs.Network.{Minute, Cents, Network, Query, Within}
use Rattle.plan.specs.Sheet.{Step, or_else, value, value_at, StepsAfter, Steps, LeastCost, OurSheet}
use Rattle.plan.proofs.Sheets.{Below, after-below}

nothing-some : {A : Type 0} (x : Cents) → ◌≡◌ {A = Option Cents} none (some x) → A
nothing-some x e = let z : ◌≡◌ {A = ℕ} 0 1 = cc in absurd (omega arith)

-- steps from the minute `low` on
abbrev From : Query → Minute → List Step → Type 0
From q low [] = Unit {0}
From q low (s ∷ ss) = (low ≤ s.minute) × StepsAfter q s ss

steps-from : (q : Query) (ss : List Step) → Steps q ss → From q q.earliest ss
steps-from q [] h = tt
steps-from q (s ∷ ss) h = h

rest_from : (q : Query) (s : Step) (ss : List Step) → StepsAfter q s ss → From q (suc s.minute) ss
rest_from q s [] h = tt
rest_from q s (s' ∷ ss) h = (h.0, h.2)

inside : (q : Query) (s : Step) (ss : List Step) → StepsAfter q s ss → s.minute ≤ q.latest
inside q s [] h = h
inside q s (s' ∷ ss) h = omega (arith, inside q s' ss h.2, h.0)

-- no value before the first step, and its cost at it
before-all : (q : Query) (low : Minute) (ss : List Step) → From q low ss → (t : Minute) → t < low → value ss t ≡ none
before-all q low [] h t l = refl
before-all q low (s ∷ ss) h t l =
    let later : value ss t ≡ none = before-all q (suc s.minute) ss (rest_from q s ss h.1) t (omega (arith, h.0)) in
    let yet : leb s.minute t ≡ false = lt-leb s.minute t (omega (arith, h.0)) in
    ap₂ (λ v b. or_else v (cond b (some s.price) none)) later yet

at_first : (q : Query) (s : Step) (ss : List Step) → StepsAfter q s ss → value (s ∷ ss) s.minute ≡ some s.price
at_first q s ss h =
    let later : value ss s.minute ≡ none = before-all q (suc s.minute) ss (rest_from q s ss h) s.minute (omega arith) in
    let now : leb s.minute s.minute ≡ true = le-leb s.minute s.minute (omega arith) in
    ap₂ (λ v b. or_else v (cond b (some s.price) none)) later now

from_first : (s : Step) (ss : List Step) (t : Minute) → s.minute ≤ t → value (s ∷ ss) t ≡ or_else (value ss t) (some s.price)
from_first s ss t h = ap (λ b. or_else (value ss t) (cond b (some s.price) none)) (le-leb s.minute t h)

-- rule (a): the value x at earliest is a step there with that cost
pub step-at-earliest : (q : Query) (ss : List Step) (x : Cents) → Steps q ss
    → (value ss q.earliest ≡ some x) ↔ ((rest : List Step) × (ss ≡ record { minute = q.earliest; price = x } ∷ rest))
step-at-earliest q [] x h = (λ e. nothing-some x e, λ r. let z : ◌≡◌ {A = ℕ} 0 1 = cc r.1 in absurd (omega arith))
step-at-earliest q (s ∷ ss) x h = (λ e. at e (ℕ_discrete s.minute q.earliest), λ r. back r.0 r.1)
  where
    at : value (s ∷ ss) q.earliest ≡ some x → Dec (s.minute ≡ q.earliest)
        → (rest : List Step) × (s ∷ ss ≡ record { minute = q.earliest; price = x } ∷ rest)
    at e (no n) = nothing-some x (sym (before-all q s.minute (s ∷ ss) (omega arith, h.1) q.earliest (omega (arith, h.0))) ∙ e)
    at e (yes m) =
        let here : some s.price ≡ some x = sym (at_first q s ss h.1) ∙ ap (λ t. value (s ∷ ss) t) m ∙ e in
        let price : s.price ≡ x = cc in
        (ss, λ i. record { minute = m i; price = price i } ∷ ss)

    back : (rest : List Step) → s ∷ ss ≡ record { minute = q.earliest; price = x } ∷ rest → value (s ∷ ss) q.earliest ≡ some x
    back rest e =
        let step : s ≡ record { minute = q.earliest; price = x } = cc in
        ap (λ t. value (s ∷ ss) t) (sym (ap (λ (z : Step). z.minute) step)) ∙ at_first q s ss h.1
        ∙ ap (λ (z : Step). some z.price) step

else-once : (v v' : Option Cents) (x : Cents) → Below v x → Below v' x → or_else v (some x) ≡ or_else v' (some x) → v ≡ v'
else-once none none x h h' e = refl
else-once none (some y) x h h' e = let same : x ≡ y = cc in absurd (omega arith)
else-once (some y) none x h h' e = let same : y ≡ x = cc in absurd (omega arith)
else-once (some y) (some y') x h h' e = e

abbrev SameFrom : Query → Minute → List Step → List Step → Type 0
SameFrom q low ss ss' = (t : Minute) → low ≤ t → t ≤ q.latest → value ss t ≡ value ss' t

first-later : (q : Query) (low : Minute) (s s' : Step) (ss ss' : List Step) → low ≤ s.minute → StepsAfter q s ss → StepsAfter q s' ss'
    → SameFrom q low (s ∷ ss) (s' ∷ ss')
    → s'.minute ≤ s.minute
first-later q low s s' ss ss' l h h' same = at (dec_lt s.minute s'.minute)
  where
    at : Dec (s.minute < s'.minute) → s'.minute ≤ s.minute
    at (no n) = omega arith
    at (yes k) =
        nothing-some s.price
        (sym (before-all q s'.minute (s' ∷ ss') (omega arith, h') s.minute k) ∙ sym (same s.minute l (inside q s ss h)) ∙ at_first q s ss h)

once : (q : Query) (low : Minute) (ss ss' : List Step) → From q low ss → From q low ss' → SameFrom q low ss ss' → ss ≡ ss'
once q low [] [] h h' same = refl
once q low [] (s' ∷ ss') h h' same =
    nothing-some s'.price (same s'.minute h'.0 (inside q s' ss' h'.1) ∙ at_first q s' ss' h'.1)
once q low (s ∷ ss) [] h h' same =
    nothing-some s.price (sym (same s.minute h.0 (inside q s ss h.1)) ∙ at_first q s ss h.1)
once q low (s ∷ ss) (s' ∷ ss') h h' same =
    let when : s.minute ≡ s'.minute =
    omega (
      arith,
      first-later q low s s' ss ss' h.0 h.1 h'.1 same,
      first-later q low s' s ss' ss h'.0 h'.1 h.1 (λ t l k. sym (same t l k)),
    ) in
    let at = at_first q s ss h.1 in
    let at' = at_first q s' ss' h'.1 in
    let here = same s.minute h.0 (inside q s ss h.1) in
    let there = ap (λ t. value (s' ∷ ss') t) when in
    let both : some s.price ≡ some s'.price = sym at ∙ here ∙ there ∙ at' in
    let price : s.price ≡ s'.price = cc in
    let step : s ≡ s' = λ i. record { minute = when i; price = price i } in
    let after = subst (λ x. StepsAfter q x ss') (sym step) h'.1 in
    ap₂ ◌∷◌ step
    (once q (suc s.minute) ss ss' (rest_from q s ss h.1) (rest_from q s ss' after)
    (λ t l k.
    else-once (value ss t) (value ss' t) s.price (after-below q s ss h.1 t) (after-below q s ss' after t)
    (sym (from_first s ss t (omega arith)) ∙ same t (omega (arith, h.0)) k ∙ from_first s' ss' t (omega arith)
    ∙ ap (λ x. or_else (value ss' t) (some x)) (sym price))))

-- the least cost is one value
least-once : (N : Network) (q : Query) (p : ℕ) (t : Minute) (v v' : Option Cents) → LeastCost N q p t v → LeastCost N q p t v' → v ≡ v'
least-once N q p t none none h h' = refl
least-once N q p t none (some y) h h' = absurd (h h'.0.0 h'.0.1)
least-once N q p t (some x) none h h' = absurd (h' h.0.0 h.0.1)
least-once N q p t (some x) (some y) h h' =
    let same : x ≡ y = omega (arith, h.1 h'.0.0 h'.0.1, h'.1 h.0.0 h.0.1, h.0.2, h'.0.2) in
    ap some same

-- THERE IS AT MOST ONE of our sheets
pub our-sheet-once : (N : Network) (q : Query) (x y : List (List Step)) → OurSheet N q x → OurSheet N q y → x ≡ y
our-sheet-once N q x y hx hy =
    ext_get_or [] x y (hx.size ∙ sym hy.size)
    (λ p l.
    let hp : p < N.places = omega (arith, hx.size) in
    once q q.earliest (get_or x p []) (get_or y p []) (steps-from q (get_or x p []) (hx.steps p hp)) (steps-from q (get_or y p []) (hy.steps p hp))
    (λ t early late.
    let win : Within N q p t = record { place = hp; early = early; late = late } in
    least-once N q p t (value_at x p t) (value_at y p t) (hx.costs p t win) (hy.costs p t win)))
