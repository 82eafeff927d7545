-- The tie rule is a total order, so there is at most one named plan, and cutting circles never comes after. Assumes nothing.
use Prim.Native.Nat.{ℕ, ◌≤◌, ◌<◌}
use native.Mathlib.Omega.{arith}
use native.Mathlib.Decide.{ℕ_discrete, dec_lt}
use mathlib.Core.Path.{◌≡◌, refl, ap, ap₂, ◌∙◌, subst}
use mathlib.Core.Logic.{◌⊎◌, inl, inr, ⊎_elim}
use mathlib.Core.List.{List, [], ◌∷◌}
use lib.ListN.{length}
use Rattle.plan.specs.Network.{Network, Query, Askable}
use Rattle.plan.specs.Plan.{Ride, arrives}
use Rattle.plan.specs.Tie.{LessThen, BackUpto, Upto, Named}
use Rattle.plan.proofs.Circles.{NoWorse, not-longer, no-worse-stands, cut_short}

-- ---- one number and then the rest

-- the smaller, or equal and the rest holds
pub less_then : (a b : ℕ) {X : Type 0} → a ≤ b → (a ≡ b → X) → LessThen a b X
less_then a b {X} h k = at (ℕ_discrete a b)
  where
    at : Dec (a ≡ b) → LessThen a b X
    at (yes e) = inr (e, k e)
    at (no ne) = inl (omega arith)

pub less-then-le : (a b : ℕ) {X : Type 0} → LessThen a b X → a ≤ b
less-then-le a b (inl l) = omega arith
less-then-le a b (inr (e, x)) = omega arith

less-then-total : (a b : ℕ) {X Y : Type 0} → X ⊎ Y → LessThen a b X ⊎ LessThen b a Y
less-then-total a b {X} {Y} o = at (dec_lt a b) (dec_lt b a)
  where
    at : Dec (a < b) → Dec (b < a) → LessThen a b X ⊎ LessThen b a Y
    at (yes l) d = inl (inl l)
    at (no nl) (yes l) = inr (inl l)
    at (no nl) (no nr) = ⊎_elim (λ x. inl (inr (omega arith, x))) (λ y. inr (inr (omega arith, y))) o

less-then-trans : (a b c : ℕ) {X Y Z : Type 0} → (X → Y → Z) → LessThen a b X → LessThen b c Y → LessThen a c Z
less-then-trans a b c f (inl l) m = let h = less-then-le b c m in inl (omega arith)
less-then-trans a b c f (inr (e, x)) (inl m) = inl (omega arith)
less-then-trans a b c f (inr (e, x)) (inr (g, y)) = inr (e ∙ g, f x y)

-- each way: the numbers are equal, and the rest holds each way
less-then-same : (a b : ℕ) {X Y : Type 0} → LessThen a b X → LessThen b a Y → (a ≡ b) × X × Y
less-then-same a b {X} {Y} (inl l) m = let h = less-then-le b a m in absurd (omega arith)
less-then-same a b {X} {Y} (inr (e, x)) (inl m) = absurd (omega arith)
less-then-same a b (inr (e, x)) (inr (g, y)) = (e, x, y)

-- ---- from the last leg back

back_total : (N : Network) (x y : List Ride) → BackUpto N x y ⊎ BackUpto N y x
back_total N [] y = inl tt
back_total N (r ∷ rs) [] = inr tt
back_total N (r ∷ rs) (s ∷ ss) =
    less-then-total _ _ (less-then-total _ _ (back_total N rs ss))

back-trans : (N : Network) (x y z : List Ride) → BackUpto N x y → BackUpto N y z → BackUpto N x z
back-trans N [] y z h k = tt
back-trans N (r ∷ rs) [] z h k = absurd h
back-trans N (r ∷ rs) (s ∷ ss) [] h k = absurd k
back-trans N (r ∷ rs) (s ∷ ss) (t ∷ ts) h k = at h k (back-trans N rs ss ts)
  where
    at : BackUpto N (r ∷ rs) (s ∷ ss) → BackUpto N (s ∷ ss) (t ∷ ts) → (BackUpto N rs ss → BackUpto N ss ts → BackUpto N rs ts)
        → BackUpto N (r ∷ rs) (t ∷ ts)
    at (inl l) (inl m) f = inl (omega arith)
    at (inl l) (inr (g, y)) f = inl (omega arith)
    at (inr (e, x)) (inl m) f = inl (omega arith)
    at (inr (e, inl l)) (inr (g, inl m)) f = inr (omega arith, inl (omega arith))
    at (inr (e, inl l)) (inr (g, inr (j, y))) f = inr (omega arith, inl (omega arith))
    at (inr (e, inr (i, x))) (inr (g, inl m)) f = inr (omega arith, inl (omega arith))
    at (inr (e, inr (i, x))) (inr (g, inr (j, y))) f = inr (omega arith, inr (omega arith, f x y))

pub back-refl : (N : Network) (x : List Ride) → BackUpto N x x
back-refl N [] = tt
back-refl N (r ∷ rs) = inr (refl, inr (refl, back-refl N rs))

ride-same : (N : Network) (r s : Ride) → r.leg ≡ s.leg → arrives N r ≡ arrives N s → r ≡ s
ride-same N r s e a =
    let d : r.leave ≡ s.leave = omega (arith, ap (λ (l : ℕ). N.time l) e) in
    λ i. record { leg = e i; leave = d i }

back-same : (N : Network) (x y : List Ride) → BackUpto N x y → BackUpto N y x → x ≡ y
back-same N [] [] h k = refl
back-same N [] (s ∷ ss) h k = absurd k
back-same N (r ∷ rs) [] h k = absurd h
back-same N (r ∷ rs) (s ∷ ss) h k =
    let (when, h', k') = less-then-same _ _ h k in
    let (leg, h'', k'') = less-then-same _ _ h' k' in
    ap₂ ◌∷◌ (ride-same N r s (omega (arith, leg)) (omega (arith, when))) (back-same N rs ss h'' k'')

-- ---- the whole rule

module _ (N : Network) (q : Query) where
  pub upto-total : (x y : List Ride) → Upto N q x y ⊎ Upto N q y x
  upto-total x y = less-then-total _ _ (less-then-total _ _ (less-then-total _ _ (back_total N x y)))

  pub upto-trans : (x y z : List Ride) → Upto N q x y → Upto N q y z → Upto N q x z
  upto-trans x y z h k = less-then-trans _ _ _ (less-then-trans _ _ _ (less-then-trans _ _ _ (back-trans N x y z))) h k

  pub upto-same : (x y : List Ride) → Upto N q x y → Upto N q y x → x ≡ y
  upto-same x y h k =
      let (cents, h₁, k₁) = less-then-same _ _ h k in
      let (when, h₂, k₂) = less-then-same _ _ h₁ k₁ in
      let (legs, h₃, k₃) = less-then-same _ _ h₂ k₂ in
      back-same N x y h₃ k₃

  -- AT MOST ONE PLAN is the named one
  pub named-once : (x y : List Ride) → Named N q x → Named N q y → x ≡ y
  named-once x y h k = upto-same x y (h.first y k.feasible) (k.first x h.feasible)

  -- a plan that is no worse does not come after
  pub no-worse-upto : (plan cut : List Ride) → NoWorse N q plan cut → Upto N q cut plan
  no-worse-upto plan cut k =
      let fewer = not-longer N q plan cut k in
      less_then _ _ (k.lighter N.toll) λ _.
      less_then _ _ (omega (arith, k.by, fewer)) λ _.
      less_then _ _ (omega (arith, k.by, fewer)) λ legs.
      ⊎_elim
      (λ (e : cut ≡ plan). subst (λ (x : List Ride). BackUpto N cut x) e (back-refl N cut))
      (λ (l : length cut < length plan). absurd (omega arith))
      k.shorter

  -- THE NAMED PLAN IS SHORT: fewer legs than the network has places
  pub named-short : Askable N q → (plan : List Ride) → Named N q plan → length plan < N.places
  named-short asked plan h =
      let (cut, k, short) = cut_short N q asked.ranges asked.home plan h.feasible.runs in
      let same : cut ≡ plan =
      upto-same cut plan (no-worse-upto plan cut k) (h.first cut (no-worse-stands N q q.end q.latest plan cut k h.feasible)) in
      omega (arith, short, ap length same)
