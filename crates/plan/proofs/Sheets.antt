-- Sheets: values of a sheet stay or fall; the least costs obey rules (a) and (b), so our sheet passes the gate and is tight.
-- Assumes nothing.
use Prim.Native.Nat.{ℕ, ◌+◌, ◌/◌, ◌≤◌, ◌<◌}
use native.Mathlib.Omega.{arith}
use native.Mathlib.Decide.{dec_lt}
use mathlib.Core.Path.{◌≡◌, refl, sym, ap, subst}
use mathlib.Core.Bool.{Bool, true, false, cond}
use mathlib.Core.Option.{Option, none, some}
use mathlib.Core.List.{List, [], ◌∷◌}
use lib.Dec.{T, leb, eqb, leb→le, le→leb}
use lib.ListN.{length, get_or, get_or-eq_default}
use Rattle.plan.specs.Network.{Minute, Cents, Network, Query, Askable, Within}
use Rattle.plan.specs.Plan.{Ride, cost, Stands, Feasible}
use Rattle.plan.specs.Tie.{Named}
use Rattle.plan.specs.Table.{no_plan, MinuteTable}
use Rattle.plan.specs.Sheet.{Step, or_else, value, value_at, StepsAfter, Steps, AtMost, Obeys, TightFor, LeastCost, OurSheet}
use Rattle.plan.proofs.Tests.{Is, eqb_is}
use Rattle.plan.proofs.Standing.{at-start, at-end, at_source, at_target, stands-start, stands-ride}
use Rattle.plan.proofs.Values.{Falls}
use Rattle.plan.proofs.Order.{less-then-le}
use Rattle.plan.proofs.Cells.{Attained, Least}
use Rattle.plan.proofs.Exact.{table-least}
use Rattle.plan.proofs.Walk.{shown}
use Rattle.plan.proofs.Named.{cost-shown}

-- ---- a place's steps

-- if there is a value, it is below x
abbrev pub Below : Option Cents → Cents → Type 0
Below none x = Unit {0}
Below (some y) x = y < x

below-else : (v : Option Cents) (b : Bool) (y x : Cents) → Below v y → y < x → Below (or_else v (cond b (some y) none)) x
below-else none true y x h l = l
below-else none false y x h l = tt
below-else (some v) b y x h l = omega arith

-- what comes after a step costs less
pub after-below : (q : Query) (s : Step) (ss : List Step) → StepsAfter q s ss → (t : Minute) → Below (value ss t) s.price
after-below q s [] h t = tt
after-below q s (s' ∷ ss) h t =
    below-else (value ss t) (leb s'.minute t) s'.price s.price (after-below q s' ss h.2 t) h.1

-- from a step on there is a value of at most its cost
below-at-most : (v : Option Cents) (x : Cents) → Below v x → AtMost (or_else v (some x)) x
below-at-most none x h = omega arith
below-at-most (some y) x h = omega arith

else-at-most : (v w : Option Cents) (x : Cents) → AtMost v x → AtMost (or_else v w) x
else-at-most none w x h = absurd h
else-at-most (some v) w x h = h

-- one step: whether or not it has come at t (b) and at u (b'), and what the later steps give at t (v) and at u (v')
step_falls : (v v' : Option Cents) (b b' : Bool) (price x : Cents) → (T b → T b') → Below v' price
    → ((y : Cents) → v ≡ some y → AtMost v' y)
    → or_else v (cond b (some price) none) ≡ some x
    → AtMost (or_else v' (cond b' (some price) none)) x
step_falls (some y) v' b b' price x f low ih e =
    let same : y ≡ x = cc in
    else-at-most v' (cond b' (some price) none) x (subst (λ (z : Cents). AtMost v' z) same (ih y refl))
step_falls none v' true true price x f low ih e =
    let same : price ≡ x = cc in
    subst (λ (z : Cents). AtMost (or_else v' (some price)) z) same (below-at-most v' price low)
step_falls none v' true false price x f low ih e = absurd (f tt)
step_falls none v' false b' price x f low ih e = let z : ◌≡◌ {A = ℕ} 0 1 = cc in absurd (omega arith)

after-falls : (q : Query) (s : Step) (ss : List Step) → StepsAfter q s ss → (t u : Minute) (x : Cents) → t ≤ u
    → value (s ∷ ss) t ≡ some x
    → AtMost (value (s ∷ ss) u) x
after-falls q s [] h t u x l e =
    step_falls none none (leb s.minute t) (leb s.minute u) s.price x
    (λ b. le→leb s.minute u (omega (arith, leb→le s.minute t b)))
    tt
    (λ y e'. let z : ◌≡◌ {A = ℕ} 0 1 = cc in absurd (omega arith))
    e
after-falls q s (s' ∷ ss) h t u x l e =
    step_falls (value (s' ∷ ss) t) (value (s' ∷ ss) u) (leb s.minute t) (leb s.minute u) s.price x
    (λ b. le→leb s.minute u (omega (arith, leb→le s.minute t b)))
    (after-below q s (s' ∷ ss) h u)
    (λ y e'. after-falls q s' ss h.2 t u y l e')
    e

pub steps-fall : (q : Query) (ss : List Step) → Steps q ss → (t u : Minute) (x : Cents) → t ≤ u → value ss t ≡ some x → AtMost (value ss u) x
steps-fall q [] h t u x l e = let z : ◌≡◌ {A = ℕ} 0 1 = cc in absurd (omega arith)
steps-fall q (s ∷ ss) h t u x l e = after-falls q s ss h.1 t u x l e

-- A SHEET'S VALUES STAY OR FALL, if each place's steps are as described
pub sheet-falls : (q : Query) (sheet : List (List Step)) → ((p : ℕ) → p < length sheet → Steps q (get_or sheet p [])) → Falls q (value_at sheet)
sheet-falls q sheet h p t u x early l late e = steps-fall q (get_or sheet p []) (at (dec_lt p (length sheet))) t u x l e
  where
    at : Dec (p < length sheet) → Steps q (get_or sheet p [])
    at (yes k) = h p k
    at (no n) = subst (λ (ss : List Step). Steps q ss) (sym (get_or-eq_default sheet [] (omega arith))) tt

-- ---- the least costs

least-none : (N : Network) (q : Query) (p : ℕ) (t : Minute) (v : Option Cents) → LeastCost N q p t v → (plan : List Ride) → Stands N q p t plan
    → AtMost v (cost N plan)
least-none N q p t none h plan s = absurd (h plan s)
least-none N q p t (some x) h plan s = h.1 plan s

zero_at_most : (v : Option Cents) → AtMost v 0 → v ≡ some 0
zero_at_most none h = absurd h
zero_at_most (some v) h = let z : v ≡ 0 = omega arith in ap some z

module _ (N : Network) (q : Query) (asked : Askable N q)
    (v : ℕ → Minute → Option Cents)
    (costs : (p : ℕ) (t : Minute) → Within N q p t → LeastCost N q p t (v p t)) where
  -- THE LEAST COSTS OBEY THE RULES
  pub least-obeys : Obeys N q v
  least-obeys = record {
    a = zero_at_most (v q.start q.earliest)
        (least-none N q q.start q.earliest (v q.start q.earliest) (costs q.start q.earliest (at-start N q asked)) []
        (stands-start N q q.earliest (omega arith)));
    b = λ l d x go e.
        let paid = subst (λ (o : Option Cents). LeastCost N q (N.source l) d o) e (costs (N.source l) d (at_source N q asked l d go)) in
        let (plan, s, same) = paid.0 in
        let arrive =
        least-none N q (N.target l) (d + N.time l) (v (N.target l) (d + N.time l))
        (costs (N.target l) (d + N.time l) (at_target N q asked l d go))
        (record { leg = l; leave = d } ∷ plan)
        (stands-ride N q l d go.known go.goes plan s) in
        subst (λ (y : Cents). AtMost (v (N.target l) (d + N.time l)) (y + N.toll l d)) same arrive;
  }

  -- and they are tight: for a plan that none undercuts, and where there is no plan
  pub least-tight : (plan : List Ride) → Feasible N q plan
      → ((other : List Ride) → Feasible N q other → cost N plan ≤ cost N other)
      → TightFor q v (some (cost N plan))
  least-tight plan f least = at (v q.end q.latest) (costs q.end q.latest (at-end N q asked))
    where
      at : (o : Option Cents) → LeastCost N q q.end q.latest o → o ≡ some (cost N plan)
      at none h = absurd (h plan f)
      at (some x) h =
          let (other, s, same) = h.0 in
          let e : x ≡ cost N plan = omega (arith, h.1 plan f, least other s, same) in
          ap some e

  pub none-tight : ((plan : List Ride) → Feasible N q plan → ⊥) → TightFor q v none
  none-tight never = at (v q.end q.latest) (costs q.end q.latest (at-end N q asked))
    where
      at : (o : Option Cents) → LeastCost N q q.end q.latest o → o ≡ none
      at none h = refl
      at (some x) h = absurd (never h.0.0 h.0.1)

-- ---- from the minute table to the least costs

-- the cost that a cell shows
abbrev pub cost_of : ℕ → Option Cents
cost_of cell = cond (eqb cell no_plan) none (some (cell / 64))

module _ (N : Network) (q : Query) (asked : Askable N q) (c : ℕ → Minute → ℕ) (m : MinuteTable N q c) where
  -- A CELL SHOWS THE LEAST COST
  pub cell-cost : (p : ℕ) (t : Minute) → Within N q p t → LeastCost N q p t (cost_of (c p t))
  unfolding Attained
  cell-cost p t win = at (eqb (c p t) no_plan) (eqb_is (c p t) no_plan)
    where
      least : Least N q p t (c p t)
      least = table-least N q asked c m p t win

      at : (b : Bool) → Is b (c p t ≡ no_plan) → LeastCost N q p t (cond b none (some (c p t / 64)))
      at true e = λ plan s. least.there plan s e
      at false ne =
          let (plan, s, e) = least.attained ne in (
            (plan, s, sym (shown N q asked c m p t win plan s e).1),
            λ other so. cost-shown N q asked c m p t win other so,
          )

-- ---- our sheet

module _ (N : Network) (q : Query) (asked : Askable N q) (sheet : List (List Step)) (s : OurSheet N q sheet) where
  pub our-sheet-falls : Falls q (value_at sheet)
  our-sheet-falls = sheet-falls q sheet (λ p h. s.steps p (omega (arith, s.size)))

  -- OUR SHEET OBEYS THE RULES
  pub our-sheet-obeys : Obeys N q (value_at sheet)
  our-sheet-obeys = least-obeys N q asked (value_at sheet) s.costs

  -- AND IS TIGHT for the named plan, or for "none"
  pub our-sheet-tight : (plan : List Ride) → Named N q plan → TightFor q (value_at sheet) (some (cost N plan))
  our-sheet-tight plan h =
      least-tight N q asked (value_at sheet) s.costs plan h.feasible
      (λ other f. less-then-le (cost N plan) (cost N other) (h.first other f))

  pub our-sheet-none : ((plan : List Ride) → Feasible N q plan → ⊥) → TightFor q (value_at sheet) none
  our-sheet-none never = none-tight N q asked (value_at sheet) s.costs never
