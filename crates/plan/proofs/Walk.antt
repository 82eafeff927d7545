-- THE WALK BACK. From a minute table the named plan is found leg by leg from the end. Assumes nothing.
--   best-stop    at a cell of 0 the plan is empty
--   best-wait    from a departure to the earliest minute with the same whole cell
--   best-ride    from that minute, an arrival, to the lowest leg that fits
--   best-named   at the end, from the earliest minute with the least cost, it is the named plan
use Prim.Native.Nat.{ℕ, ◌+◌, ◌-◌, ◌/◌, ◌%◌, ◌≤◌, ◌<◌}
use native.Mathlib.Omega.{arith}
use native.Mathlib.Decide.{ℕ_discrete, dec_lt, dec_le}
use mathlib.Core.Path.{◌≡◌, sym, ap, ◌∙◌, subst}
use mathlib.Core.Logic.{◌≢◌, ◌⊎◌, inl, inr}
use mathlib.Core.List.{List, [], ◌∷◌}
use lib.ListN.{length}
use Rattle.plan.specs.Network.{Minute, Network, Query, Askable, Within, Leaves}
use Rattle.plan.specs.Plan.{Ride, arrives, total, cost, Stands}
use Rattle.plan.specs.Tie.{BackUpto}
use Rattle.plan.specs.Table.{no_plan, weight, MinuteTable}
use Rattle.plan.proofs.Standing.{at_source, stands-start, stands-wait, stands-ride, stands-end, before-ride, last-leaves}
use Rattle.plan.proofs.Cells.{Attained, total-weight, light}
use Rattle.plan.proofs.Exact.{table-least, table-obeys, least-most}
use Rattle.plan.proofs.Order.{less_then}

-- The leg l, left for at d, fits the cell of p at the minute a: it arrives there then, and with the cell it leaves from gives this cell.
pub record Fits (N : Network) (q : Query) (c : ℕ → Minute → ℕ) (p : ℕ) (a : Minute) (l : ℕ) (d : Minute) : Type 0 where
  pub leaves : Leaves N q l d
  pub reaches : N.target l ≡ p
  pub arrives : d + N.time l ≡ a
  pub explains : c (N.source l) d + weight N l d ≡ c p a

-- Of all plans that stand at p by t and weigh what the cell says, the first by the tie rule's last part.
pub record Best (N : Network) (q : Query) (c : ℕ → Minute → ℕ) (p : ℕ) (t : Minute) (plan : List Ride) : Type 0 where
  pub stands : Stands N q p t plan
  pub weighs : total (weight N) plan ≡ c p t
  pub first : (other : List Ride) → Stands N q p t other → total (weight N) other ≡ c p t → BackUpto N plan other

-- a is the first minute at which p has the cell that it has at a
abbrev pub FirstAt : Query → (ℕ → Minute → ℕ) → ℕ → Minute → Type 0
FirstAt q c p a = (t : Minute) → q.earliest ≤ t → t < a → c p t ≢ c p a

-- of falling values the one just before tells which is the first of its kind
pub first-of-falling : (low high : Minute) (f : Minute → ℕ) → ((t u : Minute) → low ≤ t → t ≤ u → u ≤ high → f u ≤ f t)
    → (a : Minute) → a ≤ high → (a ≤ low) ⊎ (f (a - 1) ≢ f a)
    → (t : Minute) → low ≤ t → t < a → f t ≢ f a
first-of-falling low high f falls a late (inl h) t early before e = omega arith
first-of-falling low high f falls a late (inr n) t early before e =
    n (omega (arith, falls t (a - 1) early (omega arith) (omega arith), falls (a - 1) a (omega arith) (omega arith) late))

-- a leg that fits, after a plan that stands where it leaves from
fits-stands : (N : Network) (q : Query) (c : ℕ → Minute → ℕ) (p : ℕ) (a : Minute) (l : ℕ) (d : Minute) → Fits N q c p a l d
    → (plan : List Ride) → Stands N q (N.source l) d plan
    → Stands N q p a (record { leg = l; leave = d } ∷ plan)
fits-stands N q c p a l d fit plan s =
    let ride : List Ride = record { leg = l; leave = d } ∷ plan in
    subst (λ (x : ℕ). Stands N q x a ride) fit.reaches
    (subst (λ (x : ℕ). Stands N q (N.target l) x ride) fit.arrives (stands-ride N q l d fit.leaves.known fit.leaves.goes plan s))

module _ (N : Network) (q : Query) (c : ℕ → Minute → ℕ) where
  -- STOP: at the start, where the cell is 0, with no legs
  pub best-stop : (t : Minute) → q.earliest ≤ t → c q.start t ≡ 0 → Best N q c q.start t []
  best-stop t early e = record { stands = stands-start N q t early; weighs = sym e; first = λ other s w. tt }

  -- WAIT: what is best at an earlier minute with the same cell
  pub best-wait : (p : ℕ) (a d : Minute) (plan : List Ride) → a ≤ d → c p a ≡ c p d → Best N q c p a plan → Best N q c p d plan
  best-wait p a d plan h e b = record {
    stands = stands-wait N q p a d plan h b.stands;
    weighs = b.weighs ∙ e;
    first = λ other s w. at plan b.stands b.weighs b.first other s w;
  }
    where
      at : (plan : List Ride) → Stands N q p a plan → total (weight N) plan ≡ c p a
          → ((other : List Ride) → Stands N q p a other → total (weight N) other ≡ c p a → BackUpto N plan other)
          → (other : List Ride) → Stands N q p d other → total (weight N) other ≡ c p d
          → BackUpto N plan other
      at [] sp wp first other s w = tt
      at (r ∷ rs) sp wp first [] s w = absurd (omega arith)
      at (r ∷ rs) sp wp first (o ∷ os) s w = or (dec_le (arrives N o) a)
        where
          or : Dec (arrives N o ≤ a) → BackUpto N (r ∷ rs) (o ∷ os)
          or (yes h) = first (o ∷ os) (stands-wait N q p (arrives N o) a (o ∷ os) h (stands-end N q p d (o ∷ os) s)) (w ∙ sym e)
          or (no n) = inl (omega (arith, sp.by))

module _ (N : Network) (q : Query) (asked : Askable N q) (c : ℕ → Minute → ℕ) (m : MinuteTable N q c) where
  -- a plan that weighs what the cell says has at most 63 legs, so the cell shows its cost and its legs
  pub shown : (p : ℕ) (t : Minute) → Within N q p t → (plan : List Ride) → Stands N q p t plan
      → total (weight N) plan ≡ c p t
      → (length plan < 64) × (c p t / 64 ≡ cost N plan) × (c p t % 64 ≡ length plan)
  shown p t win plan s e =
      let (cut, k, sc, few, small) = light N q asked p t plan s in
      let bound = (table-least N q asked c m p t win).bound cut sc in
      let short : length plan < 64 =
      omega (arith, bound, e, few, total-weight N cut, total-weight N plan, k.lighter N.toll) in
      (short, omega (arith, e, total-weight N plan), omega (arith, e, total-weight N plan))

  -- where the cell first appears, the last ride of a plan that weighs what it says arrives just then and fits
  last_fits : (p : ℕ) (a : Minute) → Within N q p a → FirstAt q c p a
      → (r : Ride) (rs : List Ride) → Stands N q p a (r ∷ rs) → total (weight N) (r ∷ rs) ≡ c p a
      → Fits N q c p a r.leg r.leave × (total (weight N) rs ≡ c (N.source r.leg) r.leave)
  last_fits p a win first r rs s e =
      let obeys = table-obeys N q asked c m in
      let go = last-leaves N q p a r rs s win.late in
      let there-then : Within N q p (arrives N r) =
      record { place = win.place; early = omega (arith, go.early); late = go.late } in
      let bound = (table-least N q asked c m p (arrives N r) there-then).bound (r ∷ rs) (stands-end N q p a (r ∷ rs) s) in
      let wait = obeys.waits p (arrives N r) a win.place there-then.early s.by win.late in
      let punctual : arrives N r ≡ a =
      at (ℕ_discrete (arrives N r) a) there-then.early (omega (arith, bound, e, wait)) (omega (arith, s.by)) in
      let before =
      (table-least N q asked c m (N.source r.leg) r.leave (at_source N q asked r.leg r.leave go)
      ).bound rs (before-ride N q r rs s.runs) in
      let ride = obeys.rides r.leg r.leave go in
      let there : c (N.target r.leg) (arrives N r) ≡ c p a = ap (λ (x : ℕ). c x (arrives N r)) s.there ∙ ap (c p) punctual in (
        record { leaves = go; reaches = s.there; arrives = punctual; explains = omega (arith, before, ride, there, e) },
        omega (arith, before, ride, there, e),
      )
    where
      at : Dec (arrives N r ≡ a) → q.earliest ≤ arrives N r → c p (arrives N r) ≡ c p a → arrives N r ≤ a → arrives N r ≡ a
      at (yes k) h w l = k
      at (no n) h w l = absurd (first (arrives N r) h (omega arith) w)

  -- RIDE: the lowest leg that fits where the cell first appears, after what is best at its departure
  pub best-ride : (p : ℕ) (a : Minute) → Within N q p a → FirstAt q c p a
      → (l : ℕ) (d : Minute) → Fits N q c p a l d → ((l' : ℕ) (d' : Minute) → l' < l → Fits N q c p a l' d' → ⊥)
      → (rest : List Ride) → Best N q c (N.source l) d rest
      → Best N q c p a (record { leg = l; leave = d } ∷ rest)
  best-ride p a win first l d fit lowest rest b = record {
    stands = fits-stands N q c p a l d fit rest b.stands;
    weighs = omega (arith, b.weighs, fit.explains);
    first = at;
  }
    where
      at : (other : List Ride) → Stands N q p a other → total (weight N) other ≡ c p a
          → BackUpto N (record { leg = l; leave = d } ∷ rest) other
      at [] s e = absurd (omega (arith, fit.explains, e))
      at (o ∷ os) s e =
          let (of, before) = last_fits p a win first o os s e in
          let low = lower of (dec_lt o.leg l) in
          less_then _ _ (omega (arith, fit.arrives, of.arrives)) λ same.
          less_then _ _ (omega (arith, low)) λ equal.
          let leg : l ≡ o.leg = omega (arith, equal) in
          let leave : d ≡ o.leave = omega (arith, fit.arrives, of.arrives, ap (λ (x : ℕ). N.time x) leg) in
          b.first os
          (subst (λ (x : ℕ). Stands N q (N.source x) d os) (sym leg)
          (subst (λ (x : ℕ). Stands N q (N.source o.leg) x os) (sym leave) (before-ride N q o os s.runs)))
          (subst (λ (x : ℕ). total (weight N) os ≡ c (N.source x) d) (sym leg)
          (subst (λ (x : ℕ). total (weight N) os ≡ c (N.source o.leg) x) (sym leave) before))
        where
          lower : Fits N q c p a o.leg o.leave → Dec (o.leg < l) → l ≤ o.leg
          lower of (yes h) = absurd (lowest o.leg o.leave h of)
          lower of (no n) = omega arith

  -- there is such a leg where the cell is not 0
  pub some_fits : (p : ℕ) (a : Minute) → Within N q p a → FirstAt q c p a → c p a ≢ no_plan → c p a ≢ 0
      → (l : ℕ) × (d : Minute) × Fits N q c p a l d
  unfolding Attained
  some_fits p a win first n z = at ((table-least N q asked c m p a win).attained n)
    where
      at : (plan : List Ride) × Stands N q p a plan × (total (weight N) plan ≡ c p a) → (l : ℕ) × (d : Minute) × Fits N q c p a l d
      at ([], s, e) = absurd (z (sym e))
      at (r ∷ rs, s, e) = (r.leg, r.leave, (last_fits p a win first r rs s e).0)

  -- the leg count in the cell falls by one at each round, and no cell on the way is `no_plan`
  pub legs-fall : (p : ℕ) (a : Minute) → Within N q p a → c p a ≢ no_plan
      → (l : ℕ) (d : Minute) → Fits N q c p a l d
      → (c (N.source l) d ≢ no_plan) × (c p a % 64 ≡ c (N.source l) d % 64 + 1)
  unfolding Attained
  legs-fall p a win n l d fit =
      let most = least-most N q asked c p a (c p a) (table-least N q asked c m p a win) in
      let some : c (N.source l) d ≢ no_plan = omega (arith, most, n, fit.explains) in
      let (rest, s, e) =
      (table-least N q asked c m (N.source l) d (at_source N q asked l d fit.leaves)
      ).attained some in
      let whole =
      shown p a win (record { leg = l; leave = d } ∷ rest) (fits-stands N q c p a l d fit rest s)
      (omega (arith, e, fit.explains)) in
      (some, omega (arith, whole.0, whole.2, e, total-weight N rest))

  -- a cell that shows no legs is 0, and is the start's
  pub no-legs : (p : ℕ) (t : Minute) → Within N q p t → c p t ≢ no_plan → c p t % 64 ≡ 0
      → (p ≡ q.start) × (c p t ≡ 0)
  unfolding Attained
  no-legs p t win n z = at ((table-least N q asked c m p t win).attained n)
    where
      at : (plan : List Ride) × Stands N q p t plan × (total (weight N) plan ≡ c p t) → (p ≡ q.start) × (c p t ≡ 0)
      at ([], s, e) = (sym s.there, sym e)
      at (r ∷ rs, s, e) = absurd (omega (arith, (shown p t win (r ∷ rs) s e).2, z))
