-- THE CERTIFICATE. What holds at the start, and survives waiting and riding each leg, holds of every plan.
-- The gate, the table and the sheet each cite it with a relation H of their own. Assumes nothing.
use Prim.Native.Nat.{ℕ, ◌+◌, ◌≤◌}
use native.Mathlib.Omega.{arith}
use mathlib.Core.Path.{subst}
use mathlib.Core.List.{List, [], ◌∷◌}
use Rattle.plan.specs.Network.{Minute, Network, Query, Leaves}
use Rattle.plan.specs.Plan.{Ride, arrives, total, Stands}
use Rattle.plan.proofs.Standing.{before-ride, last-leaves}

-- What the certificate asks of H p t x, "there is a value at p and t, and it is at most x".
pub record Carries (N : Network) (q : Query) (w : ℕ → Minute → ℕ) (H : ℕ → Minute → ℕ → Type 0) : Type 0 where
  pub starts : H q.start q.earliest 0
  pub waits : (p : ℕ) (t u : Minute) (x : ℕ) → q.earliest ≤ t → t ≤ u → u ≤ q.latest → H p t x → H p u x
  pub rides : (l : ℕ) (d : Minute) (x : ℕ) → Leaves N q l d
      → H (N.source l) d x → H (N.target l) (d + N.time l) (x + w l d)

module _ (N : Network) (q : Query) (w : ℕ → Minute → ℕ) (H : ℕ → Minute → ℕ → Type 0) (c : Carries N q w H) where
  pub certificate : (plan : List Ride) (p : ℕ) (t : Minute) → Stands N q p t plan → t ≤ q.latest → H p t (total w plan)
  certificate [] p t s h =
      subst (λ (x : ℕ). H x t 0) s.there (c.waits q.start q.earliest t 0 (omega arith) (omega (arith, s.by)) h c.starts)
  certificate (r ∷ rs) p t s h =
      let x : ℕ = total w rs + w r.leg r.leave in
      let go = last-leaves N q p t r rs s h in
      let before = certificate rs (N.source r.leg) r.leave (before-ride N q r rs s.runs) (omega (arith, go.late)) in
      let there = c.rides r.leg r.leave (total w rs) go before in
      subst (λ (z : ℕ). H z t x) s.there
      (c.waits (N.target r.leg) (arrives N r) t x (omega (arith, go.early)) (omega (arith, s.by)) h there)
