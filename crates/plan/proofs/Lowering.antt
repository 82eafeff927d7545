-- What the table's code keeps as it lowers cells: each is the weight of a plan. The code itself need not speak of plans. Assumes nothing.
use Prim.Native.Nat.{ℕ, ◌+◌, ◌≤◌}
use native.Mathlib.Omega.{arith}
use mathlib.Core.Path.{◌≡◌, sym, subst}
use mathlib.Core.Logic.{◌⊎◌, inl, inr}
use Rattle.plan.specs.Network.{Minute, Network, Query, Askable, Within, Leaves}
use Rattle.plan.specs.Table.{no_plan, weight}
use Rattle.plan.proofs.Standing.{at_source}
use Rattle.plan.proofs.Cells.{Attained, attained-start, attained-wait, attained-ride}
use Rattle.plan.proofs.Exact.{AttainedCells}

-- v is the cell of p at t or at an earlier minute
pub record Waited (q : Query) (c : ℕ → Minute → ℕ) (p : ℕ) (t : Minute) (v : ℕ) : Type 0 where
  pub since : Minute
  pub early : q.earliest ≤ since
  pub before : since ≤ t
  pub cell : v ≡ c p since

-- v is what a leg gives that arrives at p at or before t
pub record Ridden (N : Network) (q : Query) (c : ℕ → Minute → ℕ) (p : ℕ) (t : Minute) (v : ℕ) : Type 0 where
  pub leg : ℕ
  pub leave : Minute
  pub leaves : Leaves N q leg leave
  pub reaches : N.target leg ≡ p
  pub arrives : leave + N.time leg ≤ t
  pub cell : v ≡ c (N.source leg) leave + weight N leg leave

-- one lowering: each cell is kept, or is one that waiting or a leg gives from the cells before, and no more than `no_plan`
abbrev pub Lowered : Network → Query → (ℕ → Minute → ℕ) → (ℕ → Minute → ℕ) → Type 0
Lowered N q c c' =
    (p : ℕ) (t : Minute) → Within N q p t → (c' p t ≤ no_plan) × (Waited q c p t (c' p t) ⊎ Ridden N q c p t (c' p t))

module _ (N : Network) (q : Query) (asked : Askable N q) where
  -- the table at the outset: 0 in the start's row, and no plan elsewhere
  pub outset-attained : (c : ℕ → Minute → ℕ)
      → ((p : ℕ) (t : Minute) → Within N q p t → ((p ≡ q.start) × (c p t ≡ 0)) ⊎ (c p t ≡ no_plan))
      → AttainedCells N q c
  outset-attained c h p t win n = at (h p t win)
    where
      at : ((p ≡ q.start) × (c p t ≡ 0)) ⊎ (c p t ≡ no_plan) → Attained N q p t (c p t)
      at (inl (here, free)) =
          subst (λ (x : ℕ). Attained N q x t (c p t)) (sym here)
          (subst (λ (v : ℕ). Attained N q q.start t v) (sym free) (attained-start N q t win.early))
      at (inr e) = absurd (n e)

  -- A LOWERING KEEPS IT
  pub lowered-attained : (c c' : ℕ → Minute → ℕ) → AttainedCells N q c → Lowered N q c c' → AttainedCells N q c'
  lowered-attained c c' a h p t win n = at (h p t win).0 (h p t win).1
    where
      at : c' p t ≤ no_plan → Waited q c p t (c' p t) ⊎ Ridden N q c p t (c' p t) → Attained N q p t (c' p t)
      at most (inl w) =
          attained-wait N q p w.since t (c' p t) w.before
          (subst (λ (v : ℕ). Attained N q p w.since v) (sym w.cell)
          (a p w.since (record { place = win.place; early = w.early; late = omega (arith, w.before, win.late) })
          (λ e. n (omega (arith, w.cell, e)))))
      at most (inr r) =
          let before =
          a (N.source r.leg) r.leave (at_source N q asked r.leg r.leave r.leaves)
          (omega (arith, r.cell, most, n)) in
          let ride = attained-ride N q r.leg r.leave (c (N.source r.leg) r.leave) r.leaves.known r.leaves.goes before in
          attained-wait N q p (r.leave + N.time r.leg) t (c' p t) r.arrives
          (subst (λ (v : ℕ). Attained N q p (r.leave + N.time r.leg) v) (sym r.cell)
          (subst
          (λ (x : ℕ). Attained N q x (r.leave + N.time r.leg) (c (N.source r.leg) r.leave + weight N r.leg r.leave))
          r.reaches ride))
