use Rattle.plan.proofs.Walk.{Fits}
use Rattle.walk.specs.Walk.{theory_of, asked_of, cells_of}
use Prim.Native.Nat.{ℕ, ◌<◌}
use Rattle.walk.proofs.Walk.find_leg.Given as goal

abbrev pub invariant-loop-k : goal.invariant-loop-k
invariant-loop-k l =
    (m d : ℕ) → m < l.k → Fits (theory_of l.self) (asked_of l.self) (cells_of l.self) l.place l.arrival.0 m d → ⊥
