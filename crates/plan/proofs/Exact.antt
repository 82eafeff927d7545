-- THE TABLE. Cells that are attained, and obey the rules with weight 64 × toll + 1, hold just what document 01 says;
-- and a minute table is attained and obeys them. Assumes nothing.
use Prim.Native.Nat.{ℕ, ◌+◌, ◌≤◌, ◌<◌}
use native.Mathlib.Omega.{arith}
use native.Mathlib.Decide.{ℕ_discrete}
use mathlib.Core.Path.{◌≡◌}
use mathlib.Core.Logic.{◌≢◌}
use mathlib.Core.List.{List}
use Rattle.plan.specs.Network.{Minute, Network, Query, Askable, Within, Leaves}
use Rattle.plan.specs.Plan.{Ride, total, Stands}
use Rattle.plan.specs.Table.{no_plan, weight, MinuteTable}
use Rattle.plan.proofs.Standing.{at-start, at_source, at_target}
use Rattle.plan.proofs.Certificate.{Carries, certificate}
use Rattle.plan.proofs.Cells.{Attained, attained-start, attained-wait, attained-ride, Least, light, least-cell, cell-least, least-largest}

-- The cells obey the rules: 0 at the start at earliest, no rise by waiting, and no cell above what a leg gives.
-- (`no_plan` plus anything is not below a cell, so nothing is asked about it.)
pub record ObeysCells (N : Network) (q : Query) (c : ℕ → Minute → ℕ) : Type 0 where
  pub starts : c q.start q.earliest ≡ 0
  pub waits : (p : ℕ) (t u : Minute) → p < N.places → q.earliest ≤ t → t ≤ u → u ≤ q.latest → c p u ≤ c p t
  pub rides : (l : ℕ) (d : Minute) → Leaves N q l d
      → c (N.target l) (d + N.time l) ≤ c (N.source l) d + weight N l d

-- Every cell that is not `no_plan` is the weight of a plan.
abbrev pub AttainedCells : Network → Query → (ℕ → Minute → ℕ) → Type 0
AttainedCells N q c = (p : ℕ) (t : Minute) → Within N q p t → c p t ≢ no_plan → Attained N q p t (c p t)

module _ (N : Network) (q : Query) (asked : Askable N q) (c : ℕ → Minute → ℕ) where
  -- the certificate's H for cells
  cells-carry : ObeysCells N q c → Carries N q (weight N) (λ p t x. (p < N.places) × (c p t ≤ x))
  cells-carry o = record {
    starts = (asked.home, omega (arith, o.starts));
    waits = λ p t u x early h late v. (v.0, omega (arith, v.1, o.waits p t u v.0 early h late));
    rides = λ l d x go v.
        (asked.ranges.targets l go.known, omega (arith, v.1, o.rides l d go));
  }

  -- no cell is above the weight of a plan that stands there
  pub cells-bound : ObeysCells N q c → (plan : List Ride) (p : ℕ) (t : Minute) → Stands N q p t plan → t ≤ q.latest
      → c p t ≤ total (weight N) plan
  cells-bound o plan p t s h = (certificate N q (weight N) (λ p t x. (p < N.places) × (c p t ≤ x)) (cells-carry o) plan p t s h).1

  pub cells-least : AttainedCells N q c → ObeysCells N q c → (p : ℕ) (t : Minute) → Within N q p t
      → Least N q p t (c p t)
  cells-least a o p t win = record {
    attained = a p t win;
    bound = λ plan s. cells-bound o plan p t s win.late;
    there = λ plan s.
        let (k, m, sk, few, small) = light N q asked p t plan s in
        omega (arith, small, cells-bound o k p t sk win.late);
  }

  -- THE TABLE'S LAW
  pub exact : AttainedCells N q c → ObeysCells N q c → MinuteTable N q c
  exact a o p t win = least-cell N q asked p t (c p t) (cells-least a o p t win)

  -- what a minute table gives back
  pub table-least : MinuteTable N q c → (p : ℕ) (t : Minute) → Within N q p t → Least N q p t (c p t)
  table-least m p t win = cell-least N q asked p t (c p t) (m p t win)

  pub table-attained : MinuteTable N q c → AttainedCells N q c
  table-attained m p t win = (table-least m p t win).attained

  -- THE LEAST VALUES OBEY THE RULES
  least-below : MinuteTable N q c → (p : ℕ) (t : Minute) (v : ℕ) → Within N q p t
      → Attained N q p t v → c p t ≤ v
  unfolding Attained
  least-below m p t v win (plan, s, e) = omega (arith, (table-least m p t win).bound plan s, e)

  -- no value is above `no_plan`
  pub least-most : (p : ℕ) (t : Minute) (v : ℕ) → Least N q p t v → v ≤ no_plan
  least-most p t v k = at (ℕ_discrete v no_plan)
    where
      at : Dec (v ≡ no_plan) → v ≤ no_plan
      at (yes e) = omega arith
      at (no ne) = omega (arith, least-largest N q asked p t v k ne)

  pub table-obeys : MinuteTable N q c → ObeysCells N q c
  table-obeys m = record {
    starts = omega (arith, least-below m q.start q.earliest 0 (at-start N q asked) (attained-start N q q.earliest (omega arith)));
    waits = λ p t u hp early h late. wait p t u hp early h late (ℕ_discrete (c p t) no_plan);
    rides = λ l d go. ride l d go (ℕ_discrete (c (N.source l) d) no_plan);
  }
    where
      wait : (p : ℕ) (t u : Minute) → p < N.places → q.earliest ≤ t → t ≤ u → u ≤ q.latest → Dec (c p t ≡ no_plan) → c p u ≤ c p t
      wait p t u hp early h late (yes e) =
          omega (arith, e, least-most p u (c p u) (table-least m p u (record { place = hp; early = omega arith; late = late })))
      wait p t u hp early h late (no ne) =
          least-below m p u (c p t) (record { place = hp; early = omega arith; late = late })
          (attained-wait N q p t u (c p t) h (table-attained m p t (record { place = hp; early = early; late = omega arith }) ne))

      ride : (l : ℕ) (d : Minute) → Leaves N q l d
          → Dec (c (N.source l) d ≡ no_plan)
          → c (N.target l) (d + N.time l) ≤ c (N.source l) d + weight N l d
      ride l d go (yes e) =
          omega (
            arith,
            e,
            least-most (N.target l) (d + N.time l) (c (N.target l) (d + N.time l))
                (table-least m (N.target l) (d + N.time l) (at_target N q asked l d go)),
          )
      ride l d go (no ne) =
          least-below m (N.target l) (d + N.time l) (c (N.source l) d + weight N l d) (at_target N q asked l d go)
          (attained-ride N q l d (c (N.source l) d) go.known go.goes
          (table-attained m (N.source l) d (at_source N q asked l d go) ne))
