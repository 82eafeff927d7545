-- What the certificate says of values that obey rules (a) and (b): the gate's two halves. Assumes nothing.
use Prim.Native.Nat.{ℕ, ◌+◌, ◌≤◌}
use native.Mathlib.Omega.{arith}
use mathlib.Core.Path.{◌≡◌, refl, subst}
use mathlib.Core.List.{List}
use mathlib.Core.Option.{Option, none, some}
use Rattle.plan.specs.Network.{Minute, Cents, Network, Query, Leaves}
use Rattle.plan.specs.Plan.{Ride, cost, Stands, Feasible}
use Rattle.plan.specs.Sheet.{AtMost, Obeys, TightFor}
use Rattle.plan.proofs.Certificate.{Carries, certificate}

-- the value that is there
pub at-most-value : (v : Option Cents) (x : Cents) → AtMost v x → (y : Cents) × (v ≡ some y) × (y ≤ x)
at-most-value none x h = absurd h
at-most-value (some y) x h = (y, refl, h)

pub at-most-more : (v : Option Cents) (x y : Cents) → x ≤ y → AtMost v x → AtMost v y
at-most-more none x y h a = a
at-most-more (some v) x y h a = omega arith

-- values that stay or fall as one waits
abbrev pub Falls : Query → (ℕ → Minute → Option Cents) → Type 0
Falls q value =
    (p : ℕ) (t u : Minute) (x : Cents) → q.earliest ≤ t → t ≤ u → u ≤ q.latest → value p t ≡ some x → AtMost (value p u) x

module _ (N : Network) (q : Query) (value : ℕ → Minute → Option Cents) (o : Obeys N q value) (falls : Falls q value) where
  values-carry : Carries N q N.toll (λ p t x. AtMost (value p t) x)
  values-carry = record {
    starts = rw o.a (omega arith);
    waits = λ p t u x early h late v. at p t u x early h late (at-most-value (value p t) x v);
    rides = λ l d x go v. ride l d x go (at-most-value (value (N.source l) d) x v);
  }
    where
      at : (p : ℕ) (t u : Minute) (x : Cents) → q.earliest ≤ t → t ≤ u → u ≤ q.latest
          → (y : Cents) × (value p t ≡ some y) × (y ≤ x)
          → AtMost (value p u) x
      at p t u x early h late (y, e, le) = at-most-more (value p u) y x le (falls p t u y early h late e)

      ride : (l : ℕ) (d : Minute) (x : Cents) → Leaves N q l d
          → (y : Cents) × (value (N.source l) d ≡ some y) × (y ≤ x)
          → AtMost (value (N.target l) (d + N.time l)) (x + N.toll l d)
      ride l d x go (y, e, le) =
          at-most-more (value (N.target l) (d + N.time l)) (y + N.toll l d) (x + N.toll l d) (omega arith)
          (o.b l d y go e)

  -- such values are never above the cost of a plan that stands at the place by that minute
  pub values-bound : (plan : List Ride) (p : ℕ) (t : Minute) → Stands N q p t plan → t ≤ q.latest → AtMost (value p t) (cost N plan)
  values-bound = certificate N q N.toll (λ p t x. AtMost (value p t) x) values-carry

  -- and where there is no value there is no such plan
  pub no_value : (plan : List Ride) (p : ℕ) (t : Minute) → value p t ≡ none → Stands N q p t plan → t ≤ q.latest → ⊥
  no_value plan p t e s h = subst (λ (v : Option Cents). AtMost v (cost N plan)) e (values-bound plan p t s h)

  -- a tight sheet: no feasible plan costs less than the stated cost
  pub tight-least : (stated : Cents) → TightFor q value (some stated) → (other : List Ride) → Feasible N q other → stated ≤ cost N other
  tight-least stated e other f =
      subst (λ (v : Option Cents). AtMost v (cost N other)) e (values-bound other q.end q.latest f (omega arith))

  -- a tight sheet for "none": there is no feasible plan
  pub tight-none : TightFor q value none → (other : List Ride) → Feasible N q other → ⊥
  tight-none e other f = no_value other q.end q.latest e f (omega arith)
