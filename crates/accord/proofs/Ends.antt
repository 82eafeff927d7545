-- OUR SHEET GOES BY THE START AND THE WINDOW ALONE, so one sheet serves every end. Assumes nothing.
use Prim.Native.Nat.{ℕ}
use native.Mathlib.Omega.{arith}
use mathlib.Core.Path.{◌≡◌, refl, sym, ◌∙◌}
use mathlib.Core.Option.{Option, none, some}
use mathlib.Core.List.{List, [], ◌∷◌}
use lib.ListN.{get_or}
use Rattle.plan.specs.Network.{Minute, Cents, Network, Query}
use Rattle.plan.specs.Plan.{Ride, place, arrival, Runs, Stands}
use Rattle.plan.specs.Sheet.{Step, StepsAfter, Steps, LeastCost, OurSheet, value_at}
use Rattle.accord.specs.Accord.{toward}

module _ (N : Network) (q : Query) (other : ℕ) where
  after-toward : (s : Step) (ss : List Step) → StepsAfter (toward q other) s ss → StepsAfter q s ss
  after-toward s [] h = h
  after-toward s (s' ∷ ss) h = (h.0, h.1, after-toward s' ss h.2)

  steps-toward : (ss : List Step) → Steps (toward q other) ss → Steps q ss
  steps-toward [] h = tt
  steps-toward (s ∷ ss) h = (h.0, after-toward s ss h.1)

  place-toward : (plan : List Ride) → place N (toward q other) plan ≡ place N q plan
  place-toward [] = refl
  place-toward (r ∷ rs) = refl

  arrival-toward : (plan : List Ride) → arrival N (toward q other) plan ≡ arrival N q plan
  arrival-toward [] = refl
  arrival-toward (r ∷ rs) = refl

  runs-toward : (plan : List Ride) → Runs N (toward q other) plan → Runs N q plan
  runs-toward [] h = tt
  runs-toward (r ∷ rs) (f, h) =
      (record { known = f.known; goes = f.goes; here = f.here ∙ place-toward rs; after = omega (arith, f.after, arrival-toward rs) }, runs-toward rs h)

  stands-toward : (p : ℕ) (t : Minute) (plan : List Ride) → Stands N (toward q other) p t plan → Stands N q p t plan
  stands-toward p t plan h =
      record { runs = runs-toward plan h.runs; there = sym (place-toward plan) ∙ h.there; by = omega (arith, h.by, arrival-toward plan) }

module _ (N : Network) (q : Query) (other : ℕ) where
  least-toward : (p : ℕ) (t : Minute) (v : Option Cents) → LeastCost N (toward q other) p t v → LeastCost N q p t v
  least-toward p t none h = λ plan stands. h plan (stands-toward N (toward q other) q.end p t plan stands)
  least-toward p t (some x) ((plan, stands, sum), least) =
      ((plan, stands-toward N q other p t plan stands, sum), λ plan' stands'. least plan' (stands-toward N (toward q other) q.end p t plan' stands'))

  pub ours-toward : (sheet : List (List Step)) → OurSheet N (toward q other) sheet → OurSheet N q sheet
  ours-toward sheet o = record {
    size = o.size;
    steps = λ p low. steps-toward N q other (get_or sheet p []) (o.steps p low);
    costs = λ p t w. least-toward p t (value_at sheet p t) (o.costs p t (record { place = w.place; early = w.early; late = w.late }));
  }
