-- What an accepted plan is, and what is accepted: the gate's promises, from its answer and the theory. Assumes nothing.
use Prim.Native.Nat.{ℕ, ◌≤◌}
use native.Mathlib.Omega.{arith}
use mathlib.Core.Path.{◌≡◌, refl, sym, ◌∙◌, ap, subst}
use mathlib.Core.Logic.{inl, inr, ◌↔◌}
use mathlib.Core.Option.{Option, some}
use mathlib.Core.List.{List}
use Rattle.std.specs.Prelude.{Ok, Err}
use Rattle.answer.specs.declared.Refusal.{Refusal}
use Rattle.source.specs.Source.{file_of}
use Rattle.network.specs.Reading.{Found, refused, found}
use Rattle.network.specs.Network.{Network as NetworkFile, of_file}
use Rattle.network.proofs.Sound.{network-sound}
use Rattle.plan.specs.Network.{Cents, Network, Query, Askable}
use Rattle.plan.specs.Plan.{Ride, cost, Feasible}
use Rattle.plan.specs.Sheet.{Step, value_at, Obeys, TightFor, OurSheet}
use Rattle.plan.proofs.Values.{Falls, tight-least, tight-none}
use Rattle.plan.proofs.Sheets.{sheet-falls, least-tight, our-sheet-obeys, our-sheet-none}
use Rattle.plan_file.specs.PlanFile.{PlanFile, stated}
use Rattle.plan_file.proofs.Files.{one-plan, stated-none, stated-some}
use Rattle.plan_reader.specs.InPlace.{Says}
use Rattle.sheet_file.specs.SheetFile.{sheet_of}
use Rattle.sheet_file.proofs.Found.{sheet-steps, sheet-size}
use Rattle.chart.specs.Net.{theory}
use Rattle.chart.proofs.Net.{sound-ranges}
use Rattle.gate.specs.Gate.{GateAnswer, Known, Costs, Holds, OfSheet, OfPlan, OfFiles, OfNetwork, GateSays}

-- done is no refusal
done-not : {A : Type 0} (why : Refusal) → ◌≡◌ {A = GateAnswer} (Ok tt) (Err why) → A
done-not why e = let z : ◌≡◌ {A = ℕ} 0 1 = cc in absurd (omega arith)

-- what is so of the three files when the answer is 0: nothing that document 01 names applies
pub record Accepts (net plan sheet : List ℕ) : Type 0 where
  pub network : NetworkFile
  pub network_end : ℕ
  pub network_is : of_file net ≡ found network network_end
  pub file : PlanFile
  pub says : Says plan file
  pub known : Known network.places file.query
  pub window : file.query.earliest ≤ file.query.latest
  pub holds : Holds (theory network) file
  pub steps : List (List Step)
  pub steps_end : ℕ
  pub steps_is : sheet_of network.places file.query sheet ≡ found steps steps_end
  pub obeys : Obeys (theory network) file.query (value_at steps)
  pub tight : TightFor file.query (value_at steps) (stated file)

-- ---- 0 exactly when

module _ (net plan sheet : List ℕ) where
  accepted : GateSays net plan sheet (Ok tt) → Accepts net plan sheet
  accepted g = of-network (of_file net) refl g
    where
      of-sheet : (n : NetworkFile) (end : ℕ) → of_file net ≡ found n end → (f : PlanFile) → Says plan f → Known n.places f.query
          → f.query.earliest ≤ f.query.latest → Holds (theory n) f
          → (x : Found (List (List Step))) → sheet_of n.places f.query sheet ≡ x
          → OfSheet (Ok tt) (theory n) f.query (stated f) x
          → Accepts net plan sheet
      of-sheet n end is f s k w h (refused why) at e = done-not Refusal.SheetFile e
      of-sheet n end is f s k w h (found ss last) at (inr (no-rules, e)) = done-not Refusal.Rules e
      of-sheet n end is f s k w h (found ss last) at (inl (o, inr (loose, e))) = done-not Refusal.Loose e
      of-sheet n end is f s k w h (found ss last) at (inl (o, inl (t, e))) = record {
        network = n;
        network_end = end;
        network_is = is;
        file = f;
        says = s;
        known = k;
        window = w;
        holds = h;
        steps = ss;
        steps_end = last;
        steps_is = at;
        obeys = o;
        tight = t;
      }

      of-plan : (n : NetworkFile) (end : ℕ) → of_file net ≡ found n end → (f : PlanFile) → Says plan f → OfPlan (Ok tt) n f sheet
          → Accepts net plan sheet
      of-plan n end is f s (inr (x, e)) = done-not Refusal.Query e
      of-plan n end is f s (inl (k, inr (x, e))) = done-not Refusal.Window e
      of-plan n end is f s (inl (k, inl (w, inr (x, e)))) = done-not Refusal.Plan e
      of-plan n end is f s (inl (k, inl (w, inl (h, o)))) = of-sheet n end is f s k w h (sheet_of n.places f.query sheet) refl o

      of-network : (x : Found NetworkFile) → of_file net ≡ x → OfNetwork (Ok tt) x plan sheet → Accepts net plan sheet
      of-network (refused why) is e = done-not why e
      of-network (found n end) is (inr (x, e)) = done-not Refusal.PlanFile e
      of-network (found n end) is (inl (f, s, o)) = of-plan n end is f s o

  accepts : (r : GateAnswer) → GateSays net plan sheet r → Accepts net plan sheet → r ≡ Ok tt
  accepts r g a = of-files (subst (λ x. OfNetwork r x plan sheet) a.network_is g)
    where
      of-sheet : OfSheet r (theory a.network) a.file.query (stated a.file) (found a.steps a.steps_end) → r ≡ Ok tt
      of-sheet (inr (x, e)) = absurd (x a.obeys)
      of-sheet (inl (o, inr (x, e))) = absurd (x a.tight)
      of-sheet (inl (o, inl (t, e))) = e

      of-plan : OfPlan r a.network a.file sheet → r ≡ Ok tt
      of-plan (inr (x, e)) = absurd (x a.known)
      of-plan (inl (k, inr (x, e))) = absurd (x a.window)
      of-plan (inl (k, inl (w, inr (x, e)))) = absurd (x a.holds)
      of-plan (inl (k, inl (w, inl (h, o)))) =
          of-sheet (subst (λ x. OfSheet r (theory a.network) a.file.query (stated a.file) x) a.steps_is o)

      of-files : OfFiles r a.network plan sheet → r ≡ Ok tt
      of-files (inr (x, e)) = absurd (x a.file a.says)
      of-files (inl (f, s, o)) =
          of-plan (subst (λ (g : PlanFile). OfPlan r a.network g sheet) (one-plan f a.file plan s.file a.says.file) o)

  -- THE GATE ANSWERS 0 EXACTLY WHEN the plan is feasible with its stated cost, or is "none", the sheet obeys the rules, and it is tight
  pub zero-when : (r : GateAnswer) → GateSays net plan sheet r → (r ≡ Ok tt) ↔ Accepts net plan sheet
  zero-when r g = (λ e. accepted (subst (λ (x : GateAnswer). GateSays net plan sheet x) e g), accepts r g)

-- ---- accepted means cheapest

pub askable : (net : List ℕ) (n : NetworkFile) (end : ℕ) (q : Query) → of_file net ≡ found n end → Known n.places q → q.earliest ≤ q.latest
    → Askable (theory n) q
askable net n end q is k w =
    record {
      ranges = sound-ranges n (network-sound (file_of net) n end is);
      home = k.start;
      goal = k.end;
      window = w;
    }

module _ (net plan sheet : List ℕ) (a : Accepts net plan sheet) where
  falls : Falls a.file.query (value_at a.steps)
  falls =
      sheet-falls a.file.query a.steps
      (λ p low.
      sheet-steps a.network.places a.file.query sheet a.steps a.steps_end a.steps_is p
      (omega (arith, sheet-size a.network.places a.file.query sheet a.steps a.steps_end a.steps_is)))

  -- AN ACCEPTED PLAN is feasible at the cost that it states, and no feasible plan costs less
  pub accepted-least : a.file.verdict ≡ 1
      → Feasible (theory a.network) a.file.query a.file.rides × (cost (theory a.network) a.file.rides ≡ a.file.price)
      × ((other : List Ride) → Feasible (theory a.network) a.file.query other → a.file.price ≤ cost (theory a.network) other)
  accepted-least v =
      let c = a.holds v in
      let some-cost = stated-some a.file.verdict a.file.price (λ z. omega arith) in (
        c.feasible,
        c.sum,
        tight-least (theory a.network) a.file.query (value_at a.steps) a.obeys falls a.file.price (a.tight ∙ some-cost),
      )

  -- AN ACCEPTED "NONE": there is no feasible plan
  pub accepted-none : a.file.verdict ≡ 0 → (other : List Ride) → Feasible (theory a.network) a.file.query other → ⊥
  accepted-none v =
      tight-none (theory a.network) a.file.query (value_at a.steps) a.obeys falls
      (a.tight ∙ stated-none a.file.verdict a.file.price v)

-- ---- with our sheet what is true is accepted

module _ (net plan sheet : List ℕ) (n : NetworkFile) (end : ℕ) (is : of_file net ≡ found n end) (f : PlanFile) (says : Says plan f)
    (known : Known n.places f.query) (window : f.query.earliest ≤ f.query.latest)
    (steps : List (List Step)) (last : ℕ) (steps_is : sheet_of n.places f.query sheet ≡ found steps last) (ours : OurSheet (theory n) f.query steps)
    (r : GateAnswer) (g : GateSays net plan sheet r) where
  all : Holds (theory n) f → TightFor f.query (value_at steps) (stated f) → r ≡ Ok tt
  all h t =
      (zero-when net plan sheet r g).1 (record {
        network = n;
        network_end = end;
        network_is = is;
        file = f;
        says = says;
        known = known;
        window = window;
        holds = h;
        steps = steps;
        steps_end = last;
        steps_is = steps_is;
        obeys = our-sheet-obeys (theory n) f.query (askable net n end f.query is known window) steps ours;
        tight = t;
      })

  -- WITH OUR SHEET each feasible plan of least cost that states that cost is accepted, whoever made it
  pub least-accepted : f.verdict ≡ 1 → Costs (theory n) f
      → ((other : List Ride) → Feasible (theory n) f.query other → cost (theory n) f.rides ≤ cost (theory n) other)
      → r ≡ Ok tt
  least-accepted v c least =
      all (λ _. c)
      (least-tight (theory n) f.query (askable net n end f.query is known window) (value_at steps) ours.costs f.rides c.feasible least
      ∙ ap some c.sum ∙ sym (stated-some f.verdict f.price (λ z. omega arith)))

  -- and "none" whenever that is true
  pub none-accepted : f.verdict ≡ 0 → ((other : List Ride) → Feasible (theory n) f.query other → ⊥) → r ≡ Ok tt
  none-accepted v never =
      all (λ one. absurd (omega arith))
      (our-sheet-none (theory n) f.query (askable net n end f.query is known window) steps ours never
      ∙ sym (stated-none f.verdict f.price v))

-- ---- one answer

-- THE PROMISE DETERMINES THE ANSWER on every input
pub one_answer : (net plan sheet : List ℕ) (r r' : GateAnswer) → GateSays net plan sheet r → GateSays net plan sheet r' → r ≡ r'
one_answer net plan sheet r r' g g' = of-network (of_file net) g g'
  where
    of-sheet : (N : Network) (q : Query) (c : Option Cents) (x : Found (List (List Step))) → OfSheet r N q c x → OfSheet r' N q c x → r ≡ r'
    of-sheet N q c (refused why) e e' = e ∙ sym e'
    of-sheet N q c (found ss last) (inr (x, e)) (inr (y, e')) = e ∙ sym e'
    of-sheet N q c (found ss last) (inr (x, e)) (inl (o, t)) = absurd (x o)
    of-sheet N q c (found ss last) (inl (o, t)) (inr (y, e')) = absurd (y o)
    of-sheet N q c (found ss last) (inl (o, inr (x, e))) (inl (o', inr (y, e'))) = e ∙ sym e'
    of-sheet N q c (found ss last) (inl (o, inr (x, e))) (inl (o', inl (t, e'))) = absurd (x t)
    of-sheet N q c (found ss last) (inl (o, inl (t, e))) (inl (o', inr (y, e'))) = absurd (y t)
    of-sheet N q c (found ss last) (inl (o, inl (t, e))) (inl (o', inl (t', e'))) = e ∙ sym e'

    of-plan : (n : NetworkFile) (f : PlanFile) → OfPlan r n f sheet → OfPlan r' n f sheet → r ≡ r'
    of-plan n f (inr (x, e)) (inr (y, e')) = e ∙ sym e'
    of-plan n f (inr (x, e)) (inl (k, o)) = absurd (x k)
    of-plan n f (inl (k, o)) (inr (y, e')) = absurd (y k)
    of-plan n f (inl (k, inr (x, e))) (inl (k', inr (y, e'))) = e ∙ sym e'
    of-plan n f (inl (k, inr (x, e))) (inl (k', inl (w, o))) = absurd (x w)
    of-plan n f (inl (k, inl (w, o))) (inl (k', inr (y, e'))) = absurd (y w)
    of-plan n f (inl (k, inl (w, inr (x, e)))) (inl (k', inl (w', inr (y, e')))) = e ∙ sym e'
    of-plan n f (inl (k, inl (w, inr (x, e)))) (inl (k', inl (w', inl (h, o)))) = absurd (x h)
    of-plan n f (inl (k, inl (w, inl (h, o)))) (inl (k', inl (w', inr (y, e')))) = absurd (y h)
    of-plan n f (inl (k, inl (w, inl (h, o)))) (inl (k', inl (w', inl (h', o')))) =
        of-sheet (theory n) f.query (stated f) (sheet_of n.places f.query sheet) o o'

    of-network : (x : Found NetworkFile) → OfNetwork r x plan sheet → OfNetwork r' x plan sheet → r ≡ r'
    of-network (refused why) e e' = e ∙ sym e'
    of-network (found n end) (inr (x, e)) (inr (y, e')) = e ∙ sym e'
    of-network (found n end) (inr (x, e)) (inl (f, s, o)) = absurd (x f s)
    of-network (found n end) (inl (f, s, o)) (inr (y, e')) = absurd (y f s)
    of-network (found n end) (inl (f, s, o)) (inl (f', s', o')) =
        of-plan n f o (subst (λ (h : PlanFile). OfPlan r' n h sheet) (one-plan f' f plan s'.file s.file) o')
