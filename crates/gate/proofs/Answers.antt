-- From what was decided to the gate's answer. Assumes nothing.
use Prim.Native.Nat.{ℕ, ◌≤◌, ◌<◌}
use native.Mathlib.Omega.{arith}
use mathlib.Core.Path.{◌≡◌, refl, sym, ◌∙◌, ap, subst}
use mathlib.Core.Bool.{Bool, true, false, ◌&&◌}
use mathlib.Core.Logic.{inl, inr}
use borrow.Author.Tests.{leb-true, ltb-true, le-leb, lt-ltb}
use lib.Dec.{leb, ltb}
use Rattle.leg.specs.Ranges.{last_minute}
use Rattle.source.proofs.Laws.{both_true}
use Rattle.plan_file.specs.Known.{known}
use Rattle.rule_b.specs.Rule.{Is}
use mathlib.Core.Option.{Option}
use mathlib.Core.List.{List, []}
use lib.ListN.{get_or}
use Rattle.std.specs.Prelude.{Option as Maybe, Some, None, Ok, Err}
use Rattle.answer.specs.declared.Refusal.{Refusal}
use Rattle.network.specs.Reading.{Found, refused, found}
use Rattle.network.specs.Network.{Network as NetworkFile, of_file}
use Rattle.plan.specs.Network.{Cents, Network, Query}
use Rattle.plan.specs.Sheet.{Step, value_at, Steps, Obeys, TightFor}
use Rattle.plan_file.specs.PlanFile.{PlanFile, stated}
use Rattle.sheet_file.specs.SheetFile.{sheet_of}
use Rattle.leg.specs.declared.Window.{Window}
use Rattle.sheet_file.specs.declared.sound_sheet.SoundSheet.{SoundSheet}
use Rattle.sheet_file.specs.Judged.{HandedOn, Judged}
use Rattle.sheet_file.specs.Window.{window, of_window}
use Rattle.sheet_file.proofs.Found.{sheet-window, sheet-steps}
use Rattle.network.specs.declared.Size.{Size}
use Rattle.network.specs.Answers.{network_found}
use Rattle.chart.specs.Net.{net_in, theory}
use Rattle.chart.proofs.Net.{places-are}
use Rattle.gate.specs.Gate.{GateAnswer, Known, Holds, OfSheet, OfPlan, OfFiles, OfNetwork}
use Rattle.gate.specs.Parts.{sheet_at}

-- ---- the sheet file

-- what its judging tells of the sheet that was found or not, for the query's own window
pub judged-at : (net s : List ℕ) (places : ℕ) (w : Window) (q : Query) (r found_or_none : Maybe SoundSheet) → r ≡ found_or_none → places ≡ (net_in net).places
    → of_window w ≡ window q.earliest q.latest
    → Judged s places w (sheet_of places (of_window w) s) r
    → Judged s (net_in net).places w (sheet_at net s q) found_or_none
judged-at net s places w q r found_or_none is e same j =
    subst (Judged s (net_in net).places w (sheet_at net s q)) is
    (subst (λ x. Judged s (net_in net).places w x r) (sym (sheet-window (net_in net).places q s))
    (subst (λ (o : Query). Judged s (net_in net).places w (sheet_of (net_in net).places o s) r) same
    (subst (λ (n : ℕ). Judged s n w (sheet_of n (of_window w) s) r) e j)))

pub record FoundSheet (net s : List ℕ) (w : Window) (q : Query) (r : SoundSheet) : Type 0 where
  pub sheet : List (List Step)
  pub end : ℕ
  pub is : sheet_at net s q ≡ found sheet end
  pub handed : HandedOn s (net_in net).places w sheet r
  pub steps : (p : ℕ) → p < (net_in net).places → Steps q (get_or sheet p [])

pub found-sheet : (net s : List ℕ) (w : Window) (q : Query) (r : SoundSheet) → Judged s (net_in net).places w (sheet_at net s q) (Some r)
    → FoundSheet net s w q r
found-sheet net s w q r j = at (sheet_at net s q) refl j
  where
    at : (x : Found (List (List Step))) → sheet_at net s q ≡ x → Judged s (net_in net).places w x (Some r) → FoundSheet net s w q r
    at (refused why) is j = absurd j
    at (found sheet end) is j =
        record { sheet = sheet; end = end; is = is; handed = j; steps = sheet-steps (net_in net).places q s sheet end is }

-- ---- the answers

pub sheet-none : (N : Network) (q : Query) (cost : Option Cents) (s : List ℕ) (n : ℕ) (w : Window) (x : Found (List (List Step)))
    → Judged s n w x None → OfSheet (Err Refusal.SheetFile) N q cost x
sheet-none N q cost s n w (refused why) j = refl
sheet-none N q cost s n w (found sheet end) j = absurd j

module _ (N : Network) (q : Query) (cost : Option Cents) (x : Found (List (List Step))) (sheet : List (List Step)) (end : ℕ) (is : x ≡ found sheet end) where
  pub sheet-broken : (Obeys N q (value_at sheet) → ⊥) → OfSheet (Err Refusal.Rules) N q cost x
  sheet-broken h = subst (λ y. OfSheet (Err Refusal.Rules) N q cost y) (sym is) (inr (h, refl))

  module _ (o : Obeys N q (value_at sheet)) where
    pub sheet-loose : (TightFor q (value_at sheet) cost → ⊥) → OfSheet (Err Refusal.Loose) N q cost x
    sheet-loose h = subst (λ y. OfSheet (Err Refusal.Loose) N q cost y) (sym is) (inl (o, inr (h, refl)))

    pub sheet-done : TightFor q (value_at sheet) cost → OfSheet (Ok tt) N q cost x
    sheet-done t = subst (λ y. OfSheet (Ok tt) N q cost y) (sym is) (inl (o, inl (t, refl)))

-- the test of the query decides whether it is known
pub known-decides : (n : ℕ) (q : Query) → Is (known n q) (Known n q)
known-decides n q = at (known n q) refl
  where
    at : (b : Bool) → known n q ≡ b → Is b (Known n q)
    at true e =
        let last = both_true (ltb q.start n && ltb q.end n && leb q.earliest last_minute) (leb q.latest last_minute) e in
        let first = both_true (ltb q.start n && ltb q.end n) (leb q.earliest last_minute) last.0 in
        let two = both_true (ltb q.start n) (ltb q.end n) first.0 in
        record { start = ltb-true q.start n two.0; end = ltb-true q.end n two.1; earliest = leb-true q.earliest last_minute first.1; latest = leb-true q.latest last_minute last.1 }
    at false e = λ k.
        let yes : known n q ≡ true = simp (lt-ltb q.start n k.start, lt-ltb q.end n k.end, le-leb q.earliest last_minute k.earliest, le-leb q.latest last_minute k.latest) in
        let z : ◌≡◌ {A = ℕ} 0 1 = cc in
        absurd (omega arith)

-- for the network of a sound file, and under the query's other name
pub known-is : (s : List ℕ) (size : Size) → network_found (of_file s) ≡ Ok size → (p q : Query) → p ≡ q → (r : Bool) → r ≡ known size.places p
    → Is r (Known (net_in s).places q)
known-is s size sound p q same r e =
    let is : r ≡ known (net_in s).places q = e ∙ ap (λ (n : ℕ). known n p) (places-are s size sound) ∙ ap (λ (x : Query). known (net_in s).places x) same in
    subst (λ (b : Bool). Is b (Known (net_in s).places q)) (sym is) (known-decides (net_in s).places q)

-- the query and the plan
module _ (net : NetworkFile) (f : PlanFile) (sheet : List ℕ) where
  pub plan-unknown : (Known net.places f.query → ⊥) → OfPlan (Err Refusal.Query) net f sheet
  plan-unknown h = inr (h, refl)

  module _ (k : Known net.places f.query) where
    pub plan-closed : (f.query.earliest ≤ f.query.latest → ⊥) → OfPlan (Err Refusal.Window) net f sheet
    plan-closed h = inl (k, inr (h, refl))

    module _ (w : f.query.earliest ≤ f.query.latest) where
      pub plan-fails : (Holds (theory net) f → ⊥) → OfPlan (Err Refusal.Plan) net f sheet
      plan-fails h = inl (k, inl (w, inr (h, refl)))

      pub plan-on : Holds (theory net) f → (r : GateAnswer)
          → OfSheet r (theory net) f.query (stated f) (sheet_of net.places f.query sheet)
          → OfPlan r net f sheet
      plan-on p r s = inl (k, inl (w, inl (p, s)))

-- the files
pub network-on : (s : List ℕ) (end : ℕ) (r : GateAnswer) (plan sheet : List ℕ) → of_file s ≡ found (net_in s) end → OfFiles r (net_in s) plan sheet
    → OfNetwork r (of_file s) plan sheet
network-on s end r plan sheet is o = subst (λ x. OfNetwork r x plan sheet) (sym is) o
