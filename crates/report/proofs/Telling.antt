-- From the plan call's promise to the text: what each answer tells of the network, the query and the plan file.
use Prim.Native.Nat.{ℕ, zero, suc, ◌+◌, ◌-◌, ◌*◌, ◌≤◌}
use native.Mathlib.Omega.{arith}
use borrow.Author.Tests.{le-ltb, le-leb, eq-eqb}
use mathlib.Core.Path.{◌≡◌, refl, sym, ap, ◌∙◌, subst}
use mathlib.Core.Logic.{◌⊎◌, inl, inr}
use mathlib.Core.Bool.{Bool, true, false}
use mathlib.Core.List.{List, ◌∷◌, ◌++◌}
use lib.Dec.{leb, eqb}
use lib.ListN.{length, take, drop, length-append, length-drop}
use lib.Seq.{take_all}
use Rattle.answer.specs.declared.Refusal.{Refusal}
use Rattle.answer.specs.declared.Refusal.TheVariants.{Room}
use Rattle.answer.specs.Plans.{PlanAnswer, plan_filed, none_filed}
use Rattle.std.specs.Prelude.{Result, Ok, Err}
use Rattle.answer.specs.Numbers.{number_of}
use Rattle.bits.specs.Field.{field}
use Rattle.bits.proofs.Bytes.{field-append}
use Rattle.network.specs.Reading.{pick}
use Rattle.network.specs.Network.{of_file}
use Rattle.plan.specs.Network.{Network, Query, Askable}
use Rattle.plan.specs.Plan.{Ride, arrival, cost, Runs, Feasible}
use Rattle.plan.specs.Tie.{Named}
use Rattle.plan.proofs.Named.{named-fits}
use Rattle.plan_file.specs.PlanFile.{PlanFile, ride_of, plan_bytes, file_of_plan, FileOf}
use Rattle.plan_file.proofs.Files.{plan-size, plan-head, plan-rides}
use Rattle.tabled.specs.Judge.{Judged, refuse, serve, judged}
use Rattle.tabled.specs.Comes.{Comes}
use Rattle.tabled.proofs.Judging.{comes-to}
use Rattle.plan_call.specs.Call.{Right, plan, none, Output, Answered, Plans}
use Rattle.text.specs.declared.Page.{Page}
use Rattle.text.specs.Text.{Writes}
use Rattle.chart.specs.Net.{theory_in}
use Rattle.report.specs.Pages.{Fills}
use Rattle.report.specs.Rides.{rides_in, Ridden}
use Rattle.report.specs.Report.{answer_text, cost_text, arrive_text, rides_text, file_text, Shows, shown, nothing, Prints, query_in, Whole, Reports}
use Rattle.report.proofs.Riding.{rides-are}

-- the rides in the front of more bytes
rides-front : (a b : List ℕ) (k : ℕ) → 89 + 21 * k ≤ 8 * length a → rides_in (a ++ b) k ≡ rides_in a k
rides-front a b zero h = refl
rides-front a b (suc k) h =
    let leg = field-append a b (89 + 21 * k) 9 (omega arith) in
    let leave = field-append a b (89 + 21 * k + 9) 12 (omega arith) in
    let rest = rides-front a b k (omega arith) in
    ap (λ (x : ℕ). ride_of x (field (a ++ b) (89 + 21 * k + 9) 12) ∷ rides_in (a ++ b) k) leg
    ∙ ap (λ (x : ℕ). ride_of (field a (89 + 21 * k) 9) x ∷ rides_in (a ++ b) k) leave
    ∙ ap (λ (x : List Ride). ride_of (field a (89 + 21 * k) 9) (field a (89 + 21 * k + 9) 12) ∷ x) rest

-- the plan file in the lent bytes tells the named plan
pub record Told (N : Network) (q : Query) (plan : List ℕ) : Type 0 where
  pub rides : List Ride
  pub named : Named N q rides
  pub price : field plan 45 32 ≡ cost N rides
  pub legs : field plan 77 12 ≡ length rides
  pub same : rides_in plan (length rides) ≡ rides
  pub room : 89 + 21 * length rides ≤ 8 * length plan
  pub few : length rides ≤ 63

told-file : (N : Network) (q : Query) (rides : List Ride) (bytes rest : List ℕ) → Named N q rides → length rides ≤ 63 → FileOf (file_of_plan N q rides) bytes
    → Told N q (bytes ++ rest)
told-file N q rides bytes rest named few file =
    let size = plan-size (file_of_plan N q rides) bytes file in
    let head = plan-head (file_of_plan N q rides) bytes file in
    let long = length-append bytes rest in
    let room : 89 + 21 * length rides ≤ 8 * length bytes = omega (arith, size) in
    record {
      rides = rides;
      named = named;
      price = field-append bytes rest 45 32 (omega arith) ∙ head.price;
      legs = field-append bytes rest 77 12 (omega arith) ∙ head.legs;
      same = rides-front bytes rest (length rides) room ∙ rides-are bytes rides (plan-rides (file_of_plan N q rides) bytes file);
      room = omega (arith, room, long);
      few = few;
    }

module _ (N : Network) (q : Query) (asked : Askable N q) where
  few-rides : {file : PlanFile} {given : ℕ → PlanAnswer} → Right N q file given → length file.rides ≤ 63
  few-rides (plan rides named) = (named-fits N q asked rides named).0
  few-rides (none k) = omega arith

  module _ (out after : List ℕ) (lent : 177 ≤ length out) where
    -- there is room, so 0 and 10 are the only answers
    data-in : (answer : PlanAnswer) → Answered N q out after answer
        → (file : PlanFile) × (given : ℕ → PlanAnswer) × (Right N q file given) × (answer ≡ given (plan_bytes (length file.rides))) × Output true file out after
    data-in answer a =
        let few = few-rides a.right in
        let fits : leb (plan_bytes (length a.file.rides)) (length out) ≡ true = le-leb (plan_bytes (length a.file.rides)) (length out) (omega arith) in (
          a.file,
          a.given,
          a.right,
          a.answer_is ∙ ap (λ (b : Bool). pick b (a.given (plan_bytes (length a.file.rides))) (Err Room)) fits,
          subst (λ (b : Bool). Output b a.file out after) fits a.output_is,
        )

    done : (n : ℕ) (file : PlanFile) (given : ℕ → PlanAnswer) (m : ℕ) → Right N q file given → plan_filed n ≡ given m → Output true file out after → Told N q after
    done n file given m (plan rides named) e (bytes, is, whole) =
        subst (Told N q) (sym whole) (told-file N q rides bytes (drop (length bytes) out) named (named-fits N q asked rides named).0 is)
    done n file given m (none k) e o = let z : ◌≡◌ {A = ℕ} 0 1 = cc in absurd (omega arith)

    not_done : (n : ℕ) (file : PlanFile) (given : ℕ → PlanAnswer) (m : ℕ) → Right N q file given → none_filed n ≡ given m
        → (rides : List Ride) → Feasible N q rides → ⊥
    not_done n file given m (plan rides named) e = let z : ◌≡◌ {A = ℕ} 0 1 = cc in absurd (omega arith)
    not_done n file given m (none k) e = k

    no-refusal : (why : Refusal) (file : PlanFile) (given : ℕ → PlanAnswer) (m : ℕ) → Right N q file given → Err why ≡ given m → ⊥
    no-refusal why file given m (plan rides named) e = let z : ◌≡◌ {A = ℕ} 0 1 = cc in absurd (omega arith)
    no-refusal why file given m (none k) e = let z : ◌≡◌ {A = ℕ} 0 1 = cc in absurd (omega arith)

module _ (s : List ℕ) (q : Query) (table table' out out' : List ℕ) (lent : 177 ≤ length out) where
  pub plan-done : (answer : PlanAnswer) (n : ℕ) → answer ≡ plan_filed n → Plans s q table table' out out' answer
      → (judged (of_file s) q (length table) ≡ serve (theory_in s)) × Told (theory_in s) q out'
  plan-done answer n e p = at (comes-to s q (length table))
    where
      at : ((why : Refusal) × (judged (of_file s) q (length table) ≡ refuse why)) ⊎ ((judged (of_file s) q (length table) ≡ serve (theory_in s)) × Askable (theory_in s) q)
          → (judged (of_file s) q (length table) ≡ serve (theory_in s)) × Told (theory_in s) q out'
      at (inl (why, j)) =
          let u = subst (λ (x : Judged). Comes Answered x q table table' out out' answer) j p.comes in
          let f = u.answer_is in
          let z : ◌≡◌ {A = ℕ} 0 1 = cc in absurd (omega arith)
      at (inr (j, asked)) =
          let u = subst (λ (x : Judged). Comes Answered x q table table' out out' answer) j p.comes in
          let d = data-in (theory_in s) q asked out out' lent answer u.answered in
          (j, done (theory_in s) q asked out out' lent n d.0 d.1 _ d.2 (sym e ∙ d.3) d.4)

  pub plan-none : (answer : PlanAnswer) (n : ℕ) → answer ≡ none_filed n → Plans s q table table' out out' answer
      → Prints (judged (of_file s) q (length table)) q (answer_text 10)
  plan-none answer n e p = at (comes-to s q (length table))
    where
      at : ((why : Refusal) × (judged (of_file s) q (length table) ≡ refuse why)) ⊎ ((judged (of_file s) q (length table) ≡ serve (theory_in s)) × Askable (theory_in s) q)
          → Prints (judged (of_file s) q (length table)) q (answer_text 10)
      at (inl (why, j)) =
          let u = subst (λ (x : Judged). Comes Answered x q table table' out out' answer) j p.comes in
          let f = u.answer_is in
          let z : ◌≡◌ {A = ℕ} 0 1 = cc in absurd (omega arith)
      at (inr (j, asked)) =
          let u = subst (λ (x : Judged). Comes Answered x q table table' out out' answer) j p.comes in
          let d = data-in (theory_in s) q asked out out' lent answer u.answered in
          subst (λ (x : Judged). Prints x q (answer_text 10)) (sym j)
          (nothing (not_done (theory_in s) q asked out out' lent n d.0 d.1 _ d.2 (sym e ∙ d.3)))

  pub plan-refused : (answer : PlanAnswer) (why : Refusal) → answer ≡ Err why → Plans s q table table' out out' answer
      → Prints (judged (of_file s) q (length table)) q (answer_text (number_of why))
  plan-refused answer why e p = at (comes-to s q (length table))
    where
      at : ((w : Refusal) × (judged (of_file s) q (length table) ≡ refuse w)) ⊎ ((judged (of_file s) q (length table) ≡ serve (theory_in s)) × Askable (theory_in s) q)
          → Prints (judged (of_file s) q (length table)) q (answer_text (number_of why))
      at (inl (w, j)) =
          let u = subst (λ (x : Judged). Comes Answered x q table table' out out' answer) j p.comes in
          let f = u.answer_is in
          let same : why ≡ w = cc in
          subst (λ (x : Judged). Prints x q (answer_text (number_of why))) (sym j) (ap (λ (x : Refusal). answer_text (number_of x)) same)
      at (inr (j, asked)) =
          let u = subst (λ (x : Judged). Comes Answered x q table table' out out' answer) j p.comes in
          let d = data-in (theory_in s) q asked out out' lent answer u.answered in
          absurd (no-refusal (theory_in s) q asked out out' lent why d.0 d.1 _ d.2 (sym e ∙ d.3))

-- what is asked of a plan file before it is printed, and what is then printed
module _ (s : List ℕ) (q : Query) (file : List ℕ) (t : Told (theory_in s) q file) where
  told-rides : rides_in file (field file 77 12) ≡ t.rides
  told-rides = ap (rides_in file) t.legs ∙ t.same

  pub told-ridden : Ridden s file q (field file 77 12)
  told-ridden =
      record {
        room = omega (arith, t.legs, t.room);
        few = omega (arith, t.legs, t.few);
        runs = subst (Runs (theory_in s) q) (sym told-rides) t.named.feasible.runs;
      }

  pub told_text : (n : ℕ) → judged (of_file s) q n ≡ serve (theory_in s) → Prints (judged (of_file s) q n) q
      (file_text (theory_in s) q file)
  told_text n j =
      let N = theory_in s in
      let whole = ap (λ (c : ℕ). answer_text 0 ++ (cost_text c ++ (arrive_text (arrival N q (rides_in file (field file 77 12))) ++ rides_text N q (rides_in file (field file 77 12))))) t.price
      ∙ ap (λ (rs : List Ride). answer_text 0 ++ (cost_text (cost N t.rides) ++ (arrive_text (arrival N q rs) ++ rides_text N q rs))) told-rides in
      subst (λ (x : Judged). Prints x q (file_text N q file)) (sym j) (subst (Shows N q) (sym whole) (shown t.rides t.named))

-- text from the front on
pub front : (s t : Page) (text : List ℕ) → s.at ≡ 0 → Writes s t text → take t.at t.out.now ≡ text
front s t text e w = w.adds.reads ∙ ap (λ (n : ℕ). take n s.out.now ++ text) e

pub printed : (Promise : List ℕ → Type 0) (s t : Page) (text : List ℕ) → s.at ≡ 0 → Writes s t text → Promise text → Fills Promise s t (Ok tt)
printed Promise s t text e w p = (subst Promise (sym (front s t text e w)) p, w.adds.fits, w.same)

-- one promise from another
pub fills-by : (P Q : List ℕ → Type 0) → ((text : List ℕ) → P text → Q text) → (s t : Page) (r : Result Unit Refusal) → Fills P s t r → Fills Q s t r
fills-by P Q by s t (Ok _) h = (by _ h.0, h.1, h.2)
fills-by P Q by s t (Err _) h = (by _ h.0, h.1, h.2, h.3)

-- the bytes behind the query
pub rest-is : (input : List ℕ) → take (length input - 5) (drop 5 input) ≡ drop 5 input
rest-is input = take_all (length input - 5) (drop 5 input) (omega (arith, length-drop 5 input))

-- the whole input
module _ (input : List ℕ) (cells : ℕ) where
  pub report-net : (text net : List ℕ) → net ≡ drop 5 input → 5 ≤ length input → field input 36 4 ≡ 0 → (q : Query) → q.start ≡ field input 0 6 → q.end ≡ field input 6 6
      → q.earliest ≡ field input 12 12 → q.latest ≡ (query_in input).latest
      → Prints (judged (of_file net) q cells) q text → Reports input cells text
  report-net text net there h z q e₁ e₂ e₃ e₄ p =
      let same : q ≡ query_in input = λ i. record { start = e₁ i; end = e₂ i; earliest = e₃ i; latest = e₄ i } in
      record {
        says =
            subst (λ (b : Bool). Whole b (eqb (field input 36 4) 0) input cells text) (sym (le-ltb (length input) 5 h))
            (subst (λ (b : Bool). Whole false b input cells text) (sym (eq-eqb (field input 36 4) 0 z))
            (subst (λ (x : Query). Prints (judged (of_file (drop 5 input)) x cells) x text) same
            (subst (λ (x : List ℕ). Prints (judged (of_file x) q cells) q text) there p)));
      }
