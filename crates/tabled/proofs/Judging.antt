-- What the tests before planning tell.
use Prim.Native.Nat.{ℕ, ◌*◌, ◌≤◌, ◌<◌}
use native.Mathlib.Omega.{arith}
use borrow.Author.Tests.{leb-true}
use mathlib.Core.Path.{◌≡◌, refl, sym, ap, ◌∙◌}
use mathlib.Core.Logic.{◌⊎◌, inl, inr}
use mathlib.Core.Bool.{Bool, true, false}
use mathlib.Core.List.{List}
use lib.Dec.{leb}
use Rattle.answer.specs.declared.Refusal.{Refusal}
use Rattle.answer.specs.declared.Refusal.TheVariants.{Query as NoSuchQuery, Window, Cells}
use Rattle.std.specs.Prelude.{Ok, Err}
use Rattle.network.specs.declared.Size.{Size}
use Rattle.network.specs.Reading.{Found, refused, found, pick}
use Rattle.network.specs.Network.{Network as FileNetwork, of_file}
use Rattle.network.specs.Answers.{size_of, network_found}
use Rattle.plan.specs.Network.{Query, Askable}
use Rattle.plan.specs.Table.{width}
use Rattle.plan_file.specs.Known.{known}
use Rattle.plan_file.proofs.Known.{is-known}
use Rattle.chart.specs.Net.{theory_in}
use Rattle.chart.proofs.Net.{in-file, places-are, ranges}
use Rattle.std.specs.Prelude.{Result}
use Rattle.tabled.specs.Judge.{judgement, refuse, serve, with_network, judged}

-- all tests were passed
pub record Passed (places : ℕ) (q : Query) (cells : ℕ) : Type 0 where
  pub start : q.start < places
  pub end : q.end < places
  pub earliest : q.earliest ≤ 2879
  pub latest : q.latest ≤ 2879
  pub window : q.earliest ≤ q.latest
  pub room : places * width q ≤ cells

one-test : (b : Bool) (x : Result Unit Refusal) (why : Refusal) → pick b x (Err why) ≡ Ok tt → (b ≡ true) × (x ≡ Ok tt)
one-test true x why e = (refl, e)
one-test false x why e = let z : ◌≡◌ {A = ℕ} 0 1 = cc in absurd (omega arith)

pub passed : (places : ℕ) (q : Query) (cells : ℕ) → judgement places q cells ≡ Ok tt → Passed places q cells
passed places q cells e =
    let t₁ = one-test (known places q) _ NoSuchQuery e in
    let t₂ = one-test (leb q.earliest q.latest) _ Window t₁.1 in
    let t₃ = one-test (leb (places * width q) cells) _ Cells t₂.1 in
    let k = is-known places q t₁.0 in
    record {
      start = k.start;
      end = k.end;
      earliest = k.earliest;
      latest = k.latest;
      window = leb-true _ _ t₂.0;
      room = leb-true _ _ t₃.0;
    }

-- a network that was refused
pub judged-refused : (x : Found FileNetwork) (q : Query) (n : ℕ) (why : Refusal) → network_found x ≡ Err why → judged x q n ≡ refuse why
judged-refused (refused w) q n why e = let same : w ≡ why = cc in ap refuse same
judged-refused (found net end) q n why e = let z : ◌≡◌ {A = ℕ} 0 1 = cc in absurd (omega arith)

-- one that was found
pub judged_is : (s : List ℕ) (q : Query) (n : ℕ) (size : Size) → network_found (of_file s) ≡ Ok size
    → judged (of_file s) q n ≡ with_network (judgement size.places q n) (theory_in s)
judged_is s q n size ok =
    ap (λ (x : Found FileNetwork). judged x q n) (in-file s size ok).stands
    ∙ ap (λ (places : ℕ). with_network (judgement places q n) (theory_in s)) (sym (places-are s size ok))

-- a query that passed can be asked
pub askable : (s : List ℕ) (size : Size) → network_found (of_file s) ≡ Ok size → (q : Query) (n : ℕ) → Passed size.places q n
    → Askable (theory_in s) q
askable s size ok q n p =
    record {
      ranges = ranges s size ok;
      home = omega (arith, p.start, places-are s size ok);
      goal = omega (arith, p.end, places-are s size ok);
      window = p.window;
    }

-- EITHER the call refuses OR it serves the file's network, of which the query can be asked
pub comes-to : (s : List ℕ) (q : Query) (n : ℕ)
    → ((why : Refusal) × (judged (of_file s) q n ≡ refuse why)) ⊎ ((judged (of_file s) q n ≡ serve (theory_in s)) × Askable (theory_in s) q)
comes-to s q n = by (of_file s) refl
  where
    judge-by : (size : Size) → network_found (of_file s) ≡ Ok size → (j : Result Unit Refusal) → judgement size.places q n ≡ j
        → ((why : Refusal) × (judged (of_file s) q n ≡ refuse why)) ⊎ ((judged (of_file s) q n ≡ serve (theory_in s)) × Askable (theory_in s) q)
    judge-by size ok (Ok tt) e =
        inr (
          judged_is s q n size ok ∙ ap (λ (j : Result Unit Refusal). with_network j (theory_in s)) e,
          askable s size ok q n (passed size.places q n e),
        )
    judge-by size ok (Err why) e = inl (why, judged_is s q n size ok ∙ ap (λ (j : Result Unit Refusal). with_network j (theory_in s)) e)

    by : (x : Found FileNetwork) → of_file s ≡ x
        → ((why : Refusal) × (judged (of_file s) q n ≡ refuse why)) ⊎ ((judged (of_file s) q n ≡ serve (theory_in s)) × Askable (theory_in s) q)
    by (refused w) e = inl (w, judged-refused (of_file s) q n w (ap network_found e))
    by (found net end) e = judge-by (size_of net) (ap network_found e) (judgement net.places q n) refl
