-- TWO RESULTS OF ONE INPUT ARE EQUAL, if what is answered from a filled table is.
use Prim.Native.Nat.{ℕ, ◌+◌, ◌-◌, ◌*◌, ◌/◌, ◌%◌, ◌<◌}
use native.Mathlib.Nat.{mod-lt, div-add-mod', div-lt_iff_lt-mul}
use native.Mathlib.Omega.{arith}
use native.Mathlib.Decide.{dec_lt}
use mathlib.Core.Path.{◌≡◌, sym, ap, ◌∙◌, subst}
use mathlib.Core.Logic.{⊎_elim}
use mathlib.Core.List.{List}
use lib.ListN.{length, get_or}
use lib.Seq.{ext_get_or}
use Rattle.answer.specs.Plans.{PlanAnswer}
use Rattle.answer.specs.declared.Refusal.{Refusal}
use Rattle.network.specs.Network.{of_file}
use Rattle.plan.specs.Network.{Minute, Network, Query, Askable, Within}
use Rattle.plan.specs.Table.{width}
use Rattle.plan.proofs.Cells.{cell-once}
use Rattle.chart.specs.Net.{theory_in}
use Rattle.tabled.specs.Judge.{Judged, refuse, serve, judged}
use Rattle.tabled.specs.Comes.{Filled, Comes}
use Rattle.tabled.proofs.Judging.{comes-to}

-- the table
table-once : (N : Network) (q : Query) → Askable N q → (table x y : List ℕ) → Filled N q table x → Filled N q table y → x ≡ y
table-once N q asked table x y h k = ext_get_or 0 x y (h.long ∙ sym k.long) (λ i below. at i (dec_lt i (N.places * width q)))
  where
    at : (i : ℕ) → Dec (i < N.places * width q) → get_or x i 0 ≡ get_or y i 0
    at i (no n) = h.rest i (omega arith) ∙ sym (k.rest i (omega arith))
    at i (yes less) =
        let w = width q in
        let p = i / w in
        let t : Minute = q.earliest + i % w in
        let small = mod-lt i {m = w} (omega arith) in
        let place : i / w < N.places = (div-lt_iff_lt-mul {k = w} {x = i} {y = N.places} (omega arith)).1 less in
        let win : Within N q p t = record { place = place; early = omega arith; late = omega (arith, small) } in
        let column : t - q.earliest ≡ i % w = omega arith in
        let index : p * w + (t - q.earliest) ≡ i = ap (λ (j : ℕ). p * w + j) column ∙ div-add-mod' i w in
        let one = cell-once N q asked p t _ _ (h.cells p t win) (k.cells p t win) in
        ap (λ (j : ℕ). get_or x j 0) (sym index) ∙ one ∙ ap (λ (j : ℕ). get_or y j 0) index

pub record Same (a b : PlanAnswer) (t u x y : List ℕ) : Type 0 where
  pub answers : a ≡ b
  pub tables : t ≡ u
  pub outputs : x ≡ y

pub comes-once : (Answered : Network → Query → List ℕ → List ℕ → PlanAnswer → Type 0)
    → ((N : Network) (q : Query) (out x y : List ℕ) (a b : PlanAnswer) → Answered N q out x a → Answered N q out y b → (a ≡ b) × (x ≡ y))
    → (net : List ℕ) (q : Query) (table out : List ℕ) (a b : PlanAnswer) (t u x y : List ℕ)
    → Comes Answered (judged (of_file net) q (length table)) q table t out x a
    → Comes Answered (judged (of_file net) q (length table)) q table u out y b
    → Same a b t u x y
comes-once Answered once net q table out a b t u x y h k =
    ⊎_elim
    (λ (r : (why : Refusal) × (judged (of_file net) q (length table) ≡ refuse why)).
    let f = subst (λ (j : Judged). Comes Answered j q table t out x a) r.1 h in
    let g = subst (λ (j : Judged). Comes Answered j q table u out y b) r.1 k in
    record { answers = f.answer_is ∙ sym g.answer_is; tables = f.table_is ∙ sym g.table_is; outputs = f.output_is ∙ sym g.output_is })
    (λ (r : (judged (of_file net) q (length table) ≡ serve (theory_in net)) × Askable (theory_in net) q).
    let f = subst (λ (j : Judged). Comes Answered j q table t out x a) r.0 h in
    let g = subst (λ (j : Judged). Comes Answered j q table u out y b) r.0 k in
    let one = once (theory_in net) q out x y a b f.answered g.answered in
    record { answers = one.0; tables = table-once (theory_in net) q r.1 table t u f.filled g.filled; outputs = one.1 })
    (comes-to net q (length table))
