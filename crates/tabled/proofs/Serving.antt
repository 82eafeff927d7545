-- What a call goes by that answers from the filled table, and what it comes to.
use Prim.Native.Nat.{ℕ}
use mathlib.Core.Path.{◌≡◌, refl, sym, subst}
use mathlib.Core.List.{List}
use lib.ListN.{length}
use Rattle.answer.specs.Plans.{PlanAnswer}
use Rattle.std.specs.Prelude.{Ok, Err}
use Rattle.answer.specs.declared.Refusal.{Refusal}
use Rattle.network.specs.declared.sound_file.SoundFile.{SoundFile}
use Rattle.network.specs.Network.{of_file}
use Rattle.plan.specs.Network.{Minute, Network, Query, Within}
use Rattle.plan.proofs.Standing.{at-end}
use Rattle.plan_file.specs.declared.Query.{Query as Asked}
use Rattle.plan_file.specs.PlanFile.{query_of}
use Rattle.walk.specs.Cells.{InTable}
use Rattle.walk.proofs.Nets.{in_table}
use Rattle.chart.specs.Net.{theory_in}
use Rattle.std.specs.Prelude.{Result}
use Rattle.tabled.specs.Judge.{Judged, judged}
use Rattle.tabled.specs.Comes.{Comes}
use Rattle.tabled.specs.Tabled.{Tabled, FilledFor, Fills}

-- the cells of the window are in the table, that of the end at latest among them
module _ (file : SoundFile) (a : Asked) (cells : List ℕ) (k : Tabled file.net.now file.size a cells) where
  pub cell_in : (p : ℕ) (t : Minute) → Within (theory_in file.net.now) (query_of a) p t → InTable cells (query_of a) p t
  cell_in p t win = in_table file.net.now file.size file.sound (query_of a) cells k.room k.servable.last p t win

  pub end-in : InTable cells (query_of a) a.end a.latest.0
  end-in = cell_in a.end a.latest.0 (at-end (theory_in file.net.now) (query_of a) k.servable.asked)

module _ (net : List ℕ) (a : Asked) (table table' : List ℕ) (r : Result SoundFile Refusal) (h : Fills net a table table' r) where
  module _ (file : SoundFile) (is : r ≡ Ok file) where
    filled : FilledFor net a table table' file
    filled = subst (Fills net a table table') is h

    -- what the answer goes by
    pub tabled : Tabled file.net.now file.size a table'
    tabled = subst (λ (s : List ℕ). Tabled s file.size a table') (sym filled.same) filled.tabled

    -- 0, 9 and 10
    pub served : (Answered : Network → Query → List ℕ → List ℕ → PlanAnswer → Type 0) (out out' : List ℕ) (answer : PlanAnswer)
        → Answered (theory_in file.net.now) (query_of a) out out' answer
        → Comes Answered (judged (of_file net) (query_of a) (length table)) (query_of a) table table' out out' answer
    served Answered out out' answer said =
        subst (λ (j : Judged). Comes Answered j (query_of a) table table' out out' answer) (sym filled.judged_is)
        (record { answered = subst (λ (s : List ℕ). Answered (theory_in s) (query_of a) out out' answer) filled.same said; filled = filled.filled })

  -- 1 to 8
  pub untouched : (why : Refusal) → r ≡ Err why → (Answered : Network → Query → List ℕ → List ℕ → PlanAnswer → Type 0) (out : List ℕ)
      → Comes Answered (judged (of_file net) (query_of a) (length table)) (query_of a) table table' out out (Err why)
  untouched why is Answered out =
      let f = subst (Fills net a table table') is h in
      subst (λ (j : Judged). Comes Answered j (query_of a) table table' out out (Err why)) (sym f.judged_is)
      (record { answer_is = refl; table_is = f.table_is; output_is = refl })
