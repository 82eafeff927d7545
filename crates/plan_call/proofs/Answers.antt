-- What the plan call's answers rest on, over the program's values.
use Prim.Native.Nat.{ℕ, ◌+◌, ◌*◌, ◌/◌, ◌%◌, ◌≤◌, ◌<◌}
use native.Mathlib.Omega.{arith}
use borrow.Author.Tests.{le-leb, lt-leb}
use mathlib.Core.Path.{◌≡◌, refl, sym, ap, ◌∙◌}
use mathlib.Core.Logic.{◌≢◌}
use mathlib.Core.List.{List, ◌++◌}
use lib.ListN.{length, drop}
use Rattle.answer.specs.Plans.{PlanAnswer, plan_filed, none_filed}
use Rattle.std.specs.Prelude.{Err}
use Rattle.answer.specs.declared.Refusal.TheVariants.{Room}
use Rattle.network.specs.declared.sound_file.SoundFile.{SoundFile}
use Rattle.plan.specs.Network.{Minute, Network, Query}
use Rattle.plan.specs.Table.{no_plan, cell_at}
use Rattle.plan.proofs.Named.{none-feasible}
use Rattle.chart.specs.Net.{theory_in}
use Rattle.plan_file.specs.declared.Query.{Query as Asked}
use Rattle.plan_file.specs.PlanFile.{PlanFile, query_of, plan_bytes, file_of_plan, none_file, FileOf}
use Rattle.plan_file.proofs.Files.{plan-size}
use Rattle.walk.specs.Cells.{InTable, FirstLike}
use Rattle.walk.specs.declared.Walk.{Walk}
use Rattle.walk.specs.Walk.{asked_of, cells_of, Ending, NamedFile}
use Rattle.tabled.specs.Tabled.{Tabled}
use Rattle.tabled.proofs.Serving.{cell_in}
use Rattle.plan_call.specs.Call.{Right, plan, none, Answered}
use Rattle.plan_call.proofs.Lengths.{named-there, named-legs}

-- without room nothing is written
pub no_room : (N : Network) (q : Query) (out : List ℕ) (file : PlanFile) (given : ℕ → PlanAnswer) → Right N q file given
    → length out < plan_bytes (length file.rides) → Answered N q out out (Err Room)
no_room N q out file given right h =
    let full = lt-leb _ _ h in
    record { file = file; given = given; right = right; answer_is = rw full; output_is = rw full refl }

-- with room the file stands at the front
pub room : (N : Network) (q : Query) (out bytes : List ℕ) (file : PlanFile) (given : ℕ → PlanAnswer) → Right N q file given
    → FileOf file bytes → (n : ℕ) → length bytes ≡ n → n ≤ length out → Answered N q out (bytes ++ drop n out) (given n)
room N q out bytes file given right is n size h =
    let all : n ≡ plan_bytes (length file.rides) = sym size ∙ plan-size file bytes is in
    let fits = le-leb (plan_bytes (length file.rides)) (length out) (omega arith) in
    record {
      file = file;
      given = given;
      right = right;
      answer_is = rw (fits, all);
      output_is = rw fits (bytes, is, ap (λ (k : ℕ). bytes ++ drop k out) (sym size));
    }

module _ (file : SoundFile) (a : Asked) (cells : List ℕ) (k : Tabled file.net.now file.size a cells) where
  -- no plan at latest: none is feasible
  pub none_right : cell_at (query_of a) cells a.end a.latest.0 ≡ no_plan → Right (theory_in file.net.now) (query_of a) (none_file (query_of a)) none_filed
  none_right e = none (none-feasible (theory_in file.net.now) (query_of a) k.servable.asked (cell_at (query_of a) cells) k.table e)

  module _ (n : cell_at (query_of a) cells a.end a.latest.0 ≢ no_plan) (t : Minute)
      (f : FirstLike (query_of a) (cell_at (query_of a) cells) a.end 64 a.latest.0 t) where
    pub arrival-in : InTable cells (query_of a) a.end t
    arrival-in = cell_in file a cells k a.end t (record { place = k.servable.asked.goal; early = f.early; late = f.late })

    -- the plan's file does not fit
    pub too_long : (here : ℕ) → here ≡ cell_at (query_of a) cells a.end t → (out : List ℕ) → length out < (96 + 21 * (here % 64)) / 8
        → Answered (theory_in file.net.now) (query_of a) out out (Err Room)
    too_long here is out h =
        let N = theory_in file.net.now in
        let p = named-there N (query_of a) k.servable.asked (cell_at (query_of a) cells) k.table n in
        let legs = named-legs N (query_of a) k.servable.asked (cell_at (query_of a) cells) k.table n t f p.0 p.1 in
        let same : length p.0 ≡ here % 64 = legs ∙ ap (λ (x : ℕ). x % 64) (sym is) in
        no_room N (query_of a) out (file_of_plan N (query_of a) p.0) plan_filed (plan p.0 p.1) (omega (arith, h, same))

-- where the walk back begins
pub ending : (walk : Walk) → Tabled walk.tariff.net.now walk.tariff.size walk.table.query walk.table.cells.now
    → cells_of walk walk.table.query.end walk.table.query.latest.0 ≢ no_plan → (t : Minute)
    → FirstLike (asked_of walk) (cells_of walk) walk.table.query.end 64 walk.table.query.latest.0 t → Ending walk t
ending walk k n t f =
    record {
      walkable = record { asked = k.servable.asked; last = k.servable.last; table = k.table; room = k.room };
      plan = n;
      first = f;
    }

-- the named plan's file
pub written : (N : Network) (q : Query) (out bytes : List ℕ) → NamedFile N q bytes → (n : ℕ) → length bytes ≡ n → n ≤ length out
    → Answered N q out (bytes ++ drop n out) (plan_filed n)
written N q out bytes f n size h = room N q out bytes (file_of_plan N q f.plan) plan_filed (plan f.plan f.named) f.file n size h
