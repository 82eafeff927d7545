use Prim.Native.Nat.{ℕ, ◌*◌}
use mathlib.Core.Path.{◌≡◌, sym, ap, subst, ◌∙◌}
use lib.ListN.{length, take}
use Rattle.std.specs.Prelude.{Ok}
use Rattle.leg.specs.declared.Window.{Window}
use Rattle.network.specs.SoundFile.{Told}
use Rattle.plan.specs.Table.{width}
use Rattle.plan_file.specs.PlanFile.{query_of}
use Rattle.plan_file.proofs.Windows.{wide}
use Rattle.table.specs.Filled.{Filled}
use Rattle.tabled.specs.Judge.{judgement}
use Rattle.tabled.proofs.Judging.{Passed, passed}
use Rattle.tabled.proofs.Filling.{filled-for}
use Rattle.tabled.proofs.fill_for.Goals.{In_ok-file, In_ok-judge_query, After-area-cells}
use Rattle.tabled.proofs.fill_for.Goals as goal

-- the file that was judged is the one that was lent
same : (c : In_ok-file) → c.in_ok-file.file.net.now ≡ c.args.net.now
same c = subst (Told c.args.net.now) c.in_ok-file.was c.judge.ensures

-- the tests that were passed
told : (c : In_ok-judge_query) → judgement c.in_ok-file.file.size.places (query_of c.args.query) (length c.args.table.now) ≡ Ok tt
told c = sym c.judge_query.ensures ∙ c.in_ok-judge_query.was

tests : (c : In_ok-judge_query) → Passed c.in_ok-file.file.size.places (query_of c.args.query) (length c.args.table.now)
tests c = passed c.in_ok-file.file.size.places (query_of c.args.query) (length c.args.table.now) (told c)

-- so many cells are the table
these : (c : After-area-cells) → c.area-cells.result ≡ c.in_ok-file.file.size.places * width (query_of c.args.query)
these c =
    c.area-cells.ensures.0
    ∙ ap (λ (n : ℕ). c.in_ok-file.file.size.places * n) (wide c.args.query c.window-window.result c.columns.result c.window-window.ensures c.columns.ensures.0)

pub returns : goal.returns
returns c =
    let a = c.args in
    let at = goal.at.returns c in
    let file = c.in_ok-file.file in
    filled-for a.net.now a.query a.table.now file (same at.In_ok-file) (told at.In_ok-judge_query)
    c.area-cells.result (these at.After-area-cells) _
    (subst (λ (w : Window). Filled file.net.now a.query.start w (take c.area-cells.result a.table.now) c.fill.new.cells) c.window-window.ensures c.fill.ensures)
