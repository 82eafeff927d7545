-- What filling comes to: a refusal that leaves the table as it was, or a part of it filled and put back into the whole.
use Prim.Native.Nat.{ℕ, ◌*◌, ◌≤◌}
use native.Mathlib.Omega.{arith}
use mathlib.Core.Path.{◌≡◌, refl, ap, subst, ◌∙◌}
use mathlib.Core.List.{List, ◌++◌}
use lib.ListN.{length, take, drop}
use lib.Seq.{length-take-le}
use Rattle.answer.specs.declared.Refusal.{Refusal}
use Rattle.std.specs.Prelude.{Ok, Err}
use Rattle.network.specs.declared.sound_file.SoundFile.{SoundFile}
use Rattle.network.specs.Network.{of_file}
use Rattle.network.specs.Answers.{network_found}
use Rattle.plan.specs.Table.{width, cell_at, MinuteTable}
use Rattle.table.specs.Filled.{Filled as FilledCells}
use Rattle.plan_file.specs.declared.Query.{Query as Asked}
use Rattle.plan_file.specs.PlanFile.{query_of, window_of}
use Rattle.chart.specs.Net.{net_in, theory_in}
use Rattle.chart.proofs.Net.{in-file, places-are}
use Rattle.std.specs.Prelude.{Result}
use Rattle.tabled.specs.Judge.{judgement, with_network, judged}
use Rattle.tabled.specs.Comes.{Filled}
use Rattle.tabled.specs.Tabled.{Unfilled, FilledFor}
use Rattle.tabled.proofs.Judging.{Passed, passed, judged-refused, judged_is, askable}
use Rattle.tabled.proofs.Tables.{filled-whole}

module _ (net : List ℕ) (a : Asked) (table : List ℕ) where
  -- 1 to 5
  pub network-refused : (why : Refusal) → network_found (of_file net) ≡ Err why → Unfilled net a table table why
  network-refused why e = record { judged_is = judged-refused (of_file net) (query_of a) (length table) why e; table_is = refl }

  module _ (file : SoundFile) (same : file.net.now ≡ net) where
    pub ok : network_found (of_file net) ≡ Ok file.size
    ok = subst (λ (s : List ℕ). network_found (of_file s) ≡ Ok file.size) same file.sound

    by-judgement : (j : Result Unit Refusal) → judgement file.size.places (query_of a) (length table) ≡ j
        → judged (of_file net) (query_of a) (length table) ≡ with_network j (theory_in net)
    by-judgement j e = judged_is net (query_of a) (length table) file.size ok ∙ ap (λ (j : Result Unit Refusal). with_network j (theory_in net)) e

    -- the tests are passed, and the first n cells are lent on
    module _ (e : judgement file.size.places (query_of a) (length table) ≡ Ok tt) (n : ℕ) (is : n ≡ file.size.places * width (query_of a)) where
      tests : Passed file.size.places (query_of a) (length table)
      tests = passed file.size.places (query_of a) (length table) e

      pub fits : n ≤ length table
      fits = omega (arith, is, tests.room)

      module _ (cells : List ℕ) (f : FilledCells file.net.now a.start (window_of a) (take n table) cells) where
        minutes : MinuteTable (theory_in net) (query_of a) (cell_at (query_of a) cells)
        minutes =
            let stands = in-file net file.size ok in
            let g = subst (λ (s : List ℕ). FilledCells s a.start (window_of a) (take n table) cells) same f in
            g.table (net_in net) stands.end stands.stands a.end

        whole : Filled (theory_in net) (query_of a) table (cells ++ drop n table)
        whole =
            filled-whole (theory_in net) (query_of a) cells table n (is ∙ ap (λ (k : ℕ). k * width (query_of a)) (places-are net file.size ok)) fits
            (f.long ∙ length-take-le n table fits) minutes

        pub filled-for : FilledFor net a table (cells ++ drop n table) file
        filled-for =
            record {
              same = same;
              judged_is = by-judgement (Ok tt) e;
              tabled =
                  record {
                    servable = record { asked = askable net file.size ok (query_of a) (length table) tests; last = tests.latest };
                    room = omega (arith, fits, is, whole.long);
                    table = whole.cells;
                  };
              filled = whole;
            }
