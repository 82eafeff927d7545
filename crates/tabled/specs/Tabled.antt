-- What is known once the table is filled, and what filling it promises.
use Rattle.std.specs.Prelude.{ℕ, Result, Ok, Err, ◌*◌, ◌≤◌, ◌≡◌, List, length}
use Rattle.answer.specs.declared.Refusal.{Refusal}
use Rattle.network.specs.declared.Size.{Size}
use Rattle.network.specs.declared.sound_file.SoundFile.{SoundFile}
use Rattle.network.specs.Network.{of_file}
use Rattle.plan.specs.Network.{Askable}
use Rattle.plan.specs.Table.{width, cell_at, MinuteTable}
use Rattle.plan_file.specs.declared.Query.{Query as Asked}
use Rattle.plan_file.specs.PlanFile.{query_of}
use Rattle.chart.specs.Net.{theory_in}
use Rattle.tabled.specs.Judge.{refuse, serve, judged}
use Rattle.tabled.specs.Comes.{Filled}

-- a query that can be asked of the network that a file's bytes stand for
pub record Servable (s : List ℕ) (a : Asked) : Type 0 where
  pub asked : Askable (theory_in s) (query_of a)
  pub last : a.latest.0 ≤ 2879

-- and its minute table
pub record Tabled (s : List ℕ) (size : Size) (a : Asked) (cells : List ℕ) : Type 0 where
  pub servable : Servable s a
  pub room : size.places * width (query_of a) ≤ length cells
  pub table : MinuteTable (theory_in s) (query_of a) (cell_at (query_of a) cells)

-- 1 to 8, and the table is as it was
pub record Unfilled (net : List ℕ) (a : Asked) (table table' : List ℕ) (why : Refusal) : Type 0 where
  pub judged_is : judged (of_file net) (query_of a) (length table) ≡ refuse why
  pub table_is : table' ≡ table

-- all tests are passed, and the table is filled for the file, which is sound
pub record FilledFor (net : List ℕ) (a : Asked) (table table' : List ℕ) (file : SoundFile) : Type 0 where
  pub same : file.net.now ≡ net
  pub judged_is : judged (of_file net) (query_of a) (length table) ≡ serve (theory_in net)
  pub tabled : Tabled net file.size a table'
  pub filled : Filled (theory_in net) (query_of a) table table'

-- one or the other
abbrev pub Fills : List ℕ → Asked → List ℕ → List ℕ → Result SoundFile Refusal → Type 0
Fills net a table table' (Err why) = Unfilled net a table table' why
Fills net a table table' (Ok file) = FilledFor net a table table' file
