use Rattle.plan.specs.Table.{cell_at}
use Rattle.plan_file.specs.PlanFile.{query_of}
use Rattle.walk.specs.Cells.{InTable}
use mathlib.Core.Logic.{◌≢◌}
use Prim.Native.Nat.{ℕ, ◌/◌, ◌≤◌, ◌<◌}
use mathlib.Core.Path.{◌≡◌}
use Rattle.walk.proofs.table.Table.first.Given as goal

abbrev pub invariant-loop-t : goal.invariant-loop-t
invariant-loop-t l =
    (l.self.query.earliest.0 ≤ l.t) × (l.goal ≡ cell_at (query_of l.self.query) l.self.cells.now l.place l.minute.0 / l.unit)
    × ((u : ℕ) → l.self.query.earliest.0 ≤ u → u < l.t → cell_at (query_of l.self.query) l.self.cells.now l.place u / l.unit ≢ l.goal)
    × InTable l.self.cells.now (query_of l.self.query) l.place l.minute.0 × (1 ≤ l.unit)
