-- `Roads::sweep`: what the sweep keeps; the sum of the cells falls, or else fewer columns are new.
use Rattle.chart.specs.Net.{theory_in}
use Rattle.table.specs.Ask.{query}
use Rattle.table.specs.Kept.{Kept, Never}
use Rattle.table.proofs.Sweeps.{left}
use Prim.Native.Nat.{◌≤◌}
use mathlib.Core.Path.{◌≡◌}
use lib.ListN.{length}
use Rattle.table.proofs.roads.Roads.sweep.Given as goal

abbrev pub invariant-loop-p : goal.invariant-loop-p
invariant-loop-p l =
    (l.from ≤ l.places) × (length l.low ≡ 64) × Kept (theory_in l.self.tariff.now.net.now) (query l.self.ask) l.cells l.low Never × (length l.row ≡ 2880)

abbrev pub decreases-loop-p : goal.decreases-loop-p
decreases-loop-p l = left l.cells l.low
