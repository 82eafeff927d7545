-- `Chains::hang`: the legs below l are chained.
use Rattle.chart.specs.Net.{theory_in}
use Rattle.table.specs.Chains.{Chained}
use mathlib.Core.Path.{◌≡◌}
use lib.ListN.{length}
use Rattle.table.proofs.Chains.hang.Given as goal

abbrev pub invariant-loop-l : goal.invariant-loop-l
invariant-loop-l l = (length l.self.last ≡ 64) × (length l.self.before ≡ 512) × Chained (theory_in l.tariff.net.now) l.l l.self.last l.self.before
