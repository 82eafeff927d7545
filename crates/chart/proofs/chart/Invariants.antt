-- `chart::chart`: the next leg stands just behind this one's bands.
use Prim.Native.Nat.{◌+◌, ◌*◌, ◌≤◌}
use mathlib.Core.Path.{◌≡◌}
use mathlib.Core.List.{List}
use Prim.Native.Nat.{ℕ}
use Rattle.std.specs.Prelude.{Ok}
use Rattle.network.specs.declared.Size.{Size}
use Rattle.network.specs.Network.{of_file}
use Rattle.network.specs.Answers.{network_found}
use Rattle.chart.proofs.Charting.{Charting}
use Rattle.chart.proofs.chart.Given as goal

-- what is charted so far, for the network that the file stands for
abbrev SoFar : List ℕ → ℕ → ℕ → ℕ → List ℕ → Type 0
SoFar net legs k place chart = (size : Size) → network_found (of_file net) ≡ Ok size → Charting net size.places legs k place chart

abbrev pub invariant-loop-k : goal.invariant-loop-k
invariant-loop-k l = (l.legs ≤ 512) × (l.place ≤ 25 + 252 * l.k) × SoFar l.file.net.now l.legs l.k l.place l.chart
