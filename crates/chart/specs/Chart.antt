-- A chart of a network file: the bit at which each leg stands.
use Rattle.std.specs.Prelude.{ℕ, ◌≤◌, ◌<◌, ◌≡◌, List, length, get_or}
use Rattle.plan.specs.Legs.{no_leg}
use Rattle.source.specs.Source.{file_of}
use Rattle.network.specs.Reading.{found}
use Rattle.network.specs.Network.{Network, edition1, leg, of_file}

-- place k of the chart is the bit at which leg k stands in the file
pub record Charted (s : List ℕ) (net : Network) (chart : List ℕ) : Type 0 where
  pub stands : (k : ℕ) → k < length net.legs
      → (end : ℕ) × (leg edition1 net.places (file_of s) (get_or chart k 0) ≡ found (get_or net.legs k no_leg) end)
  pub near : (k : ℕ) → get_or chart k 0 ≤ 200000

-- it is the chart of the network that the file stands for
abbrev pub Chart : List ℕ → List ℕ → Type 0
Chart s chart = (net : Network) (end : ℕ) → of_file s ≡ found net end → Charted s net chart
