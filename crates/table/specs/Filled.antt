-- What filling the table promises.
use Rattle.std.specs.Prelude.{ℕ, ◌-◌, ◌+◌, ◌*◌, ◌≤◌, ◌<◌, ◌≡◌, List, length}
use Rattle.plan.specs.Network.{asking}
use Rattle.plan.specs.Table.{MinuteTable, cell_at}
use Rattle.leg.specs.declared.Window.{Window}
use Rattle.network.specs.Reading.{found}
use Rattle.network.specs.Network.{Network, of_file}
use Rattle.network.specs.declared.Size.{Size}
use Rattle.chart.specs.Net.{theory}

-- of a network of this size: a start that is one of its places, a window within the clock, and a cell for each place and minute
pub record Fillable (size : Size) (start : ℕ) (window : Window) (cells : List ℕ) : Type 0 where
  pub home : start < size.places
  pub order : window.earliest.0 ≤ window.latest.0
  pub clock : window.latest.0 ≤ 2879
  pub long : length cells ≡ size.places * (window.latest.0 - window.earliest.0 + 1)

-- The cells are the minute table of the network that the file stands for, whatever the end; and as many as they were.
pub record Filled (net : List ℕ) (start : ℕ) (window : Window) (old new : List ℕ) : Type 0 where
  pub long : length new ≡ length old
  pub table : (n : Network) (last : ℕ) → of_file net ≡ found n last → (end : ℕ)
      → MinuteTable (theory n) (asking start end window.earliest.0 window.latest.0) (cell_at (asking start end window.earliest.0 window.latest.0) new)
