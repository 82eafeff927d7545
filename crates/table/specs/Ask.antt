-- What is asked of the table.
use Rattle.std.specs.Prelude.{ℕ, ◌-◌, ◌+◌, ◌≤◌, ◌<◌}
use Rattle.plan.specs.Network as Plan
use Rattle.plan.specs.Network.{asking}
use Rattle.network.specs.declared.Size.{Size}
use Rattle.table.specs.declared.Ask.{Ask}

-- the query with this end: cells do not go by it
abbrev pub query_to : Ask → ℕ → Plan.Query
query_to ask end = asking ask.start end ask.window.earliest.0 ask.window.latest.0

-- the code's question as the theory's query
abbrev pub query : Ask → Plan.Query
query ask = query_to ask ask.start

-- the number of columns
abbrev pub columns : Ask → ℕ
columns ask = ask.window.latest.0 - ask.window.earliest.0 + 1

-- the start is a place, and the window is not empty and within the clock
pub record Askable (ask : Ask) (size : Size) : Type 0 where
  pub home : ask.start < size.places
  pub window : ask.window.earliest.0 ≤ ask.window.latest.0
  pub clock : ask.window.latest.0 ≤ 2879
