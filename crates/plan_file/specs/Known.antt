-- Document 01, answer 6: what a query must be for a network.
use Rattle.std.specs.Prelude.{ℕ, Bool, ◌&&◌, leb, ltb}
use Rattle.leg.specs.Ranges.{last_minute}
use Rattle.plan.specs.Network.{Query}

-- start and end are two of so many places, and the times are minutes
abbrev pub known : ℕ → Query → Bool
known places q = ltb q.start places && ltb q.end places && leb q.earliest last_minute && leb q.latest last_minute
