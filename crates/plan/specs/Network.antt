-- Networks and queries. How a network is written in a file, and how bands give a toll, is no part of this.
use Rattle.std.specs.Prelude.{ℕ, ◌+◌, ◌≤◌, ◌<◌, Bool, T}

-- A minute of the clock, or a driving time. Names only: the laws compute with them, and the code's own types keep them apart.
abbrev pub Minute : Type 0
Minute = ℕ

-- An amount of toll.
abbrev pub Cents : Type 0
Cents = ℕ

-- A network: how many places and legs, and of each leg where it goes from and to, how long it takes, when it may be left for and at what toll.
pub record Network : Type 0 where
  pub places : ℕ
  pub legs : ℕ
  pub source : ℕ → ℕ
  pub target : ℕ → ℕ
  pub time : ℕ → Minute
  pub goes : ℕ → Minute → Bool
  pub toll : ℕ → Minute → Cents

-- The ranges that a network keeps: 64 places at most, legs between its places, tolls of 65,535 cents at most.
pub record InRange (N : Network) : Type 0 where
  pub few : N.places ≤ 64
  pub sources : (l : ℕ) → l < N.legs → N.source l < N.places
  pub targets : (l : ℕ) → l < N.legs → N.target l < N.places
  pub tolls : (l : ℕ) (d : Minute) → l < N.legs → N.toll l d ≤ 65535

-- A query: from where to where, not before when, and when at the latest.
pub record Query : Type 0 where
  pub start : ℕ
  pub end : ℕ
  pub earliest : Minute
  pub latest : Minute

-- The query that four numbers make.
abbrev pub asking : ℕ → ℕ → Minute → Minute → Query
asking start end earliest latest = record { start = start; end = end; earliest = earliest; latest = latest }

-- What holds of network and query before anything is planned: ranges kept, both places there, and a window that is not empty.
pub record Askable (N : Network) (q : Query) : Type 0 where
  pub ranges : InRange N
  pub home : q.start < N.places
  pub goal : q.end < N.places
  pub window : q.earliest ≤ q.latest

-- A place of the network and a minute of the window.
pub record Within (N : Network) (q : Query) (p : ℕ) (t : Minute) : Type 0 where
  pub place : p < N.places
  pub early : q.earliest ≤ t
  pub late : t ≤ q.latest

-- Leg l may be left for at minute d: it goes then, d is not before earliest, and the arrival not after latest.
pub record Leaves (N : Network) (q : Query) (l : ℕ) (d : Minute) : Type 0 where
  pub known : l < N.legs
  pub goes : T (N.goes l d)
  pub early : q.earliest ≤ d
  pub late : d + N.time l ≤ q.latest
