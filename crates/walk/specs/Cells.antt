-- Where the cells of a table are, and the first minute at which a place has what it has later.
use Rattle.std.specs.Prelude.{ℕ, ◌+◌, ◌*◌, ◌/◌, ◌≤◌, ◌<◌, ◌≡◌, ◌≢◌, List, length}
use Rattle.plan.specs.Network.{Minute, Query}
use Rattle.plan.specs.Table.{width}

-- the cell of place p and minute t is in the table, and counting it wraps nothing
pub record InTable (cells : List ℕ) (q : Query) (p : ℕ) (t : Minute) : Type 0 where
  pub early : q.earliest ≤ t
  pub late : t ≤ q.latest
  pub last : q.latest ≤ 2879
  pub place : p < 64
  pub room : p * width q + width q ≤ length cells

-- a is the first minute at which the cell of p, but for what the unit hides, is that of t
pub record FirstLike (q : Query) (c : ℕ → Minute → ℕ) (p : ℕ) (unit : ℕ) (t a : Minute) : Type 0 where
  pub early : q.earliest ≤ a
  pub late : a ≤ t
  pub like : c p a / unit ≡ c p t / unit
  pub first : (u : Minute) → q.earliest ≤ u → u < a → c p u / unit ≢ c p t / unit
