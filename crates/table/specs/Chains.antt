-- The legs of each place, as a chain that falls in leg number.
use Rattle.std.specs.Prelude.{ℕ, ◌+◌, ◌≤◌, ◌<◌, ◌≡◌, List, get_or, Option, Some, None}
use Rattle.plan.specs.Network.{Network}

-- of the legs below `bound`, `top` is one more than the highest that leaves p, or 0
pub record Next (N : Network) (p bound top : ℕ) : Type 0 where
  pub within : top ≤ bound
  pub all : (k : ℕ) → k < bound → N.source k ≡ p → k < top
  pub leaves : (k : ℕ) → top ≡ k + 1 → N.source k ≡ p

-- one more than the leg's number, and 0 for none
abbrev pub above : Option ℕ → ℕ
above None = 0
above (Some l) = l + 1

-- what a chain holds at a number, in the numbers of `Next`
abbrev pub link : List (Option ℕ) → ℕ → ℕ
link chain i = above (get_or chain i None)

-- the legs below n, chained
pub record Chained (N : Network) (n : ℕ) (last before : List (Option ℕ)) : Type 0 where
  pub lasts : (p : ℕ) → p < N.places → Next N p n (link last p)
  pub befores : (l : ℕ) → l < n → Next N (N.source l) l (link before l)
