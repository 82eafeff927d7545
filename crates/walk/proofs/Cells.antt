-- Where cells are: bounds of products, and what a test of one minute more tells of the first.
use Prim.Native.Nat.{ℕ, ◌*◌, ◌≤◌, ◌<◌}
use native.Mathlib.Nat.{mul-le-mul}
use native.Mathlib.Omega.{arith}

-- a cell's place is far below what 32 bits hold
pub small : (p w : ℕ) → p < 64 → w ≤ 2880 → p * w ≤ 181440
small p w hp hw = let few : p ≤ 63 = omega arith in mul-le-mul {m₁ = w} few hw
