-- Counting the slots of a card that have begun: since none begins before the one in front of it, those counted are the first. Assumes nothing.
use Prim.Native.Nat.{ℕ, ◌≤◌, ◌<◌}
use mathlib.Core.List.{List}
use Rattle.card.specs.declared.Slot.{Slot}
use Rattle.card.specs.Card.{slot}

-- of the first k slots just the first n have begun at minute t
pub record Counted (slots : List Slot) (at t n k : ℕ) : Type 0 where
  pub few : n ≤ k
  pub before : (j : ℕ) → j < n → (slot slots at j).minute.0 ≤ t
  pub after : (j : ℕ) → n ≤ j → j < k → t < (slot slots at j).minute.0
