-- A card is filled slot by slot, and nothing else is written. Assumes nothing.
use Prim.Native.Nat.{ℕ, ◌+◌, ◌≤◌}
use native.Mathlib.Omega.{arith}
use native.Mathlib.Nat.{zero-add}
use mathlib.Core.Path.{◌≡◌, ◌∙◌, ap, subst}
use mathlib.Core.Logic.{inr}
use mathlib.Core.List.{List}
use lib.ListN.{get_or}
use Rattle.card.specs.declared.Slot.{Slot}
use Rattle.card.specs.Card.{no_slot, slot, Blank, Written, Kept, Carded}

-- as many slots as were asked for
pub written_at : (s : List ℕ) (bit width : ℕ) (slots : List Slot) (at k count : ℕ) → k ≡ count → Written s bit width k slots at
    → Written s bit width count slots at
written_at s bit width slots at k count e h = subst (λ (n : ℕ). Written s bit width n slots at) e h

-- a blank card on which the first slots were written
pub carded : (s : List ℕ) (bit width count size : ℕ) (old slots : List Slot) (at : ℕ) → count ≤ size → Blank old at size
    → Written s bit width count slots at → Kept old slots at count → Carded s bit width count size slots at
carded s bit width count size old slots at few blank written kept = record {
  written = written;
  few = few;
  rest = λ k h l. ap (λ (x : Slot). x.minute.0) (kept.same (at + k) (inr (omega arith))) ∙ blank k l;
}

-- slot k of a card that begins its list
pub slot-first : (xs : List Slot) (k : ℕ) → slot xs 0 k ≡ get_or xs k no_slot
slot-first xs k = ap (λ (n : ℕ). get_or xs n no_slot) (zero-add k)
