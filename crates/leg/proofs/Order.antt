-- What a test by the order of two minutes, or of two amounts, tells of their numbers.
use Prim.Native.Nat.{ℕ, ◌≤◌, ◌<◌}
use mathlib.Core.Path.{◌≡◌, refl, sym, ◌∙◌}
use mathlib.Core.Bool.{Bool, true, false}
use Rattle.std.proofs.Common.{Ordering, Less, Equal, Greater, is_lt, is_le, nat_cmp}
use Rattle.std.specs.Ordering.{MatchOrdering}
use Rattle.std.proofs.lemmas.Cmp.{ranked}
use Rattle.std.proofs.lemmas.Map.Keys.{ge_from_not_lt, le_from_is_le}

module _ (a b : ℕ) (r : Bool) where
  pub earlier : r ≡ is_lt (nat_cmp a b) → r ≡ true → a < b
  earlier is e = go (nat_cmp a b) (ranked a b _ refl) (sym is ∙ e) where
    go : (o : Ordering) → MatchOrdering o (a < b) (a ≡ b) (b < a) → is_lt o ≡ true → a < b
    go Less l e = l
    go Equal _ e = cc
    go Greater _ e = cc

  pub not-earlier : r ≡ is_lt (nat_cmp a b) → r ≡ false → b ≤ a
  not-earlier is e = ge_from_not_lt a b (sym is ∙ e)

  pub not-later : r ≡ is_le (nat_cmp a b) → r ≡ true → a ≤ b
  not-later is e = le_from_is_le a b (sym is ∙ e)

  pub later : r ≡ is_le (nat_cmp a b) → r ≡ false → b < a
  later is e = go (nat_cmp a b) (ranked a b _ refl) (sym is ∙ e) where
    go : (o : Ordering) → MatchOrdering o (a < b) (a ≡ b) (b < a) → is_le o ≡ false → b < a
    go Less _ e = cc
    go Equal _ e = cc
    go Greater l e = l
