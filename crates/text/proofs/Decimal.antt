-- A number in decimal is what the library calls so, as long as no more digits are wanted than are looked at.
use Prim.Native.Nat.{ℕ, zero, suc, ◌+◌, ◌^◌, ◌/◌, ◌%◌, ◌≤◌, ◌<◌}
use native.Mathlib.Omega.{arith}
use native.Mathlib.Decide.{dec_lt}
use borrow.Author.Tests.{lt-ltb, le-ltb}
use mathlib.Core.Path.{◌≡◌, sym, ap, ◌∙◌}
use mathlib.Core.List.{List, [], ◌∷◌, ◌++◌}
use mathlib.Core.Bool.{Bool, cond}
use Rattle.std.specs.Fmt.{decimal as std_decimal}
use Rattle.std.proofs.Math.Nat.{pow-suc}
use Rattle.std.proofs.lemmas.Fmt.{decimal_digit, decimal_step}
use Rattle.text.specs.Text.{decimal}

one-digit : (k n : ℕ) → n < 10 → decimal (suc k) n ≡ std_decimal n
one-digit k n h = ap (λ (b : Bool). cond b ((48 + n) ∷ []) (decimal k (n / 10) ++ ((48 + n % 10) ∷ []))) (lt-ltb n 10 h) ∙ sym (decimal_digit n h)

more-digits : (k n : ℕ) → 10 ≤ n → n < 2 ^ 64 → decimal k (n / 10) ≡ std_decimal (n / 10) → decimal (suc k) n ≡ std_decimal n
more-digits k n h small rest =
    ap (λ (b : Bool). cond b ((48 + n) ∷ []) (decimal k (n / 10) ++ ((48 + n % 10) ∷ []))) (le-ltb n 10 h)
    ∙ ap (λ (l : List ℕ). l ++ ((48 + n % 10) ∷ [])) rest ∙ sym (decimal_step n h small)

pub decimal-is : (k n : ℕ) → n < 10 ^ suc k → n < 2 ^ 64 → decimal (suc k) n ≡ std_decimal n
decimal-is zero n few small = one-digit zero n (omega arith)
decimal-is (suc j) n few small = at (dec_lt n 10) (decimal-is j (n / 10))
  where
    at : Dec (n < 10) → (n / 10 < 10 ^ suc j → n / 10 < 2 ^ 64 → decimal (suc j) (n / 10) ≡ std_decimal (n / 10)) → decimal (suc (suc j)) n ≡ std_decimal n
    at (yes h) rest = one-digit (suc j) n h
    at (no h) rest = more-digits (suc j) n (omega arith) small (rest (omega (arith, pow-suc 10 (suc j))) (omega arith))
