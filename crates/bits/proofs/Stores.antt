-- A number stored as the library writes it.
use Prim.Native.Nat.{ℕ, zero, suc, ◌+◌, ◌-◌, ◌*◌, ◌%◌, ◌^◌, ◌≤◌, ◌<◌}
use native.Mathlib.Nat.{zero-add, mod-eq_of_lt, mod-lt}
use native.Mathlib.Omega.{arith}
use mathlib.Core.Path.{◌≡◌, sym, ap, ◌∙◌}
use mathlib.Core.List.{List}
use lib.ListN.{get_or}
use Rattle.std.specs.Int.{w64, to_be_bytes, bytes_high_first}
use Rattle.std.proofs.lemmas.Nat.{from_be_bytes-to_be_bytes_8}
use Rattle.bits.specs.Field.{field}
use Rattle.bits.proofs.Fields.{part-last}
use Rattle.bits.proofs.Bytes.{eight_bytes, moved}

-- each byte of a number is below 256
small : (k x j : ℕ) → get_or (bytes_high_first k x) j 0 < 256
small zero x j = omega arith
small (suc zero) x zero = mod-lt _ (omega arith)
small (suc (suc k)) x zero = mod-lt _ (omega arith)
small (suc k) x (suc j) = small k x j

-- where the lowest n bytes of a number stand, they spell it
pub low_bytes : (s : List ℕ) (i n x : ℕ) → n ≤ 8 → x < 2 ^ (8 * n) → x < 2 ^ 64 → ((k : ℕ) → k < n → get_or s (i + k) 0 ≡ get_or (to_be_bytes w64 x) (8 - n + k) 0)
    → field s (8 * i) (8 * n) ≡ x
low_bytes s i n x few below wide same =
    let bytes = to_be_bytes w64 x in
    let m = 8 - n in
    let whole : 64 ≡ 8 * m + 8 * n = omega arith in
    let spelt = sym (from_be_bytes-to_be_bytes_8 x wide) ∙ eight_bytes bytes (λ j h. small 8 x j) ∙ ap (λ (w : ℕ). field bytes 0 w) whole in
    let last : x % 2 ^ (8 * n) ≡ field bytes (8 * m) (8 * n) = part-last bytes 0 (8 * m) (8 * n) spelt ∙ ap (λ (p : ℕ). field bytes p (8 * n)) (zero-add (8 * m)) in
    moved s bytes i m n same ∙ sym last ∙ mod-eq_of_lt below
