-- Laws of added text: none, and one text behind another.
use Prim.Native.Nat.{ℕ, zero, suc, ◌+◌, ◌/◌, ◌%◌, ◌≤◌}
use native.Mathlib.Omega.{arith}
use mathlib.Core.Path.{refl, sym, ap, ◌∙◌}
use mathlib.Core.Bool.{Bool, true, false, cond}
use mathlib.Core.List.{List, [], ◌∷◌, ◌++◌, append_assoc, append-nil}
use lib.Dec.{ltb}
use lib.ListN.{length, take, length-append}
use Rattle.text.specs.Text.{decimal, item, line, Adds, Writes}
use Rattle.text.specs.declared.Page.{Page}

-- nothing
pub adds_none : (s : List ℕ) (at : ℕ) → at ≤ length s → Adds s s at at []
adds_none s at h = record { same_length = refl; to_is = omega arith; fits = h; reads = sym (append-nil (take at s)) }

-- one text behind another
pub adds_then : {s t u : List ℕ} {at m to : ℕ} {xs ys : List ℕ} → Adds s t at m xs → Adds t u m to ys → Adds s u at to (xs ++ ys)
adds_then {s} {t} {u} {at} {m} {to} {xs} {ys} a b =
    record {
      same_length = b.same_length ∙ a.same_length;
      to_is = omega (arith, a.to_is, b.to_is, length-append xs ys);
      fits = b.fits;
      reads = b.reads ∙ ap (λ (l : List ℕ). l ++ ys) a.reads ∙ append_assoc (take at s) xs ys;
    }

-- how long they are
pub few-digits : (most n : ℕ) → length (decimal most n) ≤ most
few-digits zero n = omega arith
few-digits (suc k) n = at (ltb n 10) (few-digits k (n / 10))
  where
    at : (b : Bool) → length (decimal k (n / 10)) ≤ k → length (cond b ((48 + n) ∷ []) (decimal k (n / 10) ++ ((48 + n % 10) ∷ []))) ≤ suc k
    at true h = omega arith
    at false h = omega (arith, length-append (decimal k (n / 10)) ((48 + n % 10) ∷ []), h)

pub writes_then : {p q r : Page} {xs ys : List ℕ} → Writes p q xs → Writes q r ys → Writes p r (xs ++ ys)
writes_then a b = record { adds = adds_then a.adds b.adds; same = b.same ∙ a.same }

-- the pieces' names
pub item-is : (p q r : Page) (name : List ℕ) (n : ℕ) → Writes p q name → Writes q r (decimal 10 n) → Writes p r (item name n)
unfolding item
item-is p q r name n a b = writes_then a b

pub line-is : (p q r : Page) (name : List ℕ) (n : ℕ) → Writes p q (item name n) → Writes q r (10 ∷ []) → Writes p r (line name n)
unfolding line
line-is p q r name n a b = writes_then a b

pub item-long : (name : List ℕ) (n : ℕ) → length (item name n) ≤ length name + 10
unfolding item
item-long name n = omega (arith, length-append name (decimal 10 n), few-digits 10 n)

pub line-long : (name : List ℕ) (n : ℕ) → length (line name n) ≤ length name + 11
unfolding line
line-long name n = omega (arith, length-append (item name n) (10 ∷ []), item-long name n)
