-- Tests that antt computes: of all numbers in a stretch, and of some number below a bound. Assumes nothing.
use Prim.Native.Nat.{ℕ, zero, suc, ◌+◌, ◌≤◌, ◌<◌}
use native.Mathlib.Omega.{arith}
use native.Mathlib.Decide.{ℕ_discrete}
use mathlib.Core.Path.{◌≡◌, sym, subst}
use mathlib.Core.Logic.{◌≢◌, ◌⊎◌, inl, inr}
use mathlib.Core.Bool.{Bool, true, false, not, ◌&&◌, ◌||◌}
use lib.Dec.{T, eqb, eqb→eq, eqb_refl, T_not}

pub and_left : (a b : Bool) → T (a && b) → T a
and_left true b h = tt
and_left false b h = absurd h

pub and_right : (a b : Bool) → T (a && b) → T b
and_right true b h = h
and_right false b h = absurd h

pub and_both : (a b : Bool) → T a → T b → T (a && b)
and_both true b h k = k
and_both false b h k = absurd h

pub or_cases : (a b : Bool) → T (a || b) → T a ⊎ T b
or_cases true b h = inl tt
or_cases false b h = inr h

-- unless a holds, b does
pub unless_not : (a b : Bool) → T (not a || b) → T a → T b
unless_not true b h k = h
unless_not false b h k = absurd k

pub eq-eqb : (m n : ℕ) → m ≡ n → T (eqb m n)
eq-eqb m n e = subst (λ (x : ℕ). T (eqb m x)) e (eqb_refl m)

pub not_eqb : (m n : ℕ) → T (not (eqb m n)) → m ≢ n
not_eqb m n h e = T_not (eqb m n) h (eq-eqb m n e)

-- what a test says of a fact
abbrev pub Is : Bool → Type 0 → Type 0
Is true P = P
Is false P = P → ⊥

pub eqb_is : (m n : ℕ) → Is (eqb m n) (m ≡ n)
eqb_is m n = at (eqb m n) (λ (t : T (eqb m n)). eqb→eq m n t) (eq-eqb m n)
  where
    at : (b : Bool) → (T b → m ≡ n) → (m ≡ n → T b) → Is b (m ≡ n)
    at true f g = f tt
    at false f g = g

-- f holds of the n numbers from a on
unfoldable pub every_from : ℕ → ℕ → (ℕ → Bool) → Bool
every_from zero a f = true
every_from (suc n) a f = f a && every_from n (suc a) f

pub every-at : (n a : ℕ) (f : ℕ → Bool) → T (every_from n a f) → (k : ℕ) → a ≤ k → k < a + n → T (f k)
unfolding every_from
every-at zero a f h k low high = absurd (omega arith)
every-at (suc n) a f h k low high =
    at (ℕ_discrete a k)
    (λ (l : suc a ≤ k). every-at n (suc a) f (and_right (f a) (every_from n (suc a) f) h) k l (omega arith))
  where
    at : Dec (a ≡ k) → (suc a ≤ k → T (f k)) → T (f k)
    at (yes e) ih = subst (λ (x : ℕ). T (f x)) e (and_left (f a) (every_from n (suc a) f) h)
    at (no ne) ih = ih (omega arith)

-- f holds of some number below n
unfoldable pub any_below : ℕ → (ℕ → Bool) → Bool
any_below zero f = false
any_below (suc n) f = f n || any_below n f

pub any_at : (n : ℕ) (f : ℕ → Bool) → T (any_below n f) → (k : ℕ) × (k < n) × T (f k)
unfolding any_below
any_at zero f h = absurd h
any_at (suc n) f h = at (or_cases (f n) (any_below n f) h) (λ (t : T (any_below n f)). any_at n f t)
  where
    at : T (f n) ⊎ T (any_below n f) → (T (any_below n f) → (k : ℕ) × (k < n) × T (f k)) → (k : ℕ) × (k < suc n) × T (f k)
    at (inl t) ih = (n, omega arith, t)
    at (inr t) ih = let (k, l, h') = ih t in (k, omega arith, h')

or_left : (a b : Bool) → T a → T (a || b)
or_left true b h = tt
or_left false b h = absurd h

or_right : (a b : Bool) → T b → T (a || b)
or_right true b h = tt
or_right false b h = h

pub at-any : (n : ℕ) (f : ℕ → Bool) (k : ℕ) → k < n → T (f k) → T (any_below n f)
unfolding any_below
at-any zero f k l h = absurd (omega arith)
at-any (suc n) f k l h = at (ℕ_discrete n k) (λ (m : k < n). at-any n f k m h)
  where
    at : Dec (n ≡ k) → (k < n → T (any_below n f)) → T (f n || any_below n f)
    at (yes e) ih = or_left (f n) (any_below n f) (subst (λ (x : ℕ). T (f x)) (sym e) h)
    at (no ne) ih = or_right (f n) (any_below n f) (ih (omega arith))
