-- One column further: what the loops over a row go by.
use Prim.Native.Nat.{ℕ, ◌+◌, ◌-◌, ◌≤◌, ◌<◌, min}
use native.Mathlib.Omega.{arith}
use native.Mathlib.Decide.{ℕ_discrete, dec_lt}
use mathlib.Core.Path.{◌≡◌, sym, ◌∙◌, ap}
use mathlib.Core.Logic.{◌≢◌}
use mathlib.Core.List.{List}
use lib.ListN.{length, set, length-set}
use lib.Seq.{get_or-set_same, get_or-set_other}
use Rattle.rows.specs.Row.{at, Since, Settle}

-- ---- settling

module _ (old new copy : List ℕ) (from j best v : ℕ) (s : Settle old new copy from j) (starts : from ≤ j) (there : j < length new) (room : j < length copy)
    (is : best ≡ at new (j - 1)) (least : v ≡ min (at new j) best) where
  -- what is settled at column j, and what stays
  settle-here : at (set new j v) j ≡ v
  settle-here = get_or-set_same new j v 0 there

  settle-else : (i : ℕ) → i ≢ j → at (set new j v) i ≡ at new i
  settle-else i n = get_or-set_other new j i v 0 n

  -- the smaller of the two stood here, or before
  settle-since : Dec (at new j < best) → Since old j v
  settle-since (yes h) = record { column = j; before = omega arith; there = omega (arith, s.after j (omega arith)) }
  settle-since (no h) =
      let b = s.since (j - 1) in
      record { column = b.column; before = omega (arith, b.before); there = omega (arith, b.there) }

  settle-each : (i : ℕ) → Dec (i ≡ j) → (at (set new j v) i ≤ at old i) × Since old i (at (set new j v) i)
  settle-each i (no n) = (omega (arith, settle-else i n, s.below i), rw (settle-else i n) (s.since i))
  settle-each i (yes e) =
      rw (e, settle-here) (omega (arith, s.below j), settle-since (dec_lt (at new j) best))

  settle-falls : (i : ℕ) → from ≤ i + 1 → i + 1 < j + 1 → Dec (i + 1 ≡ j) → at (set new j v) (i + 1) ≤ at (set new j v) i
  settle-falls i f u (yes e) =
      let back : j - 1 ≡ i = omega arith in
      let was : best ≡ at new i = is ∙ ap (at new) back in
      rw e (omega (arith, settle-here, settle-else i (omega arith), was))
  settle-falls i f u (no n) = omega (arith, settle-else i (omega arith), settle-else (i + 1) n, s.falls i f (omega arith))

  settle-copied : (i : ℕ) → from ≤ i → i < j + 1 → Dec (i ≡ j) → at (set copy j v) i ≡ at (set new j v) i
  settle-copied i f u (yes e) = rw (e, settle-here) (get_or-set_same copy j v 0 room)
  settle-copied i f u (no n) = get_or-set_other copy j i v 0 n ∙ s.copied i f (omega arith) ∙ sym (settle-else i n)

  pub settle-more : Settle old (set new j v) (set copy j v) from (j + 1)
  settle-more = record {
    long = length-set new j v ∙ s.long;
    before = λ i h. settle-else i (omega arith) ∙ s.before i h;
    after = λ i h. settle-else i (omega arith) ∙ s.after i (omega arith);
    below = λ i. (settle-each i (ℕ_discrete i j)).0;
    since = λ i. (settle-each i (ℕ_discrete i j)).1;
    falls = λ i f u. settle-falls i f u (ℕ_discrete (i + 1) j);
    copied = λ i f u. settle-copied i f u (ℕ_discrete i j);
  }

  pub settle-best : v ≡ at (set new j v) (j + 1 - 1)
  settle-best =
      let back : j + 1 - 1 ≡ j = omega arith in
      rw (back, settle-here)
