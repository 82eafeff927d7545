-- When bytes are a plan file, and when they are none. Assumes nothing.
use Prim.Native.Nat.{ℕ, zero, suc, ◌+◌, ◌-◌, ◌*◌, ◌≤◌, ◌<◌}
use native.Mathlib.Omega.{arith}
use mathlib.Core.Path.{◌≡◌, refl, sym, ◌∙◌, ap, subst}
use mathlib.Core.Bool.{true}
use mathlib.Core.List.{List}
use borrow.Author.Tests.{eq-eqb, eqb-true}
use lib.Dec.{eqb}
use lib.ListN.{length, get_or}
use Rattle.bits.specs.Field.{field}
use Rattle.bits.specs.Packed.{bytes_for, Holds}
use Rattle.bits.proofs.Fields.{field-zero}
use Rattle.source.specs.Source.{file_of}
use Rattle.source.proofs.Laws.{both_true}
use Rattle.plan_file.specs.PlanFile.{PlanFile, rides_fields}
use Rattle.plan_file.proofs.Files.{plan-bits, plan-size, plan-head, plan-read, rides-none, rides-more}
use Rattle.plan_reader.specs.InPlace.{ride_at, rides_at, file_at, Says, HeadAllowed}

pub rides-length : (s : List ℕ) (n : ℕ) → length (rides_at s n) ≡ n
unfolding rides_at
rides-length s zero = refl
rides-length s (suc n) = ap suc (rides-length s n)

rides-hold : (s : List ℕ) (n : ℕ) → Holds s 89 (rides_fields (rides_at s n))
unfolding rides_at
rides-hold s zero = rides-none s 89
rides-hold s (suc n) =
    let long = rides-length s n in
    rides-more s 89 (ride_at s n) (rides_at s n) (rides-hold s n) (rw long) (rw long)

module _ (s : List ℕ) where
  -- the bytes are the file that they say
  pub says_here : HeadAllowed s → (file_of s).ends (89 + 21 * field s 77 12) ≡ true → ((i : ℕ) → get_or s i 0 < 256) → Says s (file_at s)
  says_here h ends byte =
      let n = field s 77 12 in
      let long = rides-length s n in
      let e = both_true (eqb (length s) (bytes_for (89 + 21 * n))) (eqb (field s (89 + 21 * n) (8 * length s - (89 + 21 * n))) 0) ends in
      record {
        file =
            plan-read (file_at s) s
            (record { edition = h.edition; verdict = refl; start = refl; end = refl; earliest = refl; latest = refl; price = refl; legs = sym long })
            (rides-hold s n) (rw long (eqb-true (length s) (bytes_for (89 + 21 * n)) e.0))
            (rw long (eqb-true (field s (89 + 21 * n) (8 * length s - (89 + 21 * n))) 0 e.1)) byte;
        allowed = record { few = omega (arith, long, h.few); none_price = h.none_price; none_legs = λ z. long ∙ h.none_legs z };
      }

  module _ (f : PlanFile) (h : Says s f) where
    -- what holds of bytes that are a plan file
    pub says-long : 12 ≤ length s
    says-long = omega (arith, plan-size f s h.file)

    pub says_head : HeadAllowed s
    says_head =
        let d = plan-head f s h.file in
        record {
          edition = d.edition;
          few = omega (arith, d.legs, h.allowed.few);
          none_price = λ e. d.price ∙ h.allowed.none_price (sym d.verdict ∙ e);
          none_legs = λ e. d.legs ∙ h.allowed.none_legs (sym d.verdict ∙ e);
        }

    pub says-ends : (file_of s).ends (89 + 21 * field s 77 12) ≡ true
    says-ends =
        let d = plan-head f s h.file in
        let n = field s 77 12 in
        let size : length s ≡ bytes_for (89 + 21 * n) = rw d.legs (plan-size f s h.file) in
        let fill : field s (89 + 21 * n) (8 * length s - (89 + 21 * n)) ≡ 0 =
        field-zero s (89 + 21 * n) (8 * length s - (89 + 21 * n))
        (λ p low high. h.file.written.fill p (omega (arith, plan-bits f, d.legs))) in
        rw (eq-eqb (length s) (bytes_for (89 + 21 * n)) size)
        (eq-eqb (field s (89 + 21 * n) (8 * length s - (89 + 21 * n))) 0 fill)

    pub says-one : f ≡ file_at s → Says s (file_at s)
    says-one e = subst (λ (x : PlanFile). Says s x) e h

-- the plan file has room for each of its rides, and has few
module _ (s : List ℕ) (h : Says s (file_at s)) where
  pub says-few : field s 77 12 ≤ 63
  says-few = (says_head s (file_at s) h).few

  pub says-room : 89 + 21 * field s 77 12 ≤ 8 * length s
  says-room = omega (arith, plan-size (file_at s) s h.file, rides-length s (field s 77 12))
