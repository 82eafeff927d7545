-- The plan file's laws: how long it is, that its fields are taken back, and that file and record determine one another.
use Prim.Native.Nat.{ℕ, ◌+◌, ◌-◌, ◌*◌, ◌<◌}
use native.Mathlib.Omega.{arith}
use mathlib.Core.Path.{◌≡◌, refl, sym, ap, ◌∙◌, subst}
use mathlib.Core.Bool.{cond}
use mathlib.Core.Option.{none, some}
use mathlib.Core.List.{List, [], ◌∷◌}
use borrow.Author.Tests.{eq-eqb, ne_eqb}
use lib.ListN.{length, get_or}
use Rattle.bits.specs.Field.{field}
use Rattle.bits.specs.Packed.{item, bits_of, Holds}
use Rattle.bits.proofs.Packing.{bits-append, holds-none, holds-cons, holds-head, holds-tail, holds-append, holds-first, holds-last, packed-of-read, packed-unique}
use Rattle.plan.specs.Network.{Cents, Query}
use Rattle.plan.specs.Plan.{Ride}
use Rattle.plan_file.specs.Puts.{Puts}
use Rattle.plan_file.proofs.Puts.{puts_then, puts-front, puts-packed}
use Rattle.plan_file.specs.PlanFile.{PlanFile, ride_of, ride_fields, rides_fields, head_fields, plan_fields, plan_bytes, FileOf, stated_cost}

-- the stated cost, by the verdict
pub stated-none : (verdict : ℕ) (x : Cents) → verdict ≡ 0 → stated_cost verdict x ≡ none
stated-none verdict x e = ap (λ b. cond b none (some x)) (eq-eqb verdict 0 e)

pub stated-some : (verdict : ℕ) (x : Cents) → (verdict ≡ 0 → ⊥) → stated_cost verdict x ≡ some x
stated-some verdict x n = ap (λ b. cond b none (some x)) (ne_eqb verdict 0 n)

-- 21 bits a ride
pub rides-bits : (rs : List Ride) → bits_of (rides_fields rs) ≡ 21 * length rs
unfolding rides_fields
rides-bits [] = refl
rides-bits (r ∷ rs) = bits-append (rides_fields rs) (ride_fields r) ∙ omega (arith, rides-bits rs)

-- 89 bits before them
pub plan-bits : (f : PlanFile) → bits_of (plan_fields f) ≡ 89 + 21 * length f.rides
plan-bits f =
    bits-append (head_fields f.verdict f.query f.price (length f.rides)) (rides_fields f.rides)
    ∙ omega (arith, rides-bits f.rides)

pub plan-size : (f : PlanFile) (s : List ℕ) → FileOf f s → length s ≡ plan_bytes (length f.rides)
plan-size f s h = omega (arith, h.size, plan-bits f)

-- no rides, and one ride more behind them: how a reader goes on
pub rides-none : (s : List ℕ) (at : ℕ) → Holds s at (rides_fields [])
unfolding rides_fields
rides-none s at = holds-none s at

pub rides-more : (s : List ℕ) (at : ℕ) (r : Ride) (rs : List Ride) → Holds s at (rides_fields rs)
    → field s (at + 21 * length rs) 9 ≡ r.leg → field s (at + 21 * length rs + 9) 12 ≡ r.leave → Holds s at (rides_fields (r ∷ rs))
unfolding rides_fields
rides-more s at r rs h leg leave =
    let long = rides-bits rs in
    holds-append s at (rides_fields rs) (ride_fields r) h
    (rw long
    (holds-cons s (at + 21 * length rs) (item 9 r.leg) (item 12 r.leave ∷ []) leg
    (holds-cons s (at + 21 * length rs + 9) (item 12 r.leave) [] leave (holds-none s _))))

-- and back: what one more ride tells
pub rides-last : (s : List ℕ) (at : ℕ) (r : Ride) (rs : List Ride) → Holds s at (rides_fields (r ∷ rs))
    → Holds s at (rides_fields rs) × (field s (at + 21 * length rs) 9 ≡ r.leg) × (field s (at + 21 * length rs + 9) 12 ≡ r.leave)
unfolding rides_fields
rides-last s at r rs h =
    let last : Holds s (at + 21 * length rs) (ride_fields r) =
    rw (rides-bits rs) at (holds-last s at (rides_fields rs) (ride_fields r) h) in (
      holds-first s at (rides_fields rs) (ride_fields r) h,
      holds-head s (at + 21 * length rs) (item 9 r.leg) (item 12 r.leave ∷ []) last,
      holds-head s (at + 21 * length rs + 9) (item 12 r.leave) []
          (holds-tail s (at + 21 * length rs) (item 9 r.leg) (item 12 r.leave ∷ []) last),
    )

-- as many rides in the same bytes are the same rides
pub rides-once : (s : List ℕ) (at : ℕ) (rs ss : List Ride) → length rs ≡ length ss → Holds s at (rides_fields rs) → Holds s at (rides_fields ss) → rs ≡ ss
rides-once s at [] [] e h k = refl
rides-once s at [] (r ∷ ss) e h k = absurd (omega arith)
rides-once s at (r ∷ rs) [] e h k = absurd (omega arith)
rides-once s at (r ∷ rs) (o ∷ ss) e h k =
    let same : length rs ≡ length ss = omega arith in
    let a = rides-last s at r rs h in
    let b = rides-last s at o ss k in
    let rest : rs ≡ ss = rides-once s at rs ss same a.0 b.0 in
    let leg : r.leg ≡ o.leg = sym a.1 ∙ rw same b.1 in
    let leave : r.leave ≡ o.leave = sym a.2 ∙ rw same b.2 in
    let ride : r ≡ o = ap (λ (x : ℕ). ride_of x r.leave) leg ∙ ap (ride_of o.leg) leave in
    cc

-- THE HEAD, TAKEN BACK: each field by its place and width
pub record Head (s : List ℕ) (f : PlanFile) : Type 0 where
  pub edition : field s 0 8 ≡ 1
  pub verdict : field s 8 1 ≡ f.verdict
  pub start : field s 9 6 ≡ f.query.start
  pub end : field s 15 6 ≡ f.query.end
  pub earliest : field s 21 12 ≡ f.query.earliest
  pub latest : field s 33 12 ≡ f.query.latest
  pub price : field s 45 32 ≡ f.price
  pub legs : field s 77 12 ≡ length f.rides

module _ (s : List ℕ) (f : PlanFile) where
  pub head_of : Holds s 0 (head_fields f.verdict f.query f.price (length f.rides)) → Head s f
  head_of h =
      let q = f.query in
      let t₁ = holds-tail s 0 (item 8 1) _ h in
      let t₂ = holds-tail s 8 (item 1 f.verdict) _ t₁ in
      let t₃ = holds-tail s 9 (item 6 q.start) _ t₂ in
      let t₄ = holds-tail s 15 (item 6 q.end) _ t₃ in
      let t₅ = holds-tail s 21 (item 12 q.earliest) _ t₄ in
      let t₆ = holds-tail s 33 (item 12 q.latest) _ t₅ in
      let t₇ = holds-tail s 45 (item 32 f.price) _ t₆ in
      record {
        edition = holds-head s 0 (item 8 1) _ h;
        verdict = holds-head s 8 (item 1 f.verdict) _ t₁;
        start = holds-head s 9 (item 6 q.start) _ t₂;
        end = holds-head s 15 (item 6 q.end) _ t₃;
        earliest = holds-head s 21 (item 12 q.earliest) _ t₄;
        latest = holds-head s 33 (item 12 q.latest) _ t₅;
        price = holds-head s 45 (item 32 f.price) _ t₆;
        legs = holds-head s 77 (item 12 (length f.rides)) _ t₇;
      }

  pub head-holds : Head s f → Holds s 0 (head_fields f.verdict f.query f.price (length f.rides))
  head-holds h =
      let q = f.query in
      holds-cons s 0 (item 8 1) _ h.edition
      (holds-cons s 8 (item 1 f.verdict) _ h.verdict
      (holds-cons s 9 (item 6 q.start) _ h.start
      (holds-cons s 15 (item 6 q.end) _ h.end
      (holds-cons s 21 (item 12 q.earliest) _ h.earliest
      (holds-cons s 33 (item 12 q.latest) _ h.latest
      (holds-cons s 45 (item 32 f.price) _ h.price
      (holds-cons s 77 (item 12 (length f.rides)) [] h.legs (holds-none s 89))))))))

-- what a plan file's bytes tell: its head, and its rides from bit 89 on
pub plan-head : (f : PlanFile) (s : List ℕ) → FileOf f s → Head s f
plan-head f s h = head_of s f (holds-first s 0 (head_fields f.verdict f.query f.price (length f.rides)) (rides_fields f.rides) h.written.holds)

pub plan-rides : (f : PlanFile) (s : List ℕ) → FileOf f s → Holds s 89 (rides_fields f.rides)
plan-rides f s h = holds-last s 0 (head_fields f.verdict f.query f.price (length f.rides)) (rides_fields f.rides) h.written.holds

-- bytes that were read so, with zero fill bits and nothing behind them, are the file
pub plan-read : (f : PlanFile) (s : List ℕ) → Head s f → Holds s 89 (rides_fields f.rides)
    → length s ≡ plan_bytes (length f.rides)
    → field s (89 + 21 * length f.rides) (8 * length s - (89 + 21 * length f.rides)) ≡ 0
    → ((i : ℕ) → get_or s i 0 < 256) → FileOf f s
plan-read f s h rides size fill byte =
    let bits = plan-bits f in
    packed-of-read (plan_fields f) s (size ∙ omega arith)
    (holds-append s 0 (head_fields f.verdict f.query f.price (length f.rides)) (rides_fields f.rides) (head-holds s f h) rides)
    (rw bits fill) byte

-- THE RECORD DETERMINES THE FILE
pub one-file : (f : PlanFile) (s t : List ℕ) → FileOf f s → FileOf f t → s ≡ t
one-file f s t h k = packed-unique (plan_fields f) s t h k

-- AND THE FILE THE RECORD
pub one-plan : (f g : PlanFile) (s : List ℕ) → FileOf f s → FileOf g s → f ≡ g
one-plan f g s h k =
    let a = plan-head f s h in
    let b = plan-head g s k in
    let legs : length f.rides ≡ length g.rides = sym a.legs ∙ b.legs in
    let rides = rides-once s 89 f.rides g.rides legs (plan-rides f s h) (plan-rides g s k) in
    same (sym a.verdict ∙ b.verdict)
    (ask-same (sym a.start ∙ b.start) (sym a.end ∙ b.end) (sym a.earliest ∙ b.earliest) (sym a.latest ∙ b.latest))
    (sym a.price ∙ b.price) rides
  where
    ask-same : {x y : Query} → x.start ≡ y.start → x.end ≡ y.end → x.earliest ≡ y.earliest → x.latest ≡ y.latest → x ≡ y
    ask-same e₁ e₂ e₃ e₄ = λ i. record { start = e₁ i; end = e₂ i; earliest = e₃ i; latest = e₄ i }

    same : {x y : PlanFile} → x.verdict ≡ y.verdict → x.query ≡ y.query → x.price ≡ y.price → x.rides ≡ y.rides → x ≡ y
    same e₁ e₂ e₃ e₄ = λ i. record { verdict = e₁ i; query = e₂ i; price = e₃ i; rides = e₄ i }

-- THE RIDES ARE PUT FROM THE LAST TO THE FIRST: none, and one in front of which the others are put afterwards
pub puts-no-rides : (s : List ℕ) (at : ℕ) → ((i : ℕ) → get_or s i 0 < 256) → Puts s s at (rides_fields [])
unfolding rides_fields
puts-no-rides s at byte =
    record {
      same_length = refl;
      holds = holds-none s at;
      bits_before = λ p to. refl;
      bits_after = λ p from. refl;
      byte = byte;
    }

pub puts-ride : (s t u : List ℕ) (at : ℕ) (r : Ride) (rs : List Ride) → Puts s t (at + 21 * length rs) (ride_fields r) → Puts t u at (rides_fields rs)
    → Puts s u at (rides_fields (r ∷ rs))
unfolding rides_fields
puts-ride s t u at r rs h k =
    puts-front (subst (λ (n : ℕ). Puts s t (at + n) (ride_fields r)) (sym (rides-bits rs)) h) k

-- behind the head they make the whole file
pub puts-file : (s t u : List ℕ) (f : PlanFile) → ((i : ℕ) → get_or s i 0 ≡ 0) → length s ≡ plan_bytes (length f.rides)
    → Puts s t 0 (head_fields f.verdict f.query f.price (length f.rides)) → Puts t u 89 (rides_fields f.rides) → FileOf f u
puts-file s t u f zeros size h k =
    puts-packed zeros (size ∙ omega (arith, plan-bits f))
    (puts_then {fs = head_fields f.verdict f.query f.price (length f.rides)} h k)
