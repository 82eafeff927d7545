-- Walking a leg's bands forward: the toll of the last band passed is the leg's toll, up to the next band's start. Assumes nothing.
use Prim.Native.Nat.{ℕ, zero, suc, ◌+◌, ◌-◌, ◌≤◌, ◌<◌}
use native.Mathlib.Omega.{arith}
use native.Mathlib.Decide.{dec_lt}
use mathlib.Core.Path.{◌≡◌, sym, ◌∙◌, ap, subst}
use borrow.Author.Tests.{lt-ltb, le-ltb}
use lib.ListN.{get_or}
use Rattle.leg.specs.declared.Leg.{Leg}
use Rattle.leg.specs.Ranges.{no_band}
use Rattle.leg.specs.Toll.{toll_of_first, toll_at, either}
use Rattle.leg.proofs.Laws.{toll-begun, toll-later}
use Rattle.plan.specs.Network.{Minute}
use Rattle.rule_b.specs.declared.tolls.Tolls.{Tolls}
use Rattle.rule_b.specs.Rule.{InOrder}
use Rattle.rule_b.specs.Held.{start_or, Passed}
use Rattle.rule_b.specs.Cursor.{leg_of, Fresh, Onward, Banded}

pub start_none : (leg : Leg) (k : ℕ) → leg.count ≤ k → start_or leg k ≡ 4096
unfolding either
start_none leg k h = rw (le-ltb k leg.count h, either)

pub start-some : (leg : Leg) (k : ℕ) → k < leg.count → start_or leg k ≡ (get_or leg.bands k no_band).start.0
unfolding either
start-some leg k h = rw (lt-ltb k leg.count h, either)

-- a next start that is a minute is that of a band
pub some_band : (leg : Leg) (k next : ℕ) → next ≡ start_or leg k → next < 4096 → k < leg.count
some_band leg k next e h = at (dec_lt k leg.count)
  where
    at : Dec (k < leg.count) → k < leg.count
    at (yes l) = l
    at (no n) = absurd (omega (arith, e, start_none leg k (omega arith)))

-- before the first band nothing is passed
pub banded-none : (leg : Leg) (t : Minute) (c : Tolls) → Fresh leg c → Banded leg t c
unfolding toll_of_first
banded-none leg t c f = record { is = f.is; known = λ u h. rw (f.nothing, f.free); small = omega (arith, f.free) }

-- the bands that are passed, of the leg under its name
pub stands : (leg : Leg) (c : Tolls) → leg_of c.leg ≡ leg → Passed leg c.count c.passed c.next.0
stands leg c e = subst (λ (l : Leg). Passed l c.count c.passed c.next.0) e c.stands

-- a band whose start is a minute is one of the leg's
pub next_low : (leg : Leg) (t : Minute) (c : Tolls) → Banded leg t c → c.next.0 ≤ t → t < 4096 → c.passed < leg.count
next_low leg t c b h l = some_band leg c.passed c.next.0 (stands leg c b.is).next_is (omega arith)

pub banded-more : (leg : Leg) (t : Minute) (old new : Tolls) → InOrder leg → Banded leg t old → old.next.0 ≤ t → t < 4096 → Onward old new → Banded leg t new
banded-more leg t old new o b h l on =
    let k = old.passed in
    let low = next_low leg t old b h l in
    let start = (stands leg old b.is).next_is ∙ start-some leg k low in
    let toll : new.toll.0 ≡ (get_or leg.bands k no_band).toll.0 = on.toll_is ∙ ap (λ (x : Leg). (get_or x.bands k no_band).toll.0) b.is in
    record {
      is = on.same ∙ b.is;
      known = λ u later. ap (λ (n : ℕ). toll_of_first n leg.bands u) on.passed_is ∙ toll-begun k leg.bands u (omega (arith, start)) ∙ sym toll;
      small = omega (arith, toll, o.tolls_within k low);
    }

pub banded-later : (leg : Leg) (t t' : Minute) (c : Tolls) → t ≤ t' → Banded leg t c → Banded leg t' c
banded-later leg t t' c l b = record { is = b.is; known = λ u h. b.known u (omega arith); small = b.small }

module _ (leg : Leg) (o : InOrder leg) where
  starts-after : (p i : ℕ) → p + i < leg.count → (get_or leg.bands p no_band).start.0 ≤ (get_or leg.bands (p + i) no_band).start.0
  starts-after p zero h = let e : p + 0 ≡ p = omega arith in rw e (omega arith)
  starts-after p (suc i) h =
      let e : p + suc i ≡ p + i + 1 = omega arith in
      let up = o.rises (p + i) (omega arith) in
      rw e (omega (arith, up, starts-after p i (omega arith)))

  none_after : (p i : ℕ) (u : Minute) → p + i ≤ leg.count → (p < leg.count → u < (get_or leg.bands p no_band).start.0)
      → toll_of_first (p + i) leg.bands u ≡ toll_of_first p leg.bands u
  none_after p zero u h l = let e : p + 0 ≡ p = omega arith in rw e
  none_after p (suc i) u h l =
      let e : p + suc i ≡ p + i + 1 = omega arith in
      let far = l (omega arith) in
      ap (λ (n : ℕ). toll_of_first n leg.bands u) e
      ∙ toll-later (p + i) leg.bands u (omega (arith, starts-after p i (omega arith), far))
      ∙ none_after p i u (omega arith) l

  -- THE TOLL UP TO THE NEXT BAND
  pub banded-toll : (t : Minute) (c : Tolls) → Banded leg t c → (u : Minute) → t ≤ u → u < c.next.0 → toll_at leg u ≡ c.toll.0
  banded-toll t c b u l k =
      let p = c.passed in
      let at = stands leg c b.is in
      let e : leg.count ≡ p + (leg.count - p) = omega (arith, at.few) in
      ap (λ (n : ℕ). toll_of_first n leg.bands u) e
      ∙ none_after p (leg.count - p) u (omega (arith, at.few)) (λ h. omega (arith, at.next_is, start-some leg p h))
      ∙ b.known u l
