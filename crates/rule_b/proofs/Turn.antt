-- One turn of the walk along a leg: from one departure that is tested to the next. Assumes nothing.
use Prim.Native.Nat.{ℕ, zero, suc, ◌+◌, ◌≤◌, ◌<◌}
use native.Mathlib.Omega.{arith}
use mathlib.Core.Path.{◌≡◌, refl, sym, ◌∙◌, subst}
use mathlib.Core.Bool.{Bool, true, false, cond}
use mathlib.Core.Option.{some}
use mathlib.Core.List.{List}
use mathlib.Core.Logic.{◌⊎◌, inl, inr}
use Rattle.std.proofs.Common.{Ordering, Less, Equal, Greater, nat_cmp}
use Rattle.std.specs.Ordering.{MatchOrdering, is_lt, ord_min}
use Rattle.std.proofs.lemmas.Cmp.{ranked}
use Rattle.leg.specs.declared.Leg.{Leg}
use Rattle.leg.specs.declared.Minute.{Minute as MinuteStruct}
use Rattle.bits.proofs.Fields.{field_below}
use Rattle.plan.specs.Network.{Minute, Cents, Query}
use Rattle.plan.specs.Sheet.{Step, value, Steps}
use Rattle.rule_b.specs.declared.cursor.Cursor.{Cursor}
use Rattle.rule_b.specs.declared.tolls.Tolls.{Tolls}
use Rattle.rule_b.specs.Rule.{Is, RuleB, InOrder}
use Rattle.leg.specs.Price.{price_of}
use Rattle.rule_b.specs.Held.{first_of}
use Rattle.rule_b.specs.Cursor.{Reached, Begun, Moved, Fresh, Banded, Covers}
use Rattle.rule_b.proofs.Walks.{first-none, first_some, none_before, steps-sorted, reached-value, reached-later, reached-begun}
use Rattle.rule_b.proofs.Bands.{banded-none, banded-later, banded-toll}
use Rattle.rule_b.proofs.Enough.{RuleBefore, rule-covers, covers-rule, rule-further}

pub is_true : (b : Bool) (P : Type 0) → b ≡ true → Is b P → P
is_true true P e h = h
is_true false P e h = let z : ◌≡◌ {A = ℕ} 0 1 = cc in absurd (omega arith)

pub is_false : (b : Bool) (P : Type 0) → b ≡ false → Is b P → P → ⊥
is_false true P e h = let z : ◌≡◌ {A = ℕ} 0 1 = cc in absurd (omega arith)
is_false false P e h = h

-- the earlier of two minutes
pub record Earlier (a b m : ℕ) : Type 0 where
  pub first : m ≤ a
  pub second : m ≤ b
  pub one : (m ≡ a) ⊎ (m ≡ b)

pub earlier : (a b m : MinuteStruct) → m ≡ ord_min (λ (x y : MinuteStruct). nat_cmp x.0 y.0) a b → Earlier a.0 b.0 m.0
earlier a b m h = subst (λ (x : MinuteStruct). Earlier a.0 b.0 x.0) (sym h) (at (nat_cmp b.0 a.0) (ranked b.0 a.0 _ refl))
  where
    at : (r : Ordering) → MatchOrdering r (b.0 < a.0) (b.0 ≡ a.0) (a.0 < b.0) → Earlier a.0 b.0 (cond (is_lt r) b a).0
    at Less l = record { first = omega arith; second = omega arith; one = inr refl }
    at Equal l = record { first = omega arith; second = omega arith; one = inl refl }
    at Greater l = record { first = omega arith; second = omega arith; one = inl refl }

-- before a departure: the cursors are at or before it, and the rule holds at every earlier one
pub record Walking (leg : Leg) (from to : List Step) (p q : Query) (latest : Minute) (i j : Cursor) (tolls : Tolls) (d : Minute) : Type 0 where
  pub i_at : Reached p from d i
  pub j_at : Reached q to (d + leg.time.0) j
  pub bands : Banded leg d tolls
  pub before : RuleBefore latest leg from to d
  pub upto : d ≤ 4096

-- the same minute under another name
pub moved_at : (t t' : Minute) (old new : Cursor) → Moved t old new → t ≡ t' → Moved t' old new
moved_at t t' old new m e = subst (λ u. Moved u old new) e m

held_next : (c : Cursor) → c.next.0 ≤ 4096
held_next c = at c.left refl
  where
    at : (n : ℕ) → c.left ≡ n → c.next.0 ≤ 4096
    at zero e = omega (arith, c.held.next_is, first-none c.sheet.now c.at c.left e)
    at (suc n) e =
        omega (arith, c.held.next_is, first_some c.sheet.now c.at c.left (omega arith), field_below c.sheet.now c.at 12)

module _ (leg : Leg) (from to : List Step) (p q : Query) (latest : Minute) (order : InOrder leg) (i-steps : Steps p from) (j-steps : Steps q to)
    (i j : Cursor) (tolls : Tolls) where
  pub walking_start : Begun from i → Begun to j → Fresh leg tolls → Walking leg from to p q latest i j tolls i.next.0
  walking_start bi bj f = record {
    i_at = reached-begun p from i.next.0 i bi i-steps;
    j_at = reached-begun q to (i.next.0 + leg.time.0) j bj j-steps;
    bands = banded-none leg i.next.0 tolls f;
    before = λ u h arrives x is. absurd (never u h x is);
    upto = held_next i;
  }
    where
      never : (u : Minute) → u < i.next.0 → (x : Cents) → value from u ≡ some x → ⊥
      never u h x is =
          let first : i.next.0 ≡ first_of from = i.held.next_is ∙ (λ k. first_of (bi.all k)) in
          let nothing = none_before p from (steps-sorted p from i-steps) u (omega (arith, first)) in
          let z : ◌≡◌ {A = ℕ} 0 1 = cc in
          omega arith

  module _ (d : Minute) (w : Walking leg from to p q latest i j tolls d) (arrives : d + leg.time.0 ≤ latest)
      (i' : Cursor) (mi : Moved d i i') (tolls' : Tolls) (tb : Banded leg d tolls') (tn : d < tolls'.next.0)
      (j' : Cursor) (mj : Moved (d + leg.time.0) j j') where
    here-i : (u : Minute) → d ≤ u → u < i'.next.0 → value from u ≡ price_of i'.price
    here-i = reached-value p from d i' (mi.reached p from w.i_at)

    here-j : value to (d + leg.time.0) ≡ price_of j'.price
    here-j = reached-value q to (d + leg.time.0) j' (mj.reached q to w.j_at) (d + leg.time.0) (omega arith) mj.past

    toll-here : (u : Minute) → d ≤ u → u < tolls'.next.0 → Rattle.leg.specs.Toll.toll_at leg u ≡ tolls'.toll.0
    toll-here = banded-toll leg order d tolls' tb

    -- the rule is broken at this departure
    pub turn-broken : (Covers (price_of i'.price) (price_of j'.price) tolls'.toll.0 → ⊥) → RuleB latest leg from to → ⊥
    turn-broken no_cover rule =
        no_cover
        (rule-covers q leg from to j-steps d (price_of i'.price) (price_of j'.price)
        tolls'.toll.0 (here-i d (omega arith) mi.past) here-j (toll-here d (omega arith) tn) (rule d arrives))

    -- or it holds up to the next step and the next band
    pub turn_on : Covers (price_of i'.price) (price_of j'.price) tolls'.toll.0
        → (next : Minute) → next ≤ i'.next.0 → next ≤ tolls'.next.0 → d < next
        → Walking leg from to p q latest i' j' tolls' next
    turn_on cover next ni nt later = record {
      i_at = reached-later p from d next i' (omega arith) (mi.reached p from w.i_at);
      j_at = reached-later q to (d + leg.time.0) (next + leg.time.0) j' (omega arith) (mj.reached q to w.j_at);
      bands = banded-later leg d next tolls' (omega arith) tb;
      before =
          rule-further q leg from to j-steps d latest next w.before
          (λ u l k.
          covers-rule q leg from to j-steps d (price_of i'.price)
          (price_of j'.price) tolls'.toll.0 here-j cover u l (here-i u l (omega arith)) (toll-here u l (omega arith)));
      upto = omega (arith, held_next i');
    }
