-- The chain of a place's legs: followed down while p is visited, and built up leg by leg.
use Prim.Native.Nat.{ℕ, zero, suc, ◌+◌, ◌≤◌, ◌<◌}
use native.Mathlib.Omega.{arith}
use native.Mathlib.Decide.{ℕ_discrete}
use mathlib.Core.Path.{◌≡◌, refl, sym, ◌∙◌, ap, subst}
use mathlib.Core.List.{List}
use Rattle.std.specs.Prelude.{Option, Some, None}
use lib.ListN.{length, get_or, set, replicate}
use lib.Seq.{get_or-set_same, get_or-set_other}
use Rattle.plan.specs.Network.{Network}
use Rattle.leg.specs.declared.Leg.{Leg}
use Rattle.chart.specs.declared.tariff.Tariff.{Tariff}
use Rattle.chart.specs.Net.{net_in, theory_in, leg_in}
use Rattle.table.proofs.Tariffs.{sound-leg, few-legs, few-places, same-places}
use Rattle.table.specs.declared.roads.Roads.{Roads}
use Rattle.table.specs.Ask.{query}
use Rattle.table.specs.Chains.{Next, Chained, link}
use Rattle.table.specs.Kept.{Visiting, Onward}
use Rattle.table.proofs.Keeping.{visiting-next}
use Rattle.table.proofs.Legs.{onward-none, onward-more}

-- how far a visit of p has come: the legs from l on are done
pub record Riding (g : Roads) (p : ℕ) (row : List ℕ) (from : ℕ) (cells cells' low low' : List ℕ) (l : ℕ) : Type 0 where
  pub within : l ≤ g.tariff.now.size.legs
  pub leaves : (k : ℕ) → l ≡ k + 1 → (theory_in g.tariff.now.net.now).source k ≡ p
  pub visiting : Visiting (theory_in g.tariff.now.net.now) (query g.ask) cells' low' row p from l
  pub onward : Onward cells cells' low low'

module _ (g : Roads) (p : ℕ) (here : p < g.tariff.now.size.places) (row : List ℕ) (from : ℕ) where
  pub top-leg : Next (theory_in g.tariff.now.net.now) p g.tariff.now.size.legs (link g.chains.now.last p)
  top-leg = g.chained.lasts p (omega (arith, here, same-places g.tariff.now))

  pub riding-none : (cells low : List ℕ) → Visiting (theory_in g.tariff.now.net.now) (query g.ask) cells low row p from g.tariff.now.size.legs
      → Riding g p row from cells cells low low (link g.chains.now.last p)
  riding-none cells low v = record {
    within = top-leg.within;
    leaves = top-leg.leaves;
    visiting = visiting-next (theory_in g.tariff.now.net.now) (query g.ask) cells low row p from g.tariff.now.size.legs (link g.chains.now.last p) top-leg v;
    onward = onward-none cells low;
  }

  module _ (cells cells' low low' : List ℕ) (l : ℕ) (r : Riding g p row from cells cells' low low' (l + 1)) where
    this-leaves : (theory_in g.tariff.now.net.now).source l ≡ p
    this-leaves = r.leaves l refl

    next-leg : Next (theory_in g.tariff.now.net.now) p l (link g.chains.now.before l)
    next-leg = rw this-leaves at (g.chained.befores l (omega (arith, r.within)))

    pub riding-more : (cells'' low'' : List ℕ)
        → Visiting (theory_in g.tariff.now.net.now) (query g.ask) cells'' low'' row ((theory_in g.tariff.now.net.now).source l) from l × Onward cells' cells'' low' low''
        → Riding g p row from cells cells'' low low'' (link g.chains.now.before l)
    riding-more cells'' low'' d = record {
      within = omega (arith, next-leg.within, r.within);
      leaves = next-leg.leaves;
      visiting =
          visiting-next (theory_in g.tariff.now.net.now) (query g.ask) cells'' low'' row p from l (link g.chains.now.before l) next-leg
          (subst (λ (o : ℕ). Visiting (theory_in g.tariff.now.net.now) (query g.ask) cells'' low'' row o from l) this-leaves d.0);
      onward = onward-more cells cells' cells'' low low' low'' r.onward d.1;
    }

-- ---- built up

module _ (N : Network) (last before : List (Option ℕ)) (l from : ℕ) (c : Chained N l last before) (is : N.source l ≡ from) (known : from < N.places)
    (room : from < length last) (room' : l < length before) where
  last-now : (p : ℕ) → p < N.places → Dec (p ≡ from) → Next N p (l + 1) (link (set last from (Some l)) p)
  last-now p here (yes e) =
      rw (e, get_or-set_same last from (Some l) None room)
      (record {
        within = omega arith;
        all = λ k h _. h;
        leaves = λ k q. let same : k ≡ l = omega arith in ap N.source same ∙ is;
      })
  last-now p here (no n) =
      rw (get_or-set_other last from p (Some l) None n)
      (let old = c.lasts p here in
      record {
        within = omega (arith, old.within);
        all = λ k h q. below k h q (ℕ_discrete k l);
        leaves = old.leaves;
      })
    where
      below : (k : ℕ) → k < l + 1 → N.source k ≡ p → Dec (k ≡ l) → k < link last p
      below k h q (yes same) = absurd (n (sym q ∙ ap N.source same ∙ is))
      below k h q (no m) = (c.lasts p here).all k (omega arith) q

  before-now : (k : ℕ) → k < l + 1 → Dec (k ≡ l) → Next N (N.source k) k (link (set before l (get_or last from None)) k)
  before-now k h (yes e) =
      rw (e, get_or-set_same before l (get_or last from None) None room', is) (c.lasts from known)
  before-now k h (no n) = rw (get_or-set_other before l k (get_or last from None) None n) (c.befores k (omega arith))

  pub chained_more : Chained N (l + 1) (set last from (Some l)) (set before l (get_or last from None))
  chained_more = record {
    lasts = λ p here. last-now p here (ℕ_discrete p from);
    befores = λ k h. before-now k h (ℕ_discrete k l);
  }

nones : (n i : ℕ) → link (replicate n None) i ≡ 0
nones zero i = refl
nones (suc n) zero = refl
nones (suc n) (suc i) = nones n i

-- no leg yet
pub chained-none : (N : Network) (last before : List (Option ℕ)) → last ≡ replicate 64 None → Chained N 0 last before
chained-none N last before none = record {
  lasts = λ p h. record {
    within = omega (arith, here p);
    all = λ k u e. absurd (omega arith);
    leaves = λ k e. absurd (omega (arith, here p));
  };
  befores = λ l h. absurd (omega arith);
}
  where
    here : (p : ℕ) → link last p ≡ 0
    here p = ap (λ (x : List (Option ℕ)). link x p) none ∙ nones 64 p

-- with the leg that the tariff gives
module _ (t : Tariff) (l : ℕ) (known : l < t.size.legs) (x : Leg) (decoded : x ≡ leg_in t.net.now l) where
  from_is : (theory_in t.net.now).source l ≡ x.from
  from_is = ap (λ (y : Leg). y.from) (sym decoded)

  from-known : x.from < (net_in t.net.now).places
  from-known = omega (arith, (sound-leg t l known x decoded).from_below)

  pub from-few : x.from < 64
  from-few = omega (arith, from-known, same-places t, few-places t)

  pub chain_more : (last before : List (Option ℕ)) → length last ≡ 64 → length before ≡ 512 → Chained (theory_in t.net.now) l last before
      → Chained (theory_in t.net.now) (l + 1) (set last x.from (Some l)) (set before l (get_or last x.from None))
  chain_more last before size64 size512 c =
      chained_more (theory_in t.net.now) last before l x.from c from_is from-known (omega (arith, from-few))
      (omega (arith, known, few-legs t))
