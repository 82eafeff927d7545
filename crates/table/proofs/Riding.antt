-- One leg of a visit is done: what the sweep keeps over its rides.
use Prim.Native.Nat.{ℕ, ◌+◌, ◌≤◌, ◌<◌, min}
use native.Mathlib.Omega.{arith}
use native.Mathlib.Decide.{ℕ_discrete, dec_le}
use mathlib.Core.Path.{◌≡◌, sym, ◌∙◌, ap, subst}
use mathlib.Core.Logic.{◌≢◌, ◌⊎◌, inl, inr}
use mathlib.Core.List.{List}
use lib.Dec.{T}
use lib.ListN.{set, length-set}
use lib.Seq.{get_or-set_same, get_or-set_other}
use Rattle.leg.specs.declared.Leg.{Leg}
use Rattle.leg.specs.Toll.{toll_at}
use Rattle.plan.specs.Network.{Network, InRange, Query}
use Rattle.plan.specs.Table.{no_plan, weight, width}
use Rattle.rows.specs.Row.{at}
use Rattle.rows.specs.Whole.{cell}
use Rattle.table.specs.Ride.{Arrives, Rode}
use Rattle.table.specs.Kept.{Reached, Below, Visiting}
use Rattle.table.proofs.Keeping.{reached-ride}

-- the leg is leg l of the network
pub record LegOf (N : Network) (l : ℕ) (leg : Leg) : Type 0 where
  pub target : N.target l ≡ leg.to
  pub time : N.time l ≡ leg.time.0
  pub toll : (d : ℕ) → N.toll l d ≡ toll_at leg d
  pub goes : (d : ℕ) → T (N.goes l d)

module _ (N : Network) (q : Query) (ranges : InRange N) (old new low row : List ℕ) (p x l first : ℕ) (leg : Leg)
    (v : Visiting N q old low row p x (l + 1)) (known : l < N.legs) (source : N.source l ≡ p) (is : LegOf N l leg)
    (clock : q.earliest + width q ≤ 2880) (r : Rode leg q.earliest (width q) x old new row first 0 2880) where
  low' : List ℕ
  low' = set low leg.to (min (at low leg.to) first)

  to-known : leg.to < N.places
  to-known = omega (arith, ranges.targets l known, is.target)

  low-here : at (set low leg.to (min (at low leg.to) first)) leg.to ≡ min (at low leg.to) first
  low-here = get_or-set_same low leg.to (min (at low leg.to) first) 0 (omega (arith, to-known, v.kept.places))

  low-else : (o : ℕ) → o ≢ leg.to → at (set low leg.to (min (at low leg.to) first)) o ≡ at low o
  low-else o n = get_or-set_other low leg.to o (min (at low leg.to) first) 0 n

  low-falls : (o : ℕ) → Dec (o ≡ leg.to) → at (set low leg.to (min (at low leg.to) first)) o ≤ at low o
  low-falls o (yes e) = rw e (omega (arith, low-here))
  low-falls o (no n) = omega (arith, low-else o n)

  ridden-below : (o j : ℕ) → j < width q → Dec (o ≡ leg.to) → cell new (width q) o j ≤ cell old (width q) o j
  ridden-below o j h (yes e) = rw e (r.below j h)
  ridden-below o j h (no n) = omega (arith, r.only.others o j n h)

  -- before the first column that changed, nothing has
  ridden-same : (o j : ℕ) → j < at (set low leg.to (min (at low leg.to) first)) o → Dec (o ≡ leg.to) → cell new (width q) o j ≡ cell old (width q) o j
  ridden-same o j h (yes e) =
      let early : j < first = omega (arith, low-here, rw e at h) in
      rw e (r.kept j early (omega (arith, r.within)))
  ridden-same o j h (no n) = r.only.others o j n (omega (arith, low-else o n, v.kept.lows o))

  ridden-reached : (o j : ℕ) → o < N.places → j < width q → Dec (o ≡ leg.to) → cell new (width q) o j ≢ no_plan → Reached N q o j (cell new (width q) o j)
  ridden-reached o j known-o h (no n) open-cell =
      let same = r.only.others o j n h in
      rw same (v.kept.reached o j known-o h (λ none. open-cell (same ∙ none)))
  ridden-reached o j known-o h (yes e) open-cell = rw e (by (r.ridden j h))
    where
      by : (cell new (width q) leg.to j ≡ cell old (width q) leg.to j)
          ⊎ Arrives leg q.earliest x row j (cell new (width q) leg.to j) (cell old (width q) leg.to j)
          → Reached N q leg.to j (cell new (width q) leg.to j)
      by (inl same) = rw same (v.kept.reached leg.to j to-known h (λ none. open-cell (rw e (same ∙ none))))
      by (inr a) =
          let i = a.column in
          let inside : i < width q = omega (arith, a.here) in
          let there : at row i ≢ no_plan = λ none. omega (arith, a.gives, a.lower, v.kept.most leg.to j to-known h) in
          let from-p = v.standing i a.since inside there in
          let from-source = subst (λ (o : ℕ). Reached N q o i (at row i)) (sym source) from-p in
          let rode = reached-ride N q l i (at row i) known (is.goes (q.earliest + i)) from-source in
          let arrived : i + N.time l ≡ j = ap (λ (t : ℕ). i + t) is.time ∙ a.here in
          let value : at row i + weight N l (q.earliest + i) ≡ cell new (width q) leg.to j =
          omega (arith, a.gives, is.toll (q.earliest + i)) in
          subst (λ (c : ℕ). Reached N q leg.to j c) value
          (subst (λ (m : ℕ). Reached N q leg.to m (at row i + weight N l (q.earliest + i))) arrived
          (subst (λ (o : ℕ). Reached N q o (i + N.time l) (at row i + weight N l (q.earliest + i))) is.target rode))

  ridden-rides : (k j : ℕ) → k < N.legs → j < at (set low leg.to (min (at low leg.to) first)) (N.source k) → j + N.time k < width q
      → (Below N p x l k j → ⊥) → Dec (k ≡ l) → Dec (x ≤ j)
      → cell new (width q) (N.target k) (j + N.time k) ≤ cell new (width q) (N.source k) j + weight N k (q.earliest + j)
  ridden-rides k j known-k h there none d f = by d f
    where
      same : cell new (width q) (N.source k) j ≡ cell old (width q) (N.source k) j
      same = ridden-same (N.source k) j h (ℕ_discrete (N.source k) leg.to)

      before : (Below N p x (l + 1) k j → ⊥)
          → cell new (width q) (N.target k) (j + N.time k) ≤ cell new (width q) (N.source k) j + weight N k (q.earliest + j)
      before not-due =
          omega (
            arith,
            same,
            ridden-below (N.target k) (j + N.time k) there (ℕ_discrete (N.target k) leg.to),
            v.kept.rides k j known-k (omega (arith, h, low-falls (N.source k) (ℕ_discrete (N.source k) leg.to))) there not-due,
          )

      -- this very leg: its rides have just been done
      now-done : (k ≡ l) → x ≤ j → cell new (width q) (N.target k) (j + N.time k) ≤ cell new (width q) (N.source k) j + weight N k (q.earliest + j)
      now-done e late =
          let from-p : N.source k ≡ p = ap N.source e ∙ source in
          let time_is : N.time k ≡ leg.time.0 = ap N.time e ∙ is.time in
          let target_is : N.target k ≡ leg.to = ap N.target e ∙ is.target in
          let toll-is : N.toll k (q.earliest + j) ≡ toll_at leg (q.earliest + j) = ap (λ (n : ℕ). N.toll n (q.earliest + j)) e ∙ is.toll (q.earliest + j) in
          let row_is : at row j ≡ cell old (width q) p j =
          v.current j late (omega (arith, low-falls p (ℕ_discrete p leg.to), rw from-p at h)) in
          let same-p : cell new (width q) (N.source k) j ≡ cell old (width q) p j = same ∙ ap (λ (o : ℕ). cell old (width q) o j) from-p in
          let rule = r.obeys j late (omega arith) (omega arith) (omega (arith, there, time_is)) in
          let goal : cell new (width q) leg.to (j + leg.time.0) ≤ cell new (width q) (N.source k) j + weight N k (q.earliest + j) =
          omega (arith, rule, same-p, row_is, toll-is) in
          rw (target_is, time_is) goal

      by : Dec (k ≡ l) → Dec (x ≤ j)
          → cell new (width q) (N.target k) (j + N.time k) ≤ cell new (width q) (N.source k) j + weight N k (q.earliest + j)
      by (yes e) (yes late) = now-done e late
      by (yes e) (no early) = before (λ b. early b.2)
      by (no n) late = before (λ b. none (b.0, omega (arith, b.1), b.2))

  pub visiting-rode : Visiting N q new (set low leg.to (min (at low leg.to) first)) row p x l
  visiting-rode = record {
    kept = record {
      long = r.only.long ∙ v.kept.long;
      places = omega (arith, v.kept.places, length-set low leg.to (min (at low leg.to) first));
      lows = λ o. omega (arith, low-falls o (ℕ_discrete o leg.to), v.kept.lows o);
      most = λ o j known-o h. omega (arith, ridden-below o j h (ℕ_discrete o leg.to), v.kept.most o j known-o h);
      reached = λ o j known-o h n. ridden-reached o j known-o h (ℕ_discrete o leg.to) n;
      starts = omega (arith, ridden-below q.start 0 (omega arith) (ℕ_discrete q.start leg.to), v.kept.starts);
      waits = λ o j known-o h.
          omega (
            arith,
            ridden-same o j (omega arith) (ℕ_discrete o leg.to),
            ridden-same o (j + 1) h (ℕ_discrete o leg.to),
            v.kept.waits o j known-o (omega (arith, h, low-falls o (ℕ_discrete o leg.to))),
          );
      rides = λ k j known-k h there none. ridden-rides k j known-k h there none (ℕ_discrete k l) (dec_le x j);
    };
    standing = v.standing;
    current = λ j f h.
        v.current j f (omega (arith, h, low-falls p (ℕ_discrete p leg.to))) ∙ sym (ridden-same p j h (ℕ_discrete p leg.to));
  }
