-- What the sweep keeps: from one visit to the next, and from one leg of a visit to the next.
use Prim.Native.Nat.{ℕ, ◌+◌, ◌*◌, ◌≤◌, ◌<◌}
use native.Mathlib.Omega.{arith}
use native.Mathlib.Decide.{ℕ_discrete, dec_lt}
use mathlib.Core.Path.{◌≡◌, refl, sym, ◌∙◌, subst}
use mathlib.Core.Logic.{◌≢◌}
use mathlib.Core.List.{List}
use lib.Dec.{T}
use lib.ListN.{length, set, length-set}
use lib.Seq.{get_or-set_same, get_or-set_other}
use Rattle.plan.specs.Network.{Network, InRange, Query}
use Rattle.plan.specs.Table.{no_plan, weight, width}
use Rattle.plan.proofs.Cells.{Attained, attained-wait, attained-ride}
use Rattle.rows.specs.Row.{at}
use Rattle.rows.specs.Whole.{cell, row_of, SettleRow}
use Rattle.rows.proofs.Wholes.{row_at, rows_apart}
use Rattle.table.specs.Chains.{Next}
use Rattle.table.specs.Kept.{Reached, Kept, Never, Below, Visiting}

-- ---- reaching, in columns

module _ (N : Network) (q : Query) where
  pub reached-wait : (p i j value : ℕ) → i ≤ j → Reached N q p i value → Reached N q p j value
  unfolding Attained
  reached-wait p i j value h r = attained-wait N q p (q.earliest + i) (q.earliest + j) value (omega arith) r

  pub reached-ride : (l i value : ℕ) → l < N.legs → T (N.goes l (q.earliest + i)) → Reached N q (N.source l) i value
      → Reached N q (N.target l) (i + N.time l) (value + weight N l (q.earliest + i))
  unfolding Attained
  reached-ride l i value known goes r =
      let is : q.earliest + (i + N.time l) ≡ q.earliest + i + N.time l = omega arith in
      rw is (attained-ride N q l (q.earliest + i) value known goes r)

  -- fewer rides are due
  pub kept-due : (cells low : List ℕ) (Due Due' : ℕ → ℕ → Type 0) → ((l j : ℕ) → Due l j → Due' l j) → Kept N q cells low Due → Kept N q cells low Due'
  kept-due cells low Due Due' f k = record {
    long = k.long;
    places = k.places;
    lows = k.lows;
    most = k.most;
    reached = k.reached;
    starts = k.starts;
    waits = k.waits;
    rides = λ l j known lo there none. k.rides l j known lo there (λ d. none (f l j d));
  }

  -- the next leg down the chain
  pub visiting-next : (cells low row : List ℕ) (p x bound top : ℕ) → Next N p bound top → Visiting N q cells low row p x bound → Visiting N q cells low row p x top
  visiting-next cells low row p x bound top n v = record {
    kept = kept-due cells low (Below N p x bound) (Below N p x top) (λ l j d. (d.0, n.all l d.1 d.0, d.2)) v.kept;
    standing = v.standing;
    current = v.current;
  }

  -- no leg is left
  pub visiting-done : (cells low row : List ℕ) (p x : ℕ) → Visiting N q cells low row p x 0 → Kept N q cells low Never
  visiting-done cells low row p x v = kept-due cells low (Below N p x 0) Never (λ l j d. absurd (omega (arith, d.1))) v.kept

-- a place's row lies in the table
pub row_fits : (places w p length : ℕ) → p < places → length ≡ places * w → p * w + w ≤ length
row_fits places w p length h e = omega (arith, rows_apart p places w h)

-- ---- a visit begins

module _ (N : Network) (q : Query) (ranges : InRange N) (old new low row : List ℕ) (p x : ℕ) (k : Kept N q old low Never) (here : p < N.places)
    (is : x ≡ at low p) (s : SettleRow old new row (width q) p x) where
  set-low : (o : ℕ) → ((o ≡ p) → at (set low p (width q)) o ≡ width q) × (o ≢ p → at (set low p (width q)) o ≡ at low o)
  set-low o = ((λ (e : o ≡ p). rw e (get_or-set_same low p (width q) 0 (omega (arith, k.places)))), λ (n : o ≢ p). get_or-set_other low p o (width q) 0 n)

  old_row : (j : ℕ) → j < width q → at (row_of old (width q) p) j ≡ cell old (width q) p j
  old_row = row_at old (width q) p (row_fits N.places (width q) p (length old) here k.long)

  new_row : (j : ℕ) → j < width q → at (row_of new (width q) p) j ≡ cell new (width q) p j
  new_row = row_at new (width q) p (row_fits N.places (width q) p (length new) here (s.only.long ∙ k.long))

  other : (o j : ℕ) → o ≢ p → j < width q → cell new (width q) o j ≡ cell old (width q) o j
  other o j n h = s.only.others o j n h

  settled-below : (o j : ℕ) → j < width q → Dec (o ≡ p) → cell new (width q) o j ≤ cell old (width q) o j
  settled-below o j h (yes e) = rw e (omega (arith, s.row.below j, old_row j h, new_row j h))
  settled-below o j h (no n) = omega (arith, other o j n h)

  settled_same : (o j : ℕ) → j < width q → (o ≡ p → j < x) → Dec (o ≡ p) → cell new (width q) o j ≡ cell old (width q) o j
  settled_same o j h f (yes e) = rw e (sym (new_row j h) ∙ s.row.before j (f e) ∙ old_row j h)
  settled_same o j h f (no n) = other o j n h

  settled-reached : (o j : ℕ) → o < N.places → j < width q → Dec (o ≡ p) → cell new (width q) o j ≢ no_plan → Reached N q o j (cell new (width q) o j)
  settled-reached o j known h (yes e) n = rw e (at-column (s.row.since j).column (s.row.since j).before (sym (new_row j h) ∙ (s.row.since j).there))
    where
      at-column : (i : ℕ) → i ≤ j → cell new (width q) p j ≡ at (row_of old (width q) p) i → Reached N q p j (cell new (width q) p j)
      at-column i b there =
          let same : cell new (width q) p j ≡ cell old (width q) p i = there ∙ old_row i (omega arith) in
          let open-cell : cell old (width q) p i ≢ no_plan = λ none. n (rw e (same ∙ none)) in
          rw same (reached-wait N q p i j (cell old (width q) p i) b (k.reached p i here (omega arith) open-cell))
  settled-reached o j known h (no m) n = rw (other o j m h) (k.reached o j known h (λ none. n (other o j m h ∙ none)))

  settled-waits : (o j : ℕ) → o < N.places → j + 1 < at (set low p (width q)) o → Dec (o ≡ p) → cell new (width q) o (j + 1) ≤ cell new (width q) o j
  settled-waits o j known h (yes e) = rw e (step (dec_lt (j + 1) x))
    where
      inside : j + 1 < width q
      inside = omega (arith, h, (set-low o).0 e)

      step : Dec (j + 1 < x) → cell new (width q) p (j + 1) ≤ cell new (width q) p j
      step (yes b) =
          omega (
            arith,
            settled_same p (j + 1) inside (λ _. b) (yes refl),
            settled_same p j (omega (arith, inside)) (λ _. omega arith) (yes refl),
            k.waits p j here (omega arith),
          )
      step (no b) =
          omega (arith, s.row.falls j (omega arith) inside, new_row j (omega (arith, inside)), new_row (j + 1) inside)
  settled-waits o j known h (no n) =
      let low_is = (set-low o).1 n in
      let inside : j + 1 < width q = omega (arith, h, low_is, k.lows o) in
      omega (arith, other o j n (omega arith), other o (j + 1) n inside, k.waits o j known (omega (arith, h, low_is)))

  settled-rides : (l j : ℕ) → l < N.legs → j < at (set low p (width q)) (N.source l) → j + N.time l < width q → (Below N p x N.legs l j → ⊥)
      → Dec (N.source l ≡ p)
      → cell new (width q) (N.target l) (j + N.time l) ≤ cell new (width q) (N.source l) j + weight N l (q.earliest + j)
  settled-rides l j known h there none d = by d
    where
      target_below : cell new (width q) (N.target l) (j + N.time l) ≤ cell old (width q) (N.target l) (j + N.time l)
      target_below = settled-below (N.target l) (j + N.time l) there (ℕ_discrete (N.target l) p)

      by : Dec (N.source l ≡ p) → cell new (width q) (N.target l) (j + N.time l) ≤ cell new (width q) (N.source l) j + weight N l (q.earliest + j)
      by (yes e) =
          let early : j < x = sooner (dec_lt j x) in
          omega (
            arith,
            target_below,
            settled_same (N.source l) j (omega arith) (λ _. early) d,
            k.rides l j known (subst (λ (o : ℕ). j < at low o) (sym e) (omega arith)) there (λ b. b),
          )
        where
          sooner : Dec (j < x) → j < x
          sooner (yes b) = b
          sooner (no b) = absurd (none (e, known, omega arith))
      by (no n) =
          omega (
            arith,
            target_below,
            other (N.source l) j n (omega arith),
            k.rides l j known (omega (arith, h, (set-low (N.source l)).1 n)) there (λ b. b),
          )

  pub visiting-begins : Visiting N q new (set low p (width q)) row p x N.legs
  visiting-begins = record {
    kept = record {
      long = s.only.long ∙ k.long;
      places = omega (arith, k.places, length-set low p (width q));
      lows = λ o. low-within o (ℕ_discrete o p);
      most = λ o j known h. omega (arith, settled-below o j h (ℕ_discrete o p), k.most o j known h);
      reached = λ o j known h n. settled-reached o j known h (ℕ_discrete o p) n;
      starts = omega (arith, settled-below q.start 0 (omega arith) (ℕ_discrete q.start p), k.starts);
      waits = λ o j known h. settled-waits o j known h (ℕ_discrete o p);
      rides = λ l j known h there none. settled-rides l j known h there none (ℕ_discrete (N.source l) p);
    };
    standing = λ j f h n.
        let same : at row j ≡ cell new (width q) p j = s.row.copied j f h ∙ new_row j h in
        rw same (settled-reached p j here h (yes refl) (λ none. n (same ∙ none)));
    current = λ j f h. let inside : j < width q = omega (arith, h, (set-low p).0 refl) in s.row.copied j f inside ∙ new_row j inside;
  }
    where
      low-within : (o : ℕ) → Dec (o ≡ p) → at (set low p (width q)) o ≤ width q
      low-within o (yes e) = omega (arith, (set-low o).0 e)
      low-within o (no n) = omega (arith, (set-low o).1 n, k.lows o)
