-- The table at the outset, and the table when nothing is left to pass on: it is the minute table.
use Prim.Native.Nat.{ℕ, zero, suc, ◌+◌, ◌*◌, ◌-◌, ◌≤◌, ◌<◌}
use native.Mathlib.Omega.{arith}
use native.Mathlib.Decide.{ℕ_discrete}
use mathlib.Core.Path.{◌≡◌, sym, ◌∙◌, ap}
use mathlib.Core.Logic.{◌≢◌, inl, inr}
use mathlib.Core.List.{List, [], ◌∷◌}
use lib.ListN.{length, set, replicate, length-replicate, get_or-replicate, length-set}
use lib.Seq.{get_or-set_same, get_or-set_other}
use borrow.Rule.Slice.PartMut.{put_mid}
use Rattle.plan.specs.Network.{Minute, Network, InRange, Query, Askable}
use Rattle.plan.specs.Plan.{Ride, Runs, Stands}
use Rattle.plan.specs.Table.{no_plan, weight, Cell, width, cell_at, MinuteTable}
use Rattle.plan.proofs.Cells.{Attained, attained-start}
use Rattle.plan.proofs.Exact.{ObeysCells, AttainedCells, exact}
use Rattle.rows.specs.Row.{at}
use Rattle.rows.specs.Whole.{cell}
use Rattle.rows.proofs.Wholes.{row_at, whole_length, whole_row, whole-only}
use Rattle.table.specs.Kept.{Reached, Kept, Never}
use Rattle.table.proofs.Keeping.{row_fits}

-- ---- when no place has anything new to pass on

module _ (N : Network) (q : Query) (asked : Askable N q) (cells low : List ℕ) (k : Kept N q cells low Never) (clean : (p : ℕ) → p < N.places → width q ≤ at low p) where
  waits-on : (p j d : ℕ) → p < N.places → j + d < width q → cell cells (width q) p (j + d) ≤ cell cells (width q) p j
  waits-on p j zero known h = let is : j + 0 ≡ j = omega arith in rw is (omega arith)
  waits-on p j (suc d) known h =
      let is : j + suc d ≡ j + d + 1 = omega arith in
      rw is (omega (arith, waits-on p j d known (omega arith), k.waits p (j + d) known (omega (arith, clean p known))))

  clean-attained : AttainedCells N q (cell_at q cells)
  unfolding Attained
  clean-attained p t win n =
      let back : q.earliest + (t - q.earliest) ≡ t = omega (arith, win.early) in
      rw back at (k.reached p (t - q.earliest) win.place (omega (arith, win.early, win.late)) n)

  clean-obeys : ObeysCells N q (cell_at q cells)
  clean-obeys = record {
    starts = let none : q.earliest - q.earliest ≡ 0 = omega arith in rw none k.starts;
    waits = λ p t u known early h late.
        let is : u - q.earliest ≡ t - q.earliest + (u - t) = omega arith in
        rw is (waits-on p (t - q.earliest) (u - t) known (omega arith));
    rides = λ l d go.
        let on : d + N.time l - q.earliest ≡ d - q.earliest + N.time l = omega (arith, go.early) in
        let back : q.earliest + (d - q.earliest) ≡ d = omega (arith, go.early) in
        let inside : d - q.earliest + N.time l < width q = omega (arith, go.early, go.late) in
        let rule =
        k.rides l (d - q.earliest) go.known (omega (arith, clean (N.source l) (asked.ranges.sources l go.known), inside)) inside (λ b. b) in
        rw on (rw back at rule);
  }

  pub clean-table : MinuteTable N q (cell_at q cells)
  clean-table = exact N q asked (cell_at q cells) clean-attained clean-obeys

-- ---- the outset

module _ (N : Network) (q : Query) (ranges : InRange N) (home : q.start < N.places) (cells low : List ℕ) (n : ℕ)
    (long : length cells ≡ N.places * width q) (room : N.places ≤ n) where
  none-cells : List ℕ
  none-cells = replicate (length cells) no_plan

  abbrev pub outset : List ℕ
  outset = put_mid (q.start * width q) (width q) (replicate (length cells) no_plan) (replicate (width q) 0)

  abbrev pub outset_low : List ℕ
  outset_low = set (replicate n (width q)) q.start 0

  fits : q.start * width q + width q ≤ length (replicate {A = ℕ} (length cells) no_plan)
  fits = row_fits N.places (width q) q.start _ home (length-replicate {A = ℕ} (length cells) no_plan ∙ long)

  outset-long : length outset ≡ length (replicate {A = ℕ} (length cells) no_plan)
  outset-long = whole_length (replicate (length cells) no_plan) (width q) q.start fits (replicate (width q) 0) (length-replicate {A = ℕ} (width q) 0)

  outset-home : (j : ℕ) → j < width q → cell outset (width q) q.start j ≡ 0
  outset-home j h =
      sym (row_at outset (width q) q.start (omega (arith, outset-long, fits)) j h)
      ∙ ap (λ (row : List ℕ). at row j) (whole_row (replicate (length cells) no_plan) (width q) q.start fits (replicate (width q) 0) (length-replicate {A = ℕ} (width q) 0))
      ∙ get_or-replicate (width q) j 0 0 h

  outset-else : (p j : ℕ) → p < N.places → p ≢ q.start → j < width q → cell outset (width q) p j ≡ no_plan
  outset-else p j known n h =
      (whole-only (replicate (length cells) no_plan) (width q) q.start fits (replicate (width q) 0) (length-replicate {A = ℕ} (width q) 0)).others p j n h
      ∙ get_or-replicate (length cells) (p * width q + j) no_plan 0 (omega (arith, row_fits N.places (width q) p (length cells) known long))

  low-home : at outset_low q.start ≡ 0
  low-home = get_or-set_same (replicate n (width q)) q.start 0 0 (omega (arith, home, room, length-replicate {A = ℕ} n (width q)))

  low-within : (m p : ℕ) → at (replicate m (width q)) p ≤ width q
  low-within zero p = omega arith
  low-within (suc m) zero = omega arith
  low-within (suc m) (suc p) = low-within m p

  lows : (p : ℕ) → Dec (p ≡ q.start) → at outset_low p ≤ width q
  lows p (yes e) = rw e (omega (arith, low-home))
  lows p (no d) = omega (arith, get_or-set_other (replicate n (width q)) q.start p 0 0 d, low-within n p)

  most : (p j : ℕ) → p < N.places → j < width q → Dec (p ≡ q.start) → cell outset (width q) p j ≤ no_plan
  most p j known h (yes e) = rw e (omega (arith, outset-home j h))
  most p j known h (no d) = omega (arith, outset-else p j known d h)

  reached : (p j : ℕ) → p < N.places → j < width q → Dec (p ≡ q.start) → cell outset (width q) p j ≢ no_plan → Reached N q p j (cell outset (width q) p j)
  unfolding Attained
  reached p j known h (yes e) m = rw (e, outset-home j h) (attained-start N q (q.earliest + j) (omega arith))
  reached p j known h (no d) m = absurd (m (outset-else p j known d h))

  waits : (p j : ℕ) → p < N.places → j + 1 < at outset_low p → Dec (p ≡ q.start) → cell outset (width q) p (j + 1) ≤ cell outset (width q) p j
  waits p j known h (yes e) = absurd (omega (arith, low-home, rw e at h))
  waits p j known h (no d) =
      let inside : j + 1 < width q = omega (arith, lows p (no d)) in
      omega (arith, outset-else p j known d (omega arith), outset-else p (j + 1) known d inside)

  rides : (l j : ℕ) → l < N.legs → j < at outset_low (N.source l) → j + N.time l < width q → Dec (N.source l ≡ q.start)
      → cell outset (width q) (N.target l) (j + N.time l) ≤ cell outset (width q) (N.source l) j + weight N l (q.earliest + j)
  rides l j known h there (yes e) = absurd (omega (arith, low-home, rw e at h))
  rides l j known h there (no d) =
      omega (
        arith,
        most (N.target l) (j + N.time l) (ranges.targets l known) there (ℕ_discrete (N.target l) q.start),
        outset-else (N.source l) j (ranges.sources l known) d (omega arith),
      )

  pub outset-kept : Kept N q outset outset_low Never
  outset-kept = record {
    long = outset-long ∙ length-replicate {A = ℕ} (length cells) no_plan ∙ long;
    places = omega (arith, room, length-set (replicate n (width q)) q.start 0, length-replicate {A = ℕ} n (width q));
    lows = λ p. lows p (ℕ_discrete p q.start);
    most = λ p j known h. most p j known h (ℕ_discrete p q.start);
    reached = λ p j known h m. reached p j known h (ℕ_discrete p q.start) m;
    starts = outset-home 0 (omega arith);
    waits = λ p j known h. waits p j known h (ℕ_discrete p q.start);
    rides = λ l j known h there _. rides l j known h there (ℕ_discrete (N.source l) q.start);
  }

-- ---- the end of the query does not matter

abbrev pub to : Query → ℕ → Query
to q end = record { start = q.start; end = end; earliest = q.earliest; latest = q.latest }

module _ (N : Network) (q : Query) (a b : ℕ) where
  same_runs : (plan : List Ride) → Runs N (to q a) plan → Runs N (to q b) plan
  same_runs [] h = tt
  same_runs (r ∷ []) h = (record { known = h.0.known; goes = h.0.goes; here = h.0.here; after = h.0.after }, tt)
  same_runs (r ∷ s ∷ rs) h =
      (record { known = h.0.known; goes = h.0.goes; here = h.0.here; after = h.0.after }, same_runs (s ∷ rs) h.1)

  same-stands : (p t : ℕ) (plan : List Ride) → Stands N (to q a) p t plan → Stands N (to q b) p t plan
  same-stands p t [] s = record { runs = tt; there = s.there; by = s.by }
  same-stands p t (r ∷ rs) s = record { runs = same_runs (r ∷ rs) s.runs; there = s.there; by = s.by }

pub any-end : (N : Network) (q : Query) (a b : ℕ) (c : ℕ → Minute → ℕ) → MinuteTable N (to q a) c → MinuteTable N (to q b) c
any-end N q a b c m p t win = by (m p t (record { place = win.place; early = win.early; late = win.late }))
  where
    by : Cell N (to q a) p t (c p t) → Cell N (to q b) p t (c p t)
    by (inl (plan, cheap, e)) =
        inl (
          plan,
          record {
            stands = same-stands N q a b p t plan cheap.stands;
            least = λ other s. cheap.least other (same-stands N q b a p t other s);
          },
          e,
        )
    by (inr (none, e)) = inr ((λ plan s. none plan (same-stands N q b a p t plan s)), e)
