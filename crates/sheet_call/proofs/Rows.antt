-- A table's rows give our sheet.
use Prim.Native.Nat.{ℕ, zero, suc, ◌+◌, ◌-◌, ◌*◌, ◌/◌, ◌≤◌, ◌<◌}
use native.Mathlib.Omega.{arith}
use native.Mathlib.Decide.{ℕ_discrete, dec_lt}
use borrow.Author.Tests.{lt-ltb, le-ltb, le-leb, lt-leb, ne_eqb}
use mathlib.Core.Path.{◌≡◌, refl, sym, ap, ap₂, ◌∙◌, subst}
use mathlib.Core.Bool.{cond}
use mathlib.Core.Option.{Option, none, some}
use mathlib.Core.List.{List, [], ◌∷◌}
use lib.Dec.{ltb}
use lib.ListN.{length, get_or, drop}
use lib.Seq.{get_or-take, get_or-drop}
use Rattle.plan.specs.Network.{Minute, Cents, Network, Query, Askable, Within}
use Rattle.plan.specs.Table.{no_plan, width, cell_at, MinuteTable}
use Rattle.plan.specs.Sheet.{Step, or_else, value, StepsAfter, Steps, LeastCost, OurSheet}
use Rattle.plan.proofs.Cells.{Attained, light}
use Rattle.plan.proofs.Exact.{table-least, table-obeys}
use Rattle.plan.proofs.Sheets.{cost_of, cell-cost}
use Rattle.rows.specs.Whole.{row_of}
use Rattle.rows.proofs.Wholes.{row-length}
use Rattle.walk.proofs.Nets.{row_room}
use Rattle.sheet_call.specs.Rows.{no_cost, step_to, steps_from, steps_of, places_from, sheet_in}
use Rattle.sheet_call.proofs.Stepping.{steps-none, steps-lower, steps-same}

-- ---- minutes rise and costs fall

-- after a step
after : (q : Query) (s : Step) (t : Minute) (cs : List ℕ) → s.minute < t → s.minute ≤ q.latest → t + length cs ≤ q.latest + 1
    → StepsAfter q s (steps_from t s.price cs)
after q s t [] l m h = rw (steps-none t s.price) m
after q s t (c ∷ cs) l m h = at (dec_lt (c / 64) s.price) (λ x before in-time. after q x (t + 1) cs before in-time (omega arith))
  where
    at : Dec (c / 64 < s.price) → ((x : Step) → x.minute < t + 1 → x.minute ≤ q.latest → StepsAfter q x (steps_from (t + 1) x.price cs))
        → StepsAfter q s (steps_from t s.price (c ∷ cs))
    at (yes k) ih = rw (steps-lower t s.price c cs k) (l, k, ih (step_to t (c / 64)) (omega arith) (omega arith))
    at (no n) ih = rw (steps-same t s.price c cs (omega arith)) (ih s (omega arith) m)

pub steps-as-described : (q : Query) (t : Minute) (was : Cents) (cs : List ℕ) → q.earliest ≤ t → t + length cs ≤ q.latest + 1
    → Steps q (steps_from t was cs)
steps-as-described q t was [] e h = rw (steps-none t was) tt
steps-as-described q t was (c ∷ cs) e h = at (dec_lt (c / 64) was) (steps-as-described q (t + 1) was cs (omega arith) (omega arith))
  where
    at : Dec (c / 64 < was) → Steps q (steps_from (t + 1) was cs) → Steps q (steps_from t was (c ∷ cs))
    at (yes k) ih = rw (steps-lower t was c cs k) (e, after q (step_to t (c / 64)) (t + 1) cs (omega arith) (omega arith) (omega arith))
    at (no n) ih = rw (steps-same t was c cs (omega arith)) ih

-- ---- their values

-- what a cell's cost is, below what was
abbrev pub shows : Cents → Cents → Option Cents
shows x was = cond (ltb x was) (some x) none

shows-lower : (x was : Cents) → x < was → shows x was ≡ some x
shows-lower x was h = ap (λ b. cond b (some x) none) (lt-ltb x was h)

shows-none : (x was : Cents) → was ≤ x → shows x was ≡ none
shows-none x was h = ap (λ b. cond b (some x) none) (le-ltb x was h)

-- none before the first minute
before : (t : Minute) (was : Cents) (cs : List ℕ) (u : Minute) → u < t → value (steps_from t was cs) u ≡ none
before t was [] u h = rw (steps-none t was)
before t was (c ∷ cs) u h = at (dec_lt (c / 64) was) (λ w. before (t + 1) w cs u (omega arith))
  where
    at : Dec (c / 64 < was) → ((w : Cents) → value (steps_from (t + 1) w cs) u ≡ none) → value (steps_from t was (c ∷ cs)) u ≡ none
    at (yes k) ih =
        ap (λ ss. value ss u) (steps-lower t was c cs k)
        ∙ ap₂ (λ v b. or_else v (cond b (some (c / 64)) none)) (ih (c / 64)) (lt-leb t u h)
    at (no n) ih = ap (λ ss. value ss u) (steps-same t was c cs (omega arith)) ∙ ih was

-- cells that never rise
abbrev pub Fall : List ℕ → Type 0
Fall cs = (i j : ℕ) → i ≤ j → j < length cs → get_or cs j 0 ≤ get_or cs i 0

fall-tail : (c : ℕ) (cs : List ℕ) → Fall (c ∷ cs) → Fall cs
fall-tail c cs f i j l h = f (suc i) (suc j) (omega arith) (omega arith)

-- the first cell's value
value-first : (t : Minute) (was : Cents) (c : ℕ) (cs : List ℕ) → Dec (c / 64 < was) → value (steps_from t was (c ∷ cs)) (t + 0) ≡ shows (c / 64) was
value-first t was c cs (yes l) =
    ap (λ ss. value ss (t + 0)) (steps-lower t was c cs l)
    ∙ ap₂ (λ v b. or_else v (cond b (some (c / 64)) none)) (before (t + 1) (c / 64) cs (t + 0) (omega arith)) (le-leb t (t + 0) (omega arith))
    ∙ sym (shows-lower (c / 64) was l)
value-first t was c cs (no n) =
    ap (λ ss. value ss (t + 0)) (steps-same t was c cs (omega arith)) ∙ before (t + 1) was cs (t + 0) (omega arith)
    ∙ sym (shows-none (c / 64) was (omega arith))

-- a later cell's value x, from the values of the cells behind the first
value-later : (t u : Minute) (was : Cents) (c : ℕ) (cs : List ℕ) (x : ℕ) → t ≤ u → x ≤ c
    → ((w : Cents) → value (steps_from (t + 1) w cs) u ≡ shows (x / 64) w) → Dec (c / 64 < was) → value (steps_from t was (c ∷ cs)) u ≡ shows (x / 64) was
value-later t u was c cs x le low rest (no n) = ap (λ ss. value ss u) (steps-same t was c cs (omega arith)) ∙ rest was
value-later t u was c cs x le low rest (yes l) =
    ap (λ ss. value ss u) (steps-lower t was c cs l)
    ∙ ap₂ (λ v b. or_else v (cond b (some (c / 64)) none)) (rest (c / 64)) (le-leb t u le)
    ∙ at (dec_lt (x / 64) (c / 64))
  where
    at : Dec (x / 64 < c / 64) → or_else (shows (x / 64) (c / 64)) (some (c / 64)) ≡ shows (x / 64) was
    at (yes d) =
        ap (λ v. or_else v (some (c / 64))) (shows-lower (x / 64) (c / 64) d) ∙ sym (shows-lower (x / 64) was (omega arith))
    at (no n) =
        let same : c / 64 ≡ x / 64 = omega arith in
        ap (λ v. or_else v (some (c / 64))) (shows-none (x / 64) (c / 64) (omega arith)) ∙ ap some same ∙ sym (shows-lower (x / 64) was (omega arith))

pub value-is : (t : Minute) (was : Cents) (cs : List ℕ) → Fall cs → (k : ℕ) → k < length cs
    → value (steps_from t was cs) (t + k) ≡ shows (get_or cs k 0 / 64) was
value-is t was [] f k h = absurd (omega arith)
value-is t was (c ∷ cs) f zero h = value-first t was c cs (dec_lt (c / 64) was)
value-is t was (c ∷ cs) f (suc k) h =
    let when : t + 1 + k ≡ t + suc k = omega arith in
    value-later t (t + suc k) was c cs (get_or cs k 0) (omega arith) (f 0 (suc k) (omega arith) h)
    (λ w. ap (value (steps_from (t + 1) w cs)) (sym when) ∙ value-is (t + 1) w cs (fall-tail c cs f) k (omega arith))
    (dec_lt (c / 64) was)

-- ---- the places

pub places-end : (cells : List ℕ) (w : ℕ) (t : Minute) (p : ℕ) → places_from cells w t p 0 ≡ []
unfolding places_from
places-end cells w t p = refl

pub places-next : (cells : List ℕ) (w : ℕ) (t : Minute) (p k : ℕ)
    → places_from cells w t p (suc k) ≡ steps_of t (row_of cells w p) ∷ places_from cells w t (p + 1) k
unfolding places_from
places-next cells w t p k = refl

pub places-size : (cells : List ℕ) (w : ℕ) (t : Minute) (p k : ℕ) → length (places_from cells w t p k) ≡ k
unfolding places_from
places-size cells w t p zero = refl
places-size cells w t p (suc k) = ap suc (places-size cells w t (p + 1) k)

places-at : (cells : List ℕ) (w : ℕ) (t : Minute) (p k i : ℕ) → i < k → get_or (places_from cells w t p k) i [] ≡ steps_of t (row_of cells w (p + i))
unfolding places_from
places-at cells w t p zero i h = absurd (omega arith)
places-at cells w t p (suc k) zero h = let e : p ≡ p + 0 = omega arith in ap (λ n. steps_of t (row_of cells w n)) e
places-at cells w t p (suc k) (suc i) h =
    let e : p + 1 + i ≡ p + suc i = omega arith in
    places-at cells w t (p + 1) k i (omega arith) ∙ ap (λ n. steps_of t (row_of cells w n)) e

pub sheet-at : (cells : List ℕ) (w : ℕ) (t : Minute) (n p : ℕ) → p < n → get_or (sheet_in cells w t n) p [] ≡ steps_of t (row_of cells w p)
sheet-at cells w t n p h = let e : 0 + p ≡ p = omega arith in places-at cells w t 0 n p h ∙ ap (λ i. steps_of t (row_of cells w i)) e

-- ---- a filled table

module _ (N : Network) (q : Query) (asked : Askable N q) (cells : List ℕ) (room : N.places * width q ≤ length cells)
    (m : MinuteTable N q (cell_at q cells)) (p : ℕ) (here : p < N.places) where
  fits : p * width q + width q ≤ length cells
  fits = omega (arith, row_room (width q) (N.places * width q) p N.places (omega arith) (omega arith))

  pub row-long : length (row_of cells (width q) p) ≡ width q
  row-long = row-length cells (width q) p fits

  row_at : (k : ℕ) → k < width q → get_or (row_of cells (width q) p) k 0 ≡ get_or cells (p * width q + k) 0
  row_at k h = get_or-take (width q) (drop (p * width q) cells) k 0 h ∙ get_or-drop (p * width q) cells k 0

  cell-is : (k : ℕ) → k < width q → get_or (row_of cells (width q) p) k 0 ≡ cell_at q cells p (q.earliest + k)
  cell-is k h = let e : k ≡ q.earliest + k - q.earliest = omega arith in row_at k h ∙ ap (λ (n : ℕ). get_or cells (p * width q + n) 0) e

  -- the row never rises
  row-falls : Fall (row_of cells (width q) p)
  row-falls i j l h =
      let below : j < width q = omega (arith, row-long) in
      let wait = (table-obeys N q asked (cell_at q cells) m).waits p (q.earliest + i) (q.earliest + j) here (omega arith) (omega arith) (omega (arith, asked.window)) in
      omega (arith, cell-is i (omega arith), cell-is j below, wait)

  -- a cell's cost is below `no_cost` unless there is no plan
  shown-cost : (t : Minute) → Within N q p t → shows (cell_at q cells p t / 64) no_cost ≡ cost_of (cell_at q cells p t)
  unfolding Attained
  shown-cost t win = at (ℕ_discrete (cell_at q cells p t) no_plan)
    where
      at : Dec (cell_at q cells p t ≡ no_plan) → shows (cell_at q cells p t / 64) no_cost ≡ cost_of (cell_at q cells p t)
      at (yes e) = rw e refl
      at (no n) =
          let least = table-least N q asked (cell_at q cells) m p t win in
          let plan = least.attained n in
          let cut = light N q asked p t plan.0 plan.1 in
          let small : cell_at q cells p t ≤ 264237183 = omega (arith, least.bound cut.0 cut.2, cut.4) in
          shows-lower (cell_at q cells p t / 64) no_cost (omega arith) ∙ ap (λ b. cond b none (some (cell_at q cells p t / 64))) (sym (ne_eqb (cell_at q cells p t) no_plan n))

  place-value : (t : Minute) → Within N q p t → value (steps_of q.earliest (row_of cells (width q) p)) t ≡ cost_of (cell_at q cells p t)
  place-value t win =
      let k = t - q.earliest in
      let when : q.earliest + (t - q.earliest) ≡ t = omega (arith, win.early) in
      let below : t - q.earliest < width q = omega (arith, win.early, win.late) in
      ap (value (steps_of q.earliest (row_of cells (width q) p))) (sym when)
      ∙ value-is q.earliest no_cost (row_of cells (width q) p) row-falls k (omega (arith, row-long))
      ∙ ap (λ (x : ℕ). shows (x / 64) no_cost) (cell-is k below ∙ ap (cell_at q cells p) when)
      ∙ shown-cost t win

  pub place-steps : Steps q (steps_of q.earliest (row_of cells (width q) p))
  place-steps = steps-as-described q q.earliest no_cost (row_of cells (width q) p) (omega arith) (omega (arith, row-long, asked.window))

  pub place-costs : (t : Minute) → Within N q p t → LeastCost N q p t (value (steps_of q.earliest (row_of cells (width q) p)) t)
  place-costs t win = subst (LeastCost N q p t) (sym (place-value t win)) (cell-cost N q asked (cell_at q cells) m p t win)

-- THE ROWS OF A FILLED TABLE GIVE OUR SHEET
pub our-sheet : (N : Network) (q : Query) → Askable N q → (cells : List ℕ) → N.places * width q ≤ length cells → MinuteTable N q (cell_at q cells)
    → OurSheet N q (sheet_in cells (width q) q.earliest N.places)
our-sheet N q asked cells room m =
    let at = sheet-at cells (width q) q.earliest N.places in
    record {
      size = places-size cells (width q) q.earliest 0 N.places;
      steps = λ p h. subst (Steps q) (sym (at p h)) (place-steps N q asked cells room m p h);
      costs = λ p t win.
          subst (λ (ss : List Step). LeastCost N q p t (value ss t)) (sym (at p win.place))
          (place-costs N q asked cells room m p win.place t win);
    }
