-- A table that passes a computed test is a minute table, and a plan that passes one against it is the named plan. Assumes nothing.
use Prim.Native.Nat.{ℕ, zero, suc, ◌+◌, ◌-◌, ◌/◌, ◌≤◌, ◌<◌}
use native.Mathlib.Omega.{arith}
use native.Mathlib.Nat.{add-zero}
use mathlib.Core.Path.{◌≡◌, sym, ap, ◌∙◌, subst}
use mathlib.Core.Logic.{◌≢◌, ◌⊎◌, inl, inr, ⊎_elim}
use mathlib.Core.Bool.{Bool, not, ◌&&◌, ◌||◌}
use mathlib.Core.List.{List, [], ◌∷◌}
use lib.Dec.{T, leb, ltb, eqb, leb→le, ltb→lt, le→leb, eqb→eq, T_not}
use Rattle.plan.specs.Network.{Minute, Network, Query, Askable, Within}
use Rattle.plan.specs.Plan.{Ride, arrives, arrival}
use Rattle.plan.specs.Tie.{Named}
use Rattle.plan.specs.Table.{no_plan, weight, MinuteTable}
use Rattle.plan.proofs.Tests.{and_left, and_right, and_both, or_cases, unless_not, eq-eqb, not_eqb, every_from, every-at, any_below, any_at, at-any}
use Rattle.plan.proofs.Standing.{at_source}
use Rattle.plan.proofs.Cells.{Attained, attained-start, attained-wait, attained-ride}
use Rattle.plan.proofs.Exact.{ObeysCells, AttainedCells, exact, table-obeys}
use Rattle.plan.proofs.Walk.{Fits, Best, FirstAt, first-of-falling, best-stop, best-wait, best-ride}
use Rattle.plan.proofs.Named.{best-named}

module _ (N : Network) (q : Query) (c : ℕ → Minute → ℕ) where
  -- the leg l fits the cell of p at a, left for at the minute from which it arrives then
  abbrev pub fits? : ℕ → Minute → ℕ → Bool
  fits? p a l =
      eqb (N.target l) p && (leb (q.earliest + N.time l) a
      && (N.goes l (a - N.time l) && eqb (c (N.source l) (a - N.time l) + weight N l (a - N.time l)) (c p a)))

  pub test_fits : (p : ℕ) (a : Minute) (l : ℕ) → l < N.legs → a ≤ q.latest → T (fits? p a l) → Fits N q c p a l (a - N.time l)
  test_fits p a l known late h =
      let rest = and_right (eqb (N.target l) p) _ h in
      let early = leb→le (q.earliest + N.time l) a (and_left (leb (q.earliest + N.time l) a) _ rest) in
      let rest₂ = and_right (leb (q.earliest + N.time l) a) _ rest in
      record {
        leaves = record {
          known = known;
          goes = and_left (N.goes l (a - N.time l)) _ rest₂;
          early = omega arith;
          late = omega arith;
        };
        reaches = eqb→eq (N.target l) p (and_left (eqb (N.target l) p) _ h);
        arrives = omega arith;
        explains = eqb→eq _ _ (and_right (N.goes l (a - N.time l)) _ rest₂);
      }

  pub fits-test : (p : ℕ) (a : Minute) (l : ℕ) (d : Minute) → Fits N q c p a l d → T (fits? p a l)
  fits-test p a l d f =
      let e : a - N.time l ≡ d = omega (arith, f.arrives) in
      and_both (eqb (N.target l) p) _ (eq-eqb (N.target l) p f.reaches)
      (and_both (leb (q.earliest + N.time l) a) _ (le→leb (q.earliest + N.time l) a (omega (arith, f.arrives, f.leaves.early)))
      (rw e (and_both (N.goes l d) _ f.leaves.goes (eq-eqb _ _ f.explains))))

  -- the cell of p at t is `no_plan`, or 0 at the start, or the one before it, or a leg fits it
  abbrev grounded? : ℕ → Minute → Bool
  grounded? p t =
      eqb (c p t) no_plan
      || ((eqb p q.start && eqb (c p t) 0)
      || ((ltb q.earliest t && eqb (c p (t - 1)) (c p t)) || any_below N.legs (fits? p t)))

  -- the cell is not above `no_plan`, nor above the one before it
  abbrev settled? : ℕ → Minute → Bool
  settled? p t = leb (c p t) no_plan && (leb t q.earliest || leb (c p t) (c p (t - 1)))

  -- the leg l left for at d gives nothing below its target's cell
  abbrev obeyed? : Minute → ℕ → Bool
  obeyed? d l =
      not (N.goes l d && leb (d + N.time l) q.latest)
      || leb (c (N.target l) (d + N.time l)) (c (N.source l) d + weight N l d)

  abbrev column? : Minute → Bool
  column? t =
      every_from N.places 0 (λ p. grounded? p t && settled? p t)
      && every_from N.legs 0 (λ l. obeyed? t l)

  -- THE TEST OF A TABLE
  unfoldable pub table? : Bool
  table? = eqb (c q.start q.earliest) 0 && every_from (q.latest + 1 - q.earliest) q.earliest column?

  module _ (asked : Askable N q) (h : T table?) where
    column-at : (t : Minute) → q.earliest ≤ t → t ≤ q.latest → T (column? t)
    unfolding table?
    column-at t early late =
        every-at (q.latest + 1 - q.earliest) q.earliest column?
        (and_right (eqb (c q.start q.earliest) 0) (every_from (q.latest + 1 - q.earliest) q.earliest column?) h)
        t early (omega arith)

    cell_at : (p : ℕ) (t : Minute) → Within N q p t → T (grounded? p t && settled? p t)
    cell_at p t win =
        every-at N.places 0 (λ p. grounded? p t && settled? p t)
        (and_left (every_from N.places 0 (λ p. grounded? p t && settled? p t)) (every_from N.legs 0 (λ l. obeyed? t l))
        (column-at t win.early win.late))
        p (omega arith) (omega arith)

    settled_at : (p : ℕ) (t : Minute) → Within N q p t → T (settled? p t)
    settled_at p t win = and_right (grounded? p t) (settled? p t) (cell_at p t win)

    most-at : (p : ℕ) (t : Minute) → Within N q p t → c p t ≤ no_plan
    most-at p t win = leb→le (c p t) no_plan (and_left (leb (c p t) no_plan) _ (settled_at p t win))

    abbrev Ground : ℕ → Type 0
    Ground k =
        (p : ℕ) (t : Minute) → Within N q p t → c p t + t < k → c p t < no_plan → Attained N q p t (c p t)

    -- one step down: waiting lowers the minute, and riding the cell
    ground-step : (k : ℕ) → Ground k → Ground (suc k)
    ground-step k ih p t win fuel n =
        at (or_cases (eqb (c p t) no_plan) _ (and_left (grounded? p t) (settled? p t) (cell_at p t win)))
      where
        begun : T (eqb p q.start && eqb (c p t) 0) → Attained N q p t (c p t)
        begun b =
            let here = eqb→eq p q.start (and_left (eqb p q.start) _ b) in
            let free = eqb→eq (c p t) 0 (and_right (eqb p q.start) _ b) in
            subst (λ (x : ℕ). Attained N q x t (c p t)) (sym here)
            (subst (λ (v : ℕ). Attained N q q.start t v) (sym free) (attained-start N q t win.early))

        waited : T (ltb q.earliest t && eqb (c p (t - 1)) (c p t)) → Attained N q p t (c p t)
        waited w =
            let late-enough = ltb→lt q.earliest t (and_left (ltb q.earliest t) _ w) in
            let same = eqb→eq (c p (t - 1)) (c p t) (and_right (ltb q.earliest t) _ w) in
            attained-wait N q p (t - 1) t (c p t) (omega arith)
            (subst (λ (v : ℕ). Attained N q p (t - 1) v) same
            (ih p (t - 1) (record { place = win.place; early = omega arith; late = omega arith }) (omega arith) (omega arith)))

        ridden : (l : ℕ) → l < N.legs → T (fits? p t l) → Attained N q p t (c p t)
        ridden l known f =
            let fit = test_fits p t l known win.late f in
            let before =
            ih (N.source l) (t - N.time l) (at_source N q asked l (t - N.time l) fit.leaves) (omega (arith, fit.explains))
            (omega (arith, fit.explains)) in
            let after = attained-ride N q l (t - N.time l) (c (N.source l) (t - N.time l)) known fit.leaves.goes before in
            subst (λ (v : ℕ). Attained N q p t v) fit.explains
            (subst (λ (x : ℕ). Attained N q x t (c (N.source l) (t - N.time l) + weight N l (t - N.time l))) fit.reaches
            (subst (λ (x : ℕ). Attained N q (N.target l) x (c (N.source l) (t - N.time l) + weight N l (t - N.time l))) fit.arrives
            after))

        at : T (eqb (c p t) no_plan)
            ⊎ T ((eqb p q.start && eqb (c p t) 0)
            || ((ltb q.earliest t && eqb (c p (t - 1)) (c p t)) || any_below N.legs (fits? p t)))
            → Attained N q p t (c p t)
        at (inl e) = absurd (omega (arith, eqb→eq (c p t) no_plan e))
        at (inr o) =
            ⊎_elim begun
            (λ (o₂ : T ((ltb q.earliest t && eqb (c p (t - 1)) (c p t)) || any_below N.legs (fits? p t))).
            ⊎_elim waited
            (λ (some : T (any_below N.legs (fits? p t))). let (l, known, f) = any_at N.legs (fits? p t) some in ridden l known f)
            (or_cases (ltb q.earliest t && eqb (c p (t - 1)) (c p t)) _ o₂))
            (or_cases (eqb p q.start && eqb (c p t) 0) _ o)

    ground : (k : ℕ) → Ground k
    ground zero = λ p t win fuel n. absurd (omega arith)
    ground (suc k) = ground-step k (ground k)

    test-attained : AttainedCells N q c
    test-attained p t win n =
        ground (suc (c p t + t)) p t win (omega arith) (omega (arith, most-at p t win))

    -- no rise, minute by minute
    test-waits : (n : ℕ) (p : ℕ) (t : Minute) → p < N.places → q.earliest ≤ t → t + n ≤ q.latest → c p (t + n) ≤ c p t
    test-waits zero p t hp early late = omega (arith, ap (c p) (add-zero t))
    test-waits (suc n) p t hp early late =
        omega (
          arith,
          test-waits n p t hp early (omega arith),
          step (or_cases (leb (t + suc n) q.earliest) _ here),
          ap (c p) before,
        )
      where
        before : t + suc n - 1 ≡ t + n
        before = omega arith

        here : T (leb (t + suc n) q.earliest || leb (c p (t + suc n)) (c p (t + suc n - 1)))
        here = and_right (leb (c p (t + suc n)) no_plan) _ (settled_at p (t + suc n) (record { place = hp; early = omega arith; late = late }))

        step : T (leb (t + suc n) q.earliest) ⊎ T (leb (c p (t + suc n)) (c p (t + suc n - 1))) → c p (t + suc n) ≤ c p (t + suc n - 1)
        step (inl b) = absurd (omega (arith, leb→le (t + suc n) q.earliest b))
        step (inr b) = leb→le (c p (t + suc n)) (c p (t + suc n - 1)) b

    test-obeys : ObeysCells N q c
    unfolding table?
    test-obeys = record {
      starts = eqb→eq (c q.start q.earliest) 0
          (and_left (eqb (c q.start q.earliest) 0) (every_from (q.latest + 1 - q.earliest) q.earliest column?) h);
      waits = λ p t u hp early l late.
          let e : t + (u - t) ≡ u = omega arith in
          omega (arith, test-waits (u - t) p t hp early (omega arith), ap (c p) e);
      rides = λ l d go.
          leb→le (c (N.target l) (d + N.time l)) (c (N.source l) d + weight N l d)
          (unless_not (N.goes l d && leb (d + N.time l) q.latest) _
          (every-at N.legs 0 (λ l. obeyed? d l)
          (and_right (every_from N.places 0 (λ p. grounded? p d && settled? p d)) (every_from N.legs 0 (λ l. obeyed? d l))
          (column-at d go.early (omega (arith, go.late))))
          l (omega arith) (omega (arith, go.known)))
          (and_both (N.goes l d) _ go.goes (le→leb (d + N.time l) q.latest go.late)));
    }

    -- A TABLE THAT PASSES is a minute table
    pub test-exact : MinuteTable N q c
    test-exact = exact N q asked c test-attained test-obeys

  -- ---- a plan against the table

  -- the cell of p at a is the first of its kind
  abbrev first? : ℕ → Minute → Bool
  first? p a = leb a q.earliest || not (eqb (c p (a - 1)) (c p a))

  -- THE TEST OF A PLAN that is to be best at p by d
  unfoldable pub best? : ℕ → Minute → List Ride → Bool
  best? p d [] = eqb p q.start && eqb (c p d) 0
  best? p d (r ∷ rs) =
      (leb (arrives N r) d && eqb (c p (arrives N r)) (c p d))
      && ((first? p (arrives N r)
      && ((ltb r.leg N.legs && fits? p (arrives N r) r.leg) && not (any_below r.leg (fits? p (arrives N r)))))
      && best? (N.source r.leg) r.leave rs)

  -- THE TEST OF THE NAMED PLAN: it arrives where the least cost first appears, and is best there
  unfoldable pub named? : List Ride → Bool
  named? plan =
      (leb q.earliest (arrival N q plan) && leb (arrival N q plan) q.latest)
      && ((eqb (c q.end (arrival N q plan) / 64) (c q.end q.latest / 64)
      && (leb (arrival N q plan) q.earliest || not (eqb (c q.end (arrival N q plan - 1) / 64) (c q.end q.latest / 64))))
      && best? q.end (arrival N q plan) plan)

  module _ (asked : Askable N q) (m : MinuteTable N q c) where
    test-first : (p : ℕ) (a : Minute) → p < N.places → a ≤ q.latest → T (first? p a) → FirstAt q c p a
    test-first p a hp late h =
        first-of-falling q.earliest q.latest (c p) (λ t u. (table-obeys N q asked c m).waits p t u hp) a late
        (⊎_elim (λ b. inl (leb→le a q.earliest b)) (λ b. inr (not_eqb (c p (a - 1)) (c p a) b)) (or_cases (leb a q.earliest) _ h))

    test-best : (plan : List Ride) (p : ℕ) (d : Minute) → Within N q p d → T (best? p d plan)
        → Best N q c p d plan
    unfolding best?
    test-best [] p d win h =
        let here = eqb→eq p q.start (and_left (eqb p q.start) _ h) in
        let free = eqb→eq (c p d) 0 (and_right (eqb p q.start) _ h) in
        subst (λ (x : ℕ). Best N q c x d []) (sym here)
        (best-stop N q c d win.early (ap (λ (x : ℕ). c x d) (sym here) ∙ free))
    test-best (r ∷ rs) p d win h =
        let settled = and_left (leb (arrives N r) d && eqb (c p (arrives N r)) (c p d)) _ h in
        let rest = and_right (leb (arrives N r) d && eqb (c p (arrives N r)) (c p d)) _ h in
        let ridden = and_left (first? p (arrives N r)
        && ((ltb r.leg N.legs && fits? p (arrives N r) r.leg) && not (any_below r.leg (fits? p (arrives N r))))) _ rest in
        let before = and_right (first? p (arrives N r)
        && ((ltb r.leg N.legs && fits? p (arrives N r) r.leg) && not (any_below r.leg (fits? p (arrives N r))))) _ rest in
        let soon = leb→le (arrives N r) d (and_left (leb (arrives N r) d) _ settled) in
        let same = eqb→eq (c p (arrives N r)) (c p d) (and_right (leb (arrives N r) d) _ settled) in
        let first = test-first p (arrives N r) win.place (omega arith) (and_left (first? p (arrives N r)) _ ridden) in
        let leg = and_right (first? p (arrives N r)) _ ridden in
        let this = and_left (ltb r.leg N.legs && fits? p (arrives N r) r.leg) _ leg in
        let known = ltb→lt r.leg N.legs (and_left (ltb r.leg N.legs) _ this) in
        let when : arrives N r - N.time r.leg ≡ r.leave = omega arith in
        let fit : Fits N q c p (arrives N r) r.leg r.leave =
        rw when at (test_fits p (arrives N r) r.leg known (omega (arith, win.late)) (and_right (ltb r.leg N.legs) _ this)) in
        best-wait N q c p (arrives N r) d (r ∷ rs) soon same
        (best-ride N q asked c m p (arrives N r)
        (record { place = win.place; early = omega (arith, fit.leaves.early); late = omega (arith, win.late) })
        first r.leg r.leave fit
        (λ l' d' low f'.
        T_not (any_below r.leg (fits? p (arrives N r)))
        (and_right (ltb r.leg N.legs && fits? p (arrives N r) r.leg) _ leg)
        (at-any r.leg (fits? p (arrives N r)) l' low (fits-test p (arrives N r) l' d' f')))
        rs
        (test-best rs (N.source r.leg) r.leave (at_source N q asked r.leg r.leave fit.leaves) before))

    -- A PLAN THAT PASSES is the named plan
    pub test-named : (plan : List Ride) → T (named? plan) → Named N q plan
    unfolding named?
    test-named plan h =
        let inside = and_left (leb q.earliest (arrival N q plan) && leb (arrival N q plan) q.latest) _ h in
        let rest = and_right (leb q.earliest (arrival N q plan) && leb (arrival N q plan) q.latest) _ h in
        let cheap = and_left (eqb (c q.end (arrival N q plan) / 64) (c q.end q.latest / 64)
        && (leb (arrival N q plan) q.earliest || not (eqb (c q.end (arrival N q plan - 1) / 64) (c q.end q.latest / 64)))) _ rest in
        let best = and_right (eqb (c q.end (arrival N q plan) / 64) (c q.end q.latest / 64)
        && (leb (arrival N q plan) q.earliest || not (eqb (c q.end (arrival N q plan - 1) / 64) (c q.end q.latest / 64)))) _ rest in
        let early = leb→le q.earliest (arrival N q plan) (and_left (leb q.earliest (arrival N q plan)) _ inside) in
        let late = leb→le (arrival N q plan) q.latest (and_right (leb q.earliest (arrival N q plan)) _ inside) in
        let same = eqb→eq _ _ (and_left (eqb (c q.end (arrival N q plan) / 64) (c q.end q.latest / 64)) _ cheap) in
        let before = and_right (eqb (c q.end (arrival N q plan) / 64) (c q.end q.latest / 64)) _ cheap in
        best-named N q asked c m (arrival N q plan) (record { place = asked.goal; early = early; late = late }) same
        (λ t low sooner e. sooner-dearer late (or_cases (leb (arrival N q plan) q.earliest) _ before) same t low sooner (e ∙ sym same))
        plan
        (test-best plan q.end (arrival N q plan) (record { place = asked.goal; early = early; late = late }) best)
      where
        falls : (t u : Minute) → q.earliest ≤ t → t ≤ u → u ≤ q.latest → c q.end u / 64 ≤ c q.end t / 64
        falls t u early h late = omega (arith, (table-obeys N q asked c m).waits q.end t u asked.goal early h late)

        sooner-dearer : arrival N q plan ≤ q.latest
            → T (leb (arrival N q plan) q.earliest) ⊎ T (not (eqb (c q.end (arrival N q plan - 1) / 64) (c q.end q.latest / 64)))
            → c q.end (arrival N q plan) / 64 ≡ c q.end q.latest / 64
            → (t : Minute) → q.earliest ≤ t → t < arrival N q plan → c q.end t / 64 ≢ c q.end (arrival N q plan) / 64
        sooner-dearer late h same =
            first-of-falling q.earliest q.latest (λ t. c q.end t / 64) falls (arrival N q plan) late
            (⊎_elim (λ b. inl (leb→le (arrival N q plan) q.earliest b))
            (λ b. inr (λ e. not_eqb (c q.end (arrival N q plan - 1) / 64) (c q.end q.latest / 64) b (e ∙ same))) h)
