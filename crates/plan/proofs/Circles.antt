-- Cutting circles: waiting costs nothing, so a plan that comes to a place twice does as well without the way between.
-- Hence every plan has one that is no worse and has fewer legs than the network has places. Assumes nothing.
use Prim.Native.Nat.{ℕ, zero, suc, ◌+◌, ◌≤◌, ◌<◌}
use native.Mathlib.Omega.{arith}
use native.Mathlib.Decide.{ℕ_discrete}
use mathlib.Core.Path.{◌≡◌, refl, sym, ap, ◌∙◌}
use mathlib.Core.Logic.{◌≢◌, ◌⊎◌, inl, inr, ⊎_elim}
use mathlib.Core.List.{List, [], ◌∷◌}
use lib.ListN.{length}
use Rattle.plan.specs.Network.{Minute, Network, InRange, Query}
use Rattle.plan.specs.Plan.{Ride, place, arrival, total, Follows, Runs, Stands}

-- ---- counting: numbers below n that are all different are at most n

-- how often: 1 where a fact holds and 0 where it does not
abbrev once : {P : Type 0} → Dec P → ℕ
once (yes h) = 1
once (no h) = 0

once-yes : {P : Type 0} (d : Dec P) → P → once d ≡ 1
once-yes (yes h) p = refl
once-yes (no h) p = absurd (h p)

once-no : {P : Type 0} (d : Dec P) → (P → ⊥) → once d ≡ 0
once-no (yes h) p = absurd (p h)
once-no (no h) p = refl

-- the sum of f over the numbers below n
tally : (ℕ → ℕ) → ℕ → ℕ
tally f zero = 0
tally f (suc n) = tally f n + f n

tally-add : (f g : ℕ → ℕ) (n : ℕ) → tally (λ p. f p + g p) n ≡ tally f n + tally g n
unfolding tally
tally-add f g zero = refl
tally-add f g (suc n) = omega (arith, tally-add f g n)

tally-small : (f : ℕ → ℕ) → ((p : ℕ) → f p ≤ 1) → (n : ℕ) → tally f n ≤ n
unfolding tally
tally-small f h zero = omega arith
tally-small f h (suc n) = omega (arith, tally-small f h n, h n)

mark : ℕ → ℕ → ℕ
mark x p = once (ℕ_discrete x p)

tally-past : (x n : ℕ) → n ≤ x → tally (mark x) n ≡ 0
unfolding tally mark
tally-past x zero h = refl
tally-past x (suc n) h = omega (arith, tally-past x n (omega arith), once-no (ℕ_discrete x n) (λ e. omega arith))

tally-mark : (x n : ℕ) → x < n → tally (mark x) n ≡ 1
unfolding tally mark
tally-mark x zero h = omega arith
tally-mark x (suc n) h = at (ℕ_discrete x n) (λ (k : x < n). tally-mark x n k)
  where
    at : Dec (x ≡ n) → (x < n → tally (mark x) n ≡ 1) → tally (mark x) n + once (ℕ_discrete x n) ≡ 1
    at (yes e) ih = omega (arith, once-yes (ℕ_discrete x n) e, tally-past x n (omega arith))
    at (no ne) ih = omega (arith, once-no (ℕ_discrete x n) ne, ih (omega arith))

-- ---- plans that come to no place twice

-- x is none of the places that the plan comes to
abbrev Fresh : Network → Query → ℕ → List Ride → Type 0
Fresh N q x [] = x ≢ q.start
Fresh N q x (r ∷ rs) = (x ≢ N.target r.leg) × Fresh N q x rs

-- the plan comes to no place twice
abbrev pub Simple : Network → Query → List Ride → Type 0
Simple N q [] = Unit {0}
Simple N q (r ∷ rs) = Fresh N q (N.target r.leg) rs × Simple N q rs

-- how often the plan comes to the place p
visits : Network → Query → List Ride → ℕ → ℕ
visits N q [] p = mark q.start p
visits N q (r ∷ rs) p = visits N q rs p + mark (N.target r.leg) p

module _ (N : Network) (q : Query) where
  visits-fresh : (x : ℕ) (rs : List Ride) → Fresh N q x rs → visits N q rs x ≡ 0
  unfolding visits mark
  visits-fresh x [] f = once-no (ℕ_discrete q.start x) (λ e. f (sym e))
  visits-fresh x (r ∷ rs) f =
      omega (arith, visits-fresh x rs f.1, once-no (ℕ_discrete (N.target r.leg) x) (λ e. f.0 (sym e)))

  once-small : {P : Type 0} (d : Dec P) → once d ≤ 1
  once-small (yes h) = omega arith
  once-small (no h) = omega arith

  visits-simple : (rs : List Ride) → Simple N q rs → (p : ℕ) → visits N q rs p ≤ 1
  unfolding visits mark
  visits-simple [] s p = once-small (ℕ_discrete q.start p)
  visits-simple (r ∷ rs) s p = at (ℕ_discrete (N.target r.leg) p) (visits-simple rs s.1 p)
    where
      at : Dec (N.target r.leg ≡ p) → visits N q rs p ≤ 1 → visits N q rs p + once (ℕ_discrete (N.target r.leg) p) ≤ 1
      at (yes e) ih =
          omega
          (arith, once-yes (ℕ_discrete (N.target r.leg) p) e, rw e at (visits-fresh (N.target r.leg) rs s.0))
      at (no ne) ih = omega (arith, once-no (ℕ_discrete (N.target r.leg) p) ne)

  module _ (ok : InRange N) (home : q.start < N.places) where
    visits-all : (rs : List Ride) → Runs N q rs → tally (visits N q rs) N.places ≡ suc (length rs)
    unfolding visits
    visits-all [] h = tally-mark q.start N.places home
    visits-all (r ∷ rs) h =
        omega (
          arith,
          tally-add (visits N q rs) (mark (N.target r.leg)) N.places,
          visits-all rs h.1,
          tally-mark (N.target r.leg) N.places (ok.targets r.leg h.0.known),
        )

    -- a plan that comes to no place twice has fewer legs than there are places
    pub simple-short : (rs : List Ride) → Runs N q rs → Simple N q rs → length rs < N.places
    simple-short rs h s =
        omega (arith, visits-all rs h, tally-small (visits N q rs) (visits-simple rs s) N.places)

-- ---- cutting

-- A plan that does as well: it stands at the same place no later, weighs no more whatever is weighed, and has fewer legs unless it is the same.
pub record NoWorse (N : Network) (q : Query) (plan cut : List Ride) : Type 0 where
  pub runs : Runs N q cut
  pub there : place N q cut ≡ place N q plan
  pub by : arrival N q cut ≤ arrival N q plan
  pub lighter : (w : ℕ → Minute → ℕ) → total w cut ≤ total w plan
  pub shorter : (cut ≡ plan) ⊎ (length cut < length plan)

-- the plan as far as the place x, which it comes to
record Part (N : Network) (q : Query) (x : ℕ) (plan part : List Ride) : Type 0 where
  runs : Runs N q part
  simple : Simple N q part
  there : place N q part ≡ x
  by : arrival N q part ≤ arrival N q plan
  lighter : (w : ℕ → Minute → ℕ) → total w part ≤ total w plan
  short : length part ≤ length plan

module _ (N : Network) (q : Query) where
  find : (x : ℕ) (rs : List Ride) → Runs N q rs → Simple N q rs → Fresh N q x rs ⊎ ((part : List Ride) × Part N q x rs part)
  find x [] h s = at (ℕ_discrete x q.start)
    where
      at : Dec (x ≡ q.start) → (x ≢ q.start) ⊎ ((part : List Ride) × Part N q x [] part)
      at (yes e) =
          inr
          ([], record { runs = tt; simple = tt; there = sym e; by = omega arith; lighter = λ w. omega arith; short = omega arith })
      at (no ne) = inl ne
  find x (r ∷ rs) h s = at (ℕ_discrete x (N.target r.leg)) (find x rs h.1 s.1)
    where
      at : Dec (x ≡ N.target r.leg) → Fresh N q x rs ⊎ ((part : List Ride) × Part N q x rs part)
          → Fresh N q x (r ∷ rs) ⊎ ((part : List Ride) × Part N q x (r ∷ rs) part)
      at (yes e) _ =
          inr
          (r ∷ rs, record { runs = h; simple = s; there = sym e; by = omega arith; lighter = λ w. omega arith; short = omega arith })
      at (no ne) (inl f) = inl (ne, f)
      at (no ne) (inr (part, k)) =
          inr (
            part,
            record {
              runs = k.runs;
              simple = k.simple;
              there = k.there;
              by = omega (arith, k.by, h.0.after);
              lighter = λ w. omega (arith, k.lighter w);
              short = omega (arith, k.short);
            },
          )

  pub follows-cut : (r : Ride) (rs cut : List Ride) → Follows N q rs r → NoWorse N q rs cut → Follows N q cut r
  follows-cut r rs cut f k =
      record { known = f.known; goes = f.goes; here = f.here ∙ sym k.there; after = omega (arith, f.after, k.by) }

  longer : (r : Ride) (rs cut : List Ride) → NoWorse N q rs cut → Runs N q (r ∷ rs) → NoWorse N q (r ∷ rs) (r ∷ cut)
  longer r rs cut k h = record {
    runs = (follows-cut r rs cut h.0 k, k.runs);
    there = refl;
    by = omega arith;
    lighter = λ w. omega (arith, k.lighter w);
    shorter = ⊎_elim (λ e. inl (ap (λ (l : List Ride). r ∷ l) e)) (λ (f : length cut < length rs). inr (omega arith)) k.shorter;
  }

  pub not-longer : (rs cut : List Ride) → NoWorse N q rs cut → length cut ≤ length rs
  not-longer rs cut k = ⊎_elim (λ e. omega (arith, ap length e)) (λ (f : length cut < length rs). omega arith) k.shorter

  -- it stands wherever the plan does
  pub no-worse-stands : (p : ℕ) (t : Minute) (plan cut : List Ride) → NoWorse N q plan cut → Stands N q p t plan → Stands N q p t cut
  no-worse-stands p t plan cut k s = record { runs = k.runs; there = k.there ∙ s.there; by = omega (arith, k.by, s.by) }

  -- a plan without circles that does as well
  pub cut : (plan : List Ride) → Runs N q plan → (cut : List Ride) × NoWorse N q plan cut × Simple N q cut
  cut [] h = ([], record { runs = tt; there = refl; by = omega arith; lighter = λ w. omega arith; shorter = inl refl }, tt)
  cut (r ∷ rs) h = at (cut rs h.1)
    where
      at : (rest : List Ride) × NoWorse N q rs rest × Simple N q rest
          → (cut : List Ride) × NoWorse N q (r ∷ rs) cut × Simple N q cut
      at (rest, k, s) = or (find (N.target r.leg) rest k.runs s)
        where
          or : Fresh N q (N.target r.leg) rest ⊎ ((part : List Ride) × Part N q (N.target r.leg) rest part)
              → (cut : List Ride) × NoWorse N q (r ∷ rs) cut × Simple N q cut
          or (inl f) = (r ∷ rest, longer r rs rest k h, (f, s))
          or (inr (part, m)) = (
            part,
            record {
              runs = m.runs;
              there = m.there;
              by = omega (arith, m.by, k.by, h.0.after);
              lighter = λ w. omega (arith, m.lighter w, k.lighter w);
              shorter = inr (omega (arith, m.short, not-longer rs rest k));
            },
            m.simple,
          )

  -- ALL PLANS CAN BE CUT to fewer legs than there are places
  pub cut_short : InRange N → q.start < N.places → (plan : List Ride) → Runs N q plan
      → (cut : List Ride) × NoWorse N q plan cut × (length cut < N.places)
  cut_short ok home plan h =
      let (c, k, s) = cut plan h in
      (c, k, simple-short N q ok home c k.runs s)
