-- The best of finitely many plans: so wherever a feasible plan exists there is a named one, and a minute table exists. Assumes nothing.
use Prim.Native.Nat.{ℕ, zero, suc, ◌≤◌, ◌<◌}
use native.Mathlib.Omega.{arith}
use native.Mathlib.Decide.{ℕ_discrete, dec_lt, dec_le}
use mathlib.Core.Path.{◌≡◌, refl, sym, subst}
use mathlib.Core.Logic.Dec
use mathlib.Core.Logic.{◌⊎◌, inl, inr, ⊎_elim}
use mathlib.Core.Bool.{Bool, true, false}
use mathlib.Core.List.Memᴰ
use mathlib.Core.List.{List, [], ◌∷◌, ◌++◌, map, Memᴰ}
use lib.Dec.{T}
use lib.ListN.{length}
use Rattle.plan.specs.Network.{Minute, Network, Query, Askable}
use Rattle.plan.specs.Plan.{Ride, place, arrival, total, Follows, Runs, Stands, Feasible}
use Rattle.plan.specs.Tie.{Upto, Named}
use Rattle.plan.specs.Table.{no_plan, weight, Cell, MinuteTable}
use Rattle.plan.proofs.Circles.{NoWorse, no-worse-stands, cut_short}
use Rattle.plan.proofs.Order.{upto-total, upto-trans, no-worse-upto}
use Rattle.plan.proofs.Cells.{Attained, Least, light, least-cell}

-- ---- the best of a list

module _ {A : Type 0} (Upto : A → A → Type 0) (total : (x y : A) → Upto x y ⊎ Upto y x)
    (trans : (x y z : A) → Upto x y → Upto y z → Upto x z) (P : A → Type 0) (dec : (x : A) → Dec (P x)) where
  -- the best of those in the list that have P, or there is none
  Best : List A → Type 0
  Best l =
      ((x : A) × P x × ((y : A) → Memᴰ y l → P y → Upto x y)) ⊎ ((y : A) → Memᴰ y l → P y → ⊥)

  self : (x y : A) → y ≡ x → Upto x y
  self x y e = subst (λ (z : A). Upto x z) (sym e) (⊎_elim (λ h. h) (λ h. h) (total x x))

  best : (l : List A) → Best l
  unfolding Best
  best [] = inr (λ y m h. absurd (Memᴰ.not-nil m))
  best (a ∷ l) = at (dec a) (best l)
    where
      at : Dec (P a) → Best l → Best (a ∷ l)
      at (no na) (inl (x, px, k)) =
          inl
          (x, px, λ y m h. ⊎_elim (λ (e : y ≡ a). absurd (na (subst P e h))) (λ (n : Memᴰ y l). k y n h) (Memᴰ.cases_cons m))
      at (no na) (inr k) =
          inr (λ y m h. ⊎_elim (λ (e : y ≡ a). na (subst P e h)) (λ (n : Memᴰ y l). k y n h) (Memᴰ.cases_cons m))
      at (yes pa) (inr k) =
          inl
          (a, pa, λ y m h. ⊎_elim (λ (e : y ≡ a). self a y e) (λ (n : Memᴰ y l). absurd (k y n h)) (Memᴰ.cases_cons m))
      at (yes pa) (inl (x, px, k)) =
          ⊎_elim
          (λ (u : Upto a x). inl
          (a, pa, λ y m h. ⊎_elim (λ (e : y ≡ a). self a y e) (λ (n : Memᴰ y l). trans a x y u (k y n h)) (Memᴰ.cases_cons m)))
          (λ (u : Upto x a). inl
          (x, px, λ y m h. ⊎_elim (λ (e : y ≡ a). trans x a y u (self a y e)) (λ (n : Memᴰ y l). k y n h) (Memᴰ.cases_cons m)))
          (total a x)

-- ---- all rides of the window, and all plans of at most n of them

below : ℕ → List ℕ
below zero = []
below (suc n) = n ∷ below n

in-below : (k n : ℕ) → k < n → Memᴰ k (below n)
unfolding below
in-below k zero h = absurd (omega arith)
in-below k (suc n) h = at (ℕ_discrete k n) (λ (l : k < n). in-below k n l)
  where
    at : Dec (k ≡ n) → (k < n → Memᴰ k (below n)) → Memᴰ k (n ∷ below n)
    at (yes e) ih = Memᴰ.head e
    at (no ne) ih = Memᴰ.tail (ih (omega arith))

module _ {A B : Type 0} (f : A → List B) where
  flat : List A → List B
  flat [] = []
  flat (a ∷ l) = f a ++ flat l

  in-flat : (a : A) (b : B) (l : List A) → Memᴰ a l → Memᴰ b (f a) → Memᴰ b (flat l)
  unfolding flat
  in-flat a b [] m k = absurd (Memᴰ.not-nil m)
  in-flat a b (x ∷ l) m k = at (Memᴰ.cases_cons m) (λ (n : Memᴰ a l). in-flat a b l n k)
    where
      at : (a ≡ x) ⊎ Memᴰ a l → (Memᴰ a l → Memᴰ b (flat l)) → Memᴰ b (f x ++ flat l)
      at (inl e) ih = Memᴰ.append_left (flat l) (subst (λ (z : A). Memᴰ b (f z)) e k)
      at (inr n) ih = Memᴰ.append_right (f x) (ih n)

module _ (N : Network) (q : Query) where
  ride_of : ℕ → Minute → Ride
  ride_of l d = record { leg = l; leave = d }

  rides : List Ride
  rides = flat (λ l. map (ride_of l) (below (suc q.latest))) (below N.legs)

  in-rides : (r : Ride) → r.leg < N.legs → r.leave ≤ q.latest → Memᴰ r rides
  unfolding rides ride_of
  in-rides r h k =
      in-flat (λ l. map (ride_of l) (below (suc q.latest))) r.leg r (below N.legs) (in-below r.leg N.legs h)
      (Memᴰ.map (ride_of r.leg) (in-below r.leave (suc q.latest) (omega arith)))

  plans : ℕ → List (List Ride)
  plans zero = [] ∷ []
  plans (suc n) = [] ∷ flat (λ (r : Ride). map (λ (rs : List Ride). r ∷ rs) (plans n)) rides

  in-plans : (n : ℕ) (plan : List Ride) → Runs N q plan → arrival N q plan ≤ q.latest → length plan ≤ n → Memᴰ plan (plans n)
  unfolding plans
  in-plans zero [] h t l = Memᴰ.head refl
  in-plans zero (r ∷ rs) h t l = absurd (omega arith)
  in-plans (suc n) [] h t l = Memᴰ.head refl
  in-plans (suc n) (r ∷ rs) h t l =
      Memᴰ.tail
      (in-flat (λ (r : Ride). map (λ (rs : List Ride). r ∷ rs) (plans n)) r (r ∷ rs) rides
      (in-rides r h.0.known (omega arith))
      (Memᴰ.map (λ (rs : List Ride). r ∷ rs) (in-plans n rs h.1 (omega (arith, h.0.after)) (omega arith))))

  -- ---- whether a plan stands at a place by a minute can be told

  dec-T : (b : Bool) → Dec (T b)
  dec-T true = yes tt
  dec-T false = no (λ h. h)

  dec-follows : (rs : List Ride) (r : Ride) → Dec (Follows N q rs r)
  dec-follows rs r =
      at (dec_lt r.leg N.legs) (dec-T (N.goes r.leg r.leave)) (ℕ_discrete (N.source r.leg) (place N q rs))
      (dec_le (arrival N q rs) r.leave)
    where
      at : Dec (r.leg < N.legs) → Dec (T (N.goes r.leg r.leave)) → Dec (N.source r.leg ≡ place N q rs)
          → Dec (arrival N q rs ≤ r.leave)
          → Dec (Follows N q rs r)
      at (no n) g h a = no (λ f. n f.known)
      at (yes k) (no n) h a = no (λ f. n f.goes)
      at (yes k) (yes g) (no n) a = no (λ f. n f.here)
      at (yes k) (yes g) (yes h) (no n) = no (λ f. n f.after)
      at (yes k) (yes g) (yes h) (yes a) = yes (record { known = k; goes = g; here = h; after = a })

  dec-runs : (plan : List Ride) → Dec (Runs N q plan)
  dec-runs [] = yes tt
  dec-runs (r ∷ rs) = Dec.and (dec-follows rs r) (dec-runs rs)

  dec-stands : (p : ℕ) (t : Minute) (plan : List Ride) → Dec (Stands N q p t plan)
  dec-stands p t plan = at (dec-runs plan) (ℕ_discrete (place N q plan) p) (dec_le (arrival N q plan) t)
    where
      at : Dec (Runs N q plan) → Dec (place N q plan ≡ p) → Dec (arrival N q plan ≤ t) → Dec (Stands N q p t plan)
      at (no n) h a = no (λ s. n s.runs)
      at (yes r) (no n) a = no (λ s. n s.there)
      at (yes r) (yes h) (no n) = no (λ s. n s.by)
      at (yes r) (yes h) (yes a) = yes (record { runs = r; there = h; by = a })

  module _ (asked : Askable N q) where
    -- EITHER there is a named plan OR there is no feasible one
    pub named-or-none : ((plan : List Ride) × Named N q plan) ⊎ ((plan : List Ride) → Feasible N q plan → ⊥)
    unfolding Best
    named-or-none =
        at (best (Upto N q) (upto-total N q) (upto-trans N q) (Feasible N q) (dec-stands q.end q.latest) (plans N.places))
      where
        among : (plan : List Ride) → Feasible N q plan
            → (cut : List Ride) × NoWorse N q plan cut × Feasible N q cut × Memᴰ cut (plans N.places)
        among plan f =
            let (cut, k, short) = cut_short N q asked.ranges asked.home plan f.runs in
            let f' = no-worse-stands N q q.end q.latest plan cut k f in
            (cut, k, f', in-plans N.places cut k.runs f'.by (omega arith))

        at : Best (Upto N q) (upto-total N q) (upto-trans N q) (Feasible N q) (dec-stands q.end q.latest) (plans N.places)
            → ((plan : List Ride) × Named N q plan) ⊎ ((plan : List Ride) → Feasible N q plan → ⊥)
        at (inl (x, fx, k)) =
            inl (
              x,
              record {
                feasible = fx;
                first = λ other f.
                    let (cut, m, fc, mem) = among other f in
                    upto-trans N q x cut other (k cut mem fc) (no-worse-upto N q other cut m);
              },
            )
        at (inr k) = inr (λ plan f. let (cut, m, fc, mem) = among plan f in k cut mem fc)

    -- WHEREVER A FEASIBLE PLAN EXISTS there is a named one
    pub named-exists : (plan : List Ride) → Feasible N q plan → (named : List Ride) × Named N q named
    named-exists plan f = ⊎_elim (λ n. n) (λ (k : (x : List Ride) → Feasible N q x → ⊥). absurd (k plan f)) named-or-none

    -- ---- a minute table exists

    lighter : List Ride → List Ride → Type 0
    lighter x y = total (weight N) x ≤ total (weight N) y

    lighter-total : (x y : List Ride) → lighter x y ⊎ lighter y x
    unfolding lighter
    lighter-total x y = at (dec_le (total (weight N) x) (total (weight N) y))
      where
        at : Dec (total (weight N) x ≤ total (weight N) y) → lighter x y ⊎ lighter y x
        at (yes h) = inl h
        at (no n) = inr (omega arith)

    lighter-trans : (x y z : List Ride) → lighter x y → lighter y z → lighter x z
    unfolding lighter
    lighter-trans x y z h k = omega arith

    -- each cell of the window has a value
    pub least-exists : (p : ℕ) (t : Minute) → t ≤ q.latest → (v : ℕ) × Least N q p t v
    unfolding Best lighter Attained
    least-exists p t late = at (best lighter lighter-total lighter-trans (Stands N q p t) (dec-stands p t) (plans N.places))
      where
        among : (plan : List Ride) → Stands N q p t plan
            → (cut : List Ride) × NoWorse N q plan cut × Stands N q p t cut × Memᴰ cut (plans N.places)
        among plan s =
            let (cut, k, short) = cut_short N q asked.ranges asked.home plan s.runs in
            let s' = no-worse-stands N q p t plan cut k s in
            (cut, k, s', in-plans N.places cut k.runs (omega (arith, s'.by)) (omega arith))

        at : Best lighter lighter-total lighter-trans (Stands N q p t) (dec-stands p t) (plans N.places) → (v : ℕ) × Least N q p t v
        at (inl (x, sx, k)) =
            let bound : (other : List Ride) → Stands N q p t other → total (weight N) x ≤ total (weight N) other =
            λ other s. let (cut, m, sc, mem) = among other s in omega (arith, k cut mem sc, m.lighter (weight N)) in (
              total (weight N) x,
              record {
                attained = λ ne. (x, sx, refl);
                bound = bound;
                there = λ other s.
                    let (cut, m, sc, few, small) = light N q asked p t other s in
                    omega (arith, bound cut sc, small);
              },
            )
        at (inr k) =
            let never : (plan : List Ride) → Stands N q p t plan → ⊥ = λ plan s. let (cut, m, sc, mem) = among plan s in k cut mem sc in (
              no_plan,
              record {
                attained = λ ne. absurd (ne refl);
                bound = λ plan s. absurd (never plan s);
                there = λ plan s. absurd (never plan s);
              },
            )

    least_at : (p : ℕ) (t : Minute) → Dec (t ≤ q.latest) → ℕ
    least_at p t (yes h) = (least-exists p t h).0
    least_at p t (no n) = no_plan

    -- A MINUTE TABLE EXISTS
    pub table-exists : (c : ℕ → Minute → ℕ) × MinuteTable N q c
    unfolding least_at
    table-exists = (λ p t. least_at p t (dec_le t q.latest), λ p t win. at p t (dec_le t q.latest) win.late)
      where
        at : (p : ℕ) (t : Minute) (d : Dec (t ≤ q.latest)) → t ≤ q.latest → Cell N q p t (least_at p t d)
        at p t (yes h) late = least-cell N q asked p t (least-exists p t h).0 (least-exists p t h).1
        at p t (no n) late = absurd (n late)
