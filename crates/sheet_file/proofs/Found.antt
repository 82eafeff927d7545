-- What a found sheet is like: its steps are as the theory wants them, and they lie inside the file. Assumes nothing.
use mathlib.Core.Bool.{◌&&◌}
use Prim.Native.Nat.{ℕ, zero, suc, ◌+◌, ◌*◌, ◌-◌, ◌≤◌, ◌<◌}
use native.Mathlib.Omega.{arith}
use native.Mathlib.Decide.{ℕ_discrete}
use mathlib.Core.Path.{◌≡◌, refl, sym, ◌∙◌, ap, subst}
use mathlib.Core.Bool.{true, false}
use Rattle.std.specs.Prelude.{None}
use mathlib.Core.List.{List, [], ◌∷◌, ◌++◌}
use borrow.Author.Tests.{leb-true, ltb-true}
use lib.Dec.{leb, ltb}
use lib.ListN.{length, get_or, set, length-append, get_or-append}
use lib.Seq.{get_or-set_same, get_or-set_other, get_or-append-add}
use Rattle.answer.specs.declared.Refusal.TheVariants.{Short, Tail, SheetFile}
use Rattle.bits.specs.Field.{field}
use Rattle.source.specs.Source.{Source, file_of}
use Rattle.network.specs.Reading.{Found, refused, found, next, pick}
use Rattle.source.proofs.Laws.{both_true}
use Rattle.network.proofs.Inversion.{check-step, field_step, inner-step}
use Rattle.plan.specs.Network.{Minute, Cents, Query}
use Rattle.plan.specs.Sheet.{Step, StepsAfter, Steps}
use Rattle.sheet_file.specs.SheetFile.{step, steps, one_place, places, top, body, sheet_of, any_cost}
use Rattle.leg.specs.declared.Window.{Window}
use Rattle.sheet_file.specs.Window.{window, of_window}
use Rattle.sheet_file.specs.InPlace.{place_at, count_at, Nothing, Indexed}
use Rattle.sheet_file.specs.Asked.{Placed}
use Rattle.sheet_file.specs.Judged.{Judged}
use Rattle.sheet_file.proofs.Laws.{nothing-next, prepend, prepend-twice, prepend-nothing, next-prepend, prepend-none, nil}

-- ---- a found step, and found steps

pub record StepRead (s : List ℕ) (at : ℕ) (low latest : Minute) (limit : Cents) (x : Step) (end : ℕ) : Type 0 where
  pub within : at + 44 ≤ 8 * length s
  pub low_enough : low ≤ x.minute
  pub early_enough : x.minute ≤ latest
  pub falls : x.price < limit
  pub end_is : end ≡ at + 44

step-inv : (s : List ℕ) (at : ℕ) (low latest : Minute) (limit : Cents) (x : Step) (end : ℕ)
    → step low latest limit (file_of s) at ≡ found x end → StepRead s at low latest limit x end
step-inv s at low latest limit x end e =
    let m = field_step x end (leb (at + 12) (8 * length s)) Short (field s at 12) (at + 12) _ e in
    let w = check-step x end (◌&&◌ (leb low (field s at 12)) (leb (field s at 12) latest)) SheetFile (at + 12) _ m.1 in
    let p = field_step x end (leb (at + 12 + 32) (8 * length s)) Short (field s (at + 12) 32) (at + 12 + 32) _ w.1 in
    let f = check-step x end (ltb (field s (at + 12) 32) limit) SheetFile (at + 12 + 32) _ p.1 in
    let b = both_true (leb low (field s at 12)) (leb (field s at 12) latest) w.0 in
    let minute : field s at 12 ≡ x.minute = cc f.1 in
    let price : field s (at + 12) 32 ≡ x.price = cc f.1 in
    let after : end ≡ at + 12 + 32 = cc f.1 in
    record {
      within = omega (arith, leb-true (at + 12 + 32) (8 * length s) p.0);
      low_enough = omega (arith, leb-true low (field s at 12) b.0);
      early_enough = omega (arith, leb-true (field s at 12) latest b.1);
      falls = omega (arith, ltb-true (field s (at + 12) 32) limit f.0);
      end_is = omega arith;
    }

-- minutes from `low` to latest rise strictly, and costs below `limit` fall strictly
abbrev pub Falling : Query → Minute → Cents → List Step → Type 0
Falling q low limit [] = Unit {0}
Falling q low limit (x ∷ xs) = (low ≤ x.minute) × (x.minute ≤ q.latest) × (x.price < limit) × Falling q (x.minute + 1) x.price xs

falling-after : (q : Query) (low : Minute) (limit : Cents) (x : Step) (xs : List Step) → Falling q low limit (x ∷ xs) → StepsAfter q x xs
falling-after q low limit x [] h = h.1
falling-after q low limit x (y ∷ ys) h =
    (omega (arith, h.3.0), h.3.2, falling-after q (x.minute + 1) x.price y ys h.3)

falling-steps : (q : Query) (limit : Cents) (xs : List Step) → Falling q q.earliest limit xs → Steps q xs
falling-steps q limit [] h = tt
falling-steps q limit (x ∷ xs) h = (h.0, falling-after q q.earliest limit x xs h)

steps-inv : (s : List ℕ) (q : Query) (n at : ℕ) (low : Minute) (limit : Cents) (xs : List Step) (end : ℕ)
    → steps n low q.latest limit (file_of s) at ≡ found xs end
    → at ≤ 8 * length s
    → Falling q low limit xs × (at + 44 * n ≤ 8 * length s)
unfolding steps
steps-inv s q zero at low limit xs end e h =
    let none : [] ≡ xs = cc in
    (subst (λ (l : List Step). Falling q low limit l) none tt, omega arith)
steps-inv s q (suc n) at low limit xs end e h =
    let one = inner-step xs end (step low q.latest limit (file_of s) at) _ e in
    let x = one.0 in
    let r = step-inv s at low q.latest limit x one.1 one.2 in
    let more = inner-step xs end (steps n (x.minute + 1) q.latest x.price (file_of s) one.1) _ one.3 in
    let rest = steps-inv s q n one.1 (x.minute + 1) x.price more.0 more.1 more.2 (omega (arith, r.end_is, r.within)) in
    let all : x ∷ more.0 ≡ xs = cc more.3 in (
      subst (λ (l : List Step). Falling q low limit l) all (r.low_enough, r.early_enough, r.falls, rest.0),
      omega (arith, rest.1, r.end_is),
    )

-- ---- a found place

pub record PlaceRead (s : List ℕ) (at : ℕ) (q : Query) (xs : List Step) : Type 0 where
  pub inside : at + 12 + 44 * count_at s at ≤ 8 * length s
  pub steps : Steps q xs

pub place-inv : (s : List ℕ) (at : ℕ) (q : Query) (xs : List Step) (end : ℕ) → one_place q (file_of s) at ≡ found xs end → PlaceRead s at q xs
place-inv s at q xs end e =
    let n = field_step xs end (leb (at + 12) (8 * length s)) Short (field s at 12) (at + 12) _ e in
    let m = check-step xs end (leb (field s at 12) 2880) SheetFile (at + 12) _ n.1 in
    let r = steps-inv s q (field s at 12) (at + 12) q.earliest any_cost xs end m.1 (leb-true (at + 12) (8 * length s) n.0) in
    record { inside = r.1; steps = falling-steps q any_cost xs r.0 }

-- ---- places, one further

module _ (q : Query) (src : Source) (n m at : ℕ) (e : n ≡ suc m) where
  places-more : (xs : List Step) (after : ℕ) → one_place q src at ≡ found xs after → places n q src at ≡ prepend (xs ∷ []) (places m q src after)
  unfolding places
  places-more xs after h = rw e (rw h (next-prepend xs (places m q src after)))

  places-nothing : Nothing (one_place q src at) → Nothing (places n q src at)
  unfolding places
  places-nothing h = rw e (nothing-next (one_place q src at) _ h)

-- k places are read, and the others are to be read from `place` on
pub record Partly (s : List ℕ) (q : Query) (n k place : ℕ) (index : List ℕ) : Type 0 where
  pub before : List (List Step)
  pub indexed : Indexed s k index before
  pub rest : places n q (file_of s) 15 ≡ prepend before (places (n - k) q (file_of s) place)

module _ (s : List ℕ) (q : Query) (n : ℕ) where
  pub partly_none : (index : List ℕ) → Partly s q n 0 15 index
  partly_none index =
      let all : n - 0 ≡ n = omega arith in
      record {
        before = [];
        indexed = record { size = refl; steps = λ p h. absurd (omega arith); inside = λ p h. absurd (omega arith) };
        rest = rw all (prepend-none (places n q (file_of s) 15));
      }

  module _ (k place : ℕ) (index : List ℕ) (p : Partly s q n k place index) where
    pub partly_more : (after : ℕ) → k < n → k < length index → one_place q (file_of s) place ≡ found (place_at s place) after
        → Partly s q n (k + 1) after (set index k place)
    partly_more after h l e =
        let b = p.before in
        let new = place_at s place in
        let left : n - k ≡ suc (n - (k + 1)) = omega arith in
        let i = p.indexed in
        record {
          before = b ++ (new ∷ []);
          indexed = record {
            size = length-append b (new ∷ []) ∙ ap (λ (x : ℕ). x + 1) i.size;
            steps = λ j low. steps_of j low (ℕ_discrete j k);
            inside = λ j low. inside_of j low (ℕ_discrete j k);
          };
          rest = p.rest ∙ ap (λ x. prepend b x) (places-more q (file_of s) (n - k) (n - (k + 1)) place left new after e)
              ∙ prepend-twice b (new ∷ []) (places (n - (k + 1)) q (file_of s) after);
        }
      where
        here : get_or (set index k place) k 0 ≡ place
        here = get_or-set_same index k place 0 l

        other : (j : ℕ) → (j ≡ k → ⊥) → get_or (set index k place) j 0 ≡ get_or index j 0
        other j n' = get_or-set_other index k j place 0 n'

        steps_of : (j : ℕ) → j < k + 1 → Dec (j ≡ k) → get_or (p.before ++ (place_at s place ∷ [])) j [] ≡ place_at s (get_or (set index k place) j 0)
        steps_of j low (yes z) =
            let at-end : j ≡ length p.before + 0 = omega (arith, p.indexed.size) in
            ap (λ (x : ℕ). get_or (p.before ++ (place_at s place ∷ [])) x []) at-end ∙ get_or-append-add p.before (place_at s place ∷ []) 0 []
            ∙ ap (λ (x : ℕ). place_at s x) (sym here ∙ ap (λ (x : ℕ). get_or (set index k place) x 0) (sym z))
        steps_of j low (no z) =
            let below : j < k = omega arith in
            get_or-append p.before (place_at s place ∷ []) [] j (omega (arith, p.indexed.size)) ∙ p.indexed.steps j below
            ∙ ap (λ (x : ℕ). place_at s x) (sym (other j z))

        inside_of : (j : ℕ) → j < k + 1 → Dec (j ≡ k)
            → get_or (set index k place) j 0 + 12 + 44 * count_at s (get_or (set index k place) j 0) ≤ 8 * length s
        inside_of j low (yes z) =
            let same : get_or (set index k place) j 0 ≡ place = ap (λ (x : ℕ). get_or (set index k place) x 0) z ∙ here in
            rw same (place-inv s place q (place_at s place) after e).inside
        inside_of j low (no z) = rw (other j z) (p.indexed.inside j (omega arith))

    pub partly-nothing : k < n → Nothing (one_place q (file_of s) place) → Nothing (places n q (file_of s) 15)
    partly-nothing h e =
        let left : n - k ≡ suc (n - (k + 1)) = omega arith in
        rw p.rest
        (prepend-nothing p.before (places (n - k) q (file_of s) place) (places-nothing q (file_of s) (n - k) (n - (k + 1)) place left e))

    pub partly-all : k ≡ n → places n q (file_of s) 15 ≡ found p.before place
    unfolding places
    partly-all e =
        let none : n - k ≡ 0 = omega arith in
        p.rest ∙ rw none (ap (λ l. found l place) (nil p.before))

-- ---- the whole file

judged-nothing : (s : List ℕ) (n : ℕ) (w : Window) (x : Found (List (List Step))) → Nothing x → Judged s n w x None
judged-nothing s n w (refused why) h = tt
judged-nothing s n w (found a at) h = absurd h

module _ (s : List ℕ) (w : Window) (n : ℕ) where
  module _ (t : top n (file_of s) 0 ≡ found tt 15) where
    pub judged-places : Nothing (places n (of_window w) (file_of s) 15) → Judged s n w (sheet_of n (of_window w) s) None
    judged-places h =
        judged-nothing s n w (sheet_of n (of_window w) s)
        (subst (λ x. Nothing (next x (λ _ at. body n (of_window w) (file_of s) at))) (sym t) (nothing-next (places n (of_window w) (file_of s) 15) _ h))

    module _ (sheet : List (List Step)) (end : ℕ) (p : places n (of_window w) (file_of s) 15 ≡ found sheet end) where
      pub judged-tail : (file_of s).ends end ≡ false → Judged s n w (sheet_of n (of_window w) s) None
      judged-tail e = judged-nothing s n w (sheet_of n (of_window w) s) (simp (t, p, e) tt)

      -- the sheet that the file stands for
      pub sheet-is : (file_of s).ends end ≡ true → sheet_of n (of_window w) s ≡ found sheet end
      sheet-is e = simp (t, p, e)

-- ---- what is found, for whoever reads on

-- of the query only the window counts
module _ (q : Query) (src : Source) where
  places-window : (n at : ℕ) → places n q src at ≡ places n (window q.earliest q.latest) src at
  unfolding places
  places-window zero at = refl
  places-window (suc n) at = λ i. next (one_place q src at) (λ xs at₁. next (places-window n at₁ i) (λ rest at₂. found (xs ∷ rest) at₂))

pub sheet-window : (n : ℕ) (q : Query) (s : List ℕ) → sheet_of n q s ≡ sheet_of n (window q.earliest q.latest) s
sheet-window n q s =
    λ i.
    next (top n (file_of s) 0)
    (λ _ at.
    next (places-window q (file_of s) n at i)
    (λ all at₁. next (pick ((file_of s).ends at₁) (found (tt {0}) at₁) (refused Tail)) (λ _ at₂. found all at₂)))

steps-cons : (q : Query) (n : ℕ) (xs : List Step) (rest : List (List Step)) → Steps q xs → ((p : ℕ) → p < n → Steps q (get_or rest p []))
    → (p : ℕ) → p < suc n → Steps q (get_or (xs ∷ rest) p [])
steps-cons q n xs rest st r zero h = st
steps-cons q n xs rest st r (suc p) h = r p (omega arith)

places-steps : (s : List ℕ) (q : Query) (n at : ℕ) (sheet : List (List Step)) (end : ℕ) → places n q (file_of s) at ≡ found sheet end
    → (p : ℕ) → p < n → Steps q (get_or sheet p [])
unfolding places
places-steps s q zero at sheet end e p h = absurd (omega arith)
places-steps s q (suc n) at sheet end e p h =
    let one = inner-step sheet end (one_place q (file_of s) at) _ e in
    let more = inner-step sheet end (places n q (file_of s) one.1) _ one.3 in
    let all : one.0 ∷ more.0 ≡ sheet = cc more.3 in
    subst (λ (l : List (List Step)). Steps q (get_or l p [])) all
    (steps-cons q n one.0 more.0 (place-inv s at q one.0 one.1 one.2).steps
    (places-steps s q n one.1 more.0 more.1 more.2) p h)

-- EACH PLACE OF A FOUND SHEET HAS STEPS AS DESCRIBED
pub sheet-steps : (n : ℕ) (q : Query) (s : List ℕ) (sheet : List (List Step)) (end : ℕ) → sheet_of n q s ≡ found sheet end
    → (p : ℕ) → p < n → Steps q (get_or sheet p [])
sheet-steps n q s sheet end e =
    let t = inner-step sheet end (top n (file_of s) 0) (λ _ at. body n q (file_of s) at) e in
    let l = inner-step sheet end (places n q (file_of s) t.1) _ t.3 in
    let c = check-step sheet end ((file_of s).ends l.1) Tail l.1 _ l.3 in
    let same : l.0 ≡ sheet = cc c.1 in
    subst (λ (x : List (List Step)). (p : ℕ) → p < n → Steps q (get_or x p [])) same (places-steps s q n t.1 l.0 l.1 l.2)

places-size : (s : List ℕ) (q : Query) (n at : ℕ) (sheet : List (List Step)) (end : ℕ) → places n q (file_of s) at ≡ found sheet end
    → length sheet ≡ n
unfolding places
places-size s q zero at sheet end e = let none : [] ≡ sheet = cc in omega (arith, ap length none)
places-size s q (suc n) at sheet end e =
    let one = inner-step sheet end (one_place q (file_of s) at) _ e in
    let more = inner-step sheet end (places n q (file_of s) one.1) _ one.3 in
    let all : one.0 ∷ more.0 ≡ sheet = cc more.3 in
    omega (arith, ap length all, places-size s q n one.1 more.0 more.1 more.2)

-- and it has as many places as the network
pub sheet-size : (n : ℕ) (q : Query) (s : List ℕ) (sheet : List (List Step)) (end : ℕ) → sheet_of n q s ≡ found sheet end → length sheet ≡ n
sheet-size n q s sheet end e =
    let t = inner-step sheet end (top n (file_of s) 0) (λ _ at. body n q (file_of s) at) e in
    let l = inner-step sheet end (places n q (file_of s) t.1) _ t.3 in
    let c = check-step sheet end ((file_of s).ends l.1) Tail l.1 _ l.3 in
    let same : l.0 ≡ sheet = cc c.1 in
    omega (arith, ap length same, places-size s q n t.1 l.0 l.1 l.2)

-- EACH PLACE OF IT STANDS IN THE FILE, with steps as described
pub placed : (n : ℕ) (q : Query) (s : List ℕ) (sheet : List (List Step)) (end : ℕ) (index : List ℕ) → n ≤ 64 → sheet_of n q s ≡ found sheet end
    → Indexed s n index sheet → Placed s n q index
placed n q s sheet end index few is i = record {
  few = few;
  each = λ p low. record { inside = i.inside p low; steps = subst (λ (xs : List Step). Steps q xs) (i.steps p low) (sheet-steps n q s sheet end is p low) };
}
