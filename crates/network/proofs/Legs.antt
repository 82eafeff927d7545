-- The bands of a leg and the legs of a network, one further: what the loops go by.
use Prim.Native.Nat.{ℕ, suc, ◌+◌, ◌-◌, ◌≤◌, ◌<◌}
use mathlib.Core.Path.{◌≡◌, refl, sym, ◌∙◌, ap}
use mathlib.Core.Bool.{true, false}
use mathlib.Core.List.{List, [], ◌∷◌, ◌++◌}
use native.Mathlib.Omega.{arith}
use native.Mathlib.Nat.{add_comm, add_assoc, sub-zero}
use lib.ListN.{length, length-append}
use Rattle.answer.specs.declared.Refusal.{Refusal}
use Rattle.answer.specs.declared.Refusal.TheVariants.{Tail}
use Rattle.leg.specs.declared.Band.{Band}
use Rattle.leg.specs.declared.Leg.{Leg}
use Rattle.source.specs.Source.{Source}
use Rattle.network.specs.declared.Head.{Head}
use Rattle.network.specs.declared.Top.{Top}
use Rattle.network.specs.Reading.{Found, refused, found}
use Rattle.network.specs.Network.{Form, band, bands, bare, with_band, head, leg, legs, top, body, network}
use Rattle.std.specs.Prelude.{Ok, Err}
use Rattle.network.specs.Answers.{given, bands_of}

-- a leg with the first k of its bands
abbrev pub part_leg : Head → List Band → ℕ → Leg
part_leg h bs k = record { from = h.from; to = h.to; time = h.time; bands = bs; count = k }

module _ (src : Source) (n m least at : ℕ) (l : Leg) (e : n ≡ suc m) where
  pub bands-more : (b : Band) (after : ℕ) → band least src at ≡ found b after → bands n least l src at ≡ bands m (b.start.0 + 1) (with_band l b) src after
  unfolding bands
  bands-more b after q = rw e (rw q)

  pub bands-refused : (why : Refusal) → band least src at ≡ refused why → bands n least l src at ≡ refused why
  unfolding bands
  bands-refused why q = rw e (rw q)

pub bands-done : (src : Source) (n least at : ℕ) (l : Leg) → n ≡ 0 → bands n least l src at ≡ found l at
unfolding bands
bands-done src n least at l e = rw e

-- what the functions' answers tell of the readings
pub given_ok : {A : Type 0} (x : Found A) (a : A) (at : ℕ) → given x ≡ Ok (a, at) → x ≡ found a at
given_ok (refused why) a at e = cc
given_ok {A} (found b n) a at e =
    let same : ◌≡◌ {A = A × ℕ} (b, n) (a, at) = cc in
    cc (ap (λ (p : A × ℕ). p.0) same, ap (λ (p : A × ℕ). p.1) same)

pub given_err : {A : Type 0} (x : Found A) (why : Refusal) → given x ≡ Err why → x ≡ refused why
given_err (refused w) why e = cc
given_err (found b n) why e = cc

module _ (form : Form) (places : ℕ) (src : Source) (at : ℕ) where
  pub leg-refused : (why : Refusal) → head form places src at ≡ refused why → leg form places src at ≡ refused why
  leg-refused why e = rw e

  pub leg-headed : (h : Head) (after : ℕ) → head form places src at ≡ found h after → leg form places src at ≡ bands h.count 0 (bare form h) src after
  leg-headed h after e = rw e

module _ (form : Form) (places : ℕ) (src : Source) (n m at : ℕ) (before : List Leg) (e : n ≡ suc m) where
  pub legs-more : (l : Leg) (after : ℕ) → leg form places src at ≡ found l after
      → legs form places n before src at ≡ legs form places m (before ++ (l ∷ [])) src after
  unfolding legs
  legs-more l after q = rw e (rw q)

  pub legs-refused : (why : Refusal) → leg form places src at ≡ refused why → legs form places n before src at ≡ refused why
  unfolding legs
  legs-refused why q = rw e (rw q)

pub legs-done : (form : Form) (places : ℕ) (src : Source) (n at : ℕ) (before : List Leg) → n ≡ 0 → legs form places n before src at ≡ found before at
unfolding legs
legs-done form places src n at before e = rw e

module _ (form : Form) (t : Top) (src : Source) (at : ℕ) where
  pub body_refused : (why : Refusal) → legs form t.places t.legs [] src at ≡ refused why → body form t src at ≡ refused why
  body_refused why e = rw e

  pub body_open : (all : List Leg) (after : ℕ) → legs form t.places t.legs [] src at ≡ found all after → src.ends after ≡ false
      → body form t src at ≡ refused Tail
  body_open all after e f = simp (e, f)

  pub body-sound : (all : List Leg) (after : ℕ) → legs form t.places t.legs [] src at ≡ found all after → src.ends after ≡ true
      → body form t src at ≡ found (record { places = t.places; legs = all }) after
  body-sound all after e f = simp (e, f)

-- one leg more
pub bands-of-more : (before : List Leg) (l : Leg) → bands_of (before ++ (l ∷ [])) ≡ bands_of before + l.count
bands-of-more [] l = add_comm l.count 0
bands-of-more (b ∷ bs) l = ap (λ (n : ℕ). b.count + n) (bands-of-more bs l) ∙ sym (add_assoc b.count (bands_of bs) l.count)

module _ (form : Form) (src : Source) (at : ℕ) where
  pub network-refused : (why : Refusal) → top src at ≡ refused why → network form src at ≡ refused why
  network-refused why e = rw e

  pub network-topped : (t : Top) (after : ℕ) → top src at ≡ found t after → network form src at ≡ body form t src after
  network-topped t after e = rw e

-- so many legs are read: they have so many bands, and the rest is read from `place` on
pub record Passed (form : Form) (places n k : ℕ) (src : Source) (at place total : ℕ) : Type 0 where
  pub before : List Leg
  pub size : length before ≡ k
  pub sum : bands_of before ≡ total
  pub rest : legs form places n [] src at ≡ legs form places (n - k) before src place

module _ (form : Form) (places n : ℕ) (src : Source) (at : ℕ) where
  abbrev pub passed_none : Passed form places n 0 src at at 0
  passed_none = record { before = []; size = refl; sum = refl; rest = rw sub-zero }

  abbrev pub passed_more : (k place total : ℕ) (l : Leg) (after : ℕ) → Passed form places n k src at place total → k < n → leg form places src place ≡ found l after
      → Passed form places n (k + 1) src at after (total + l.count)
  passed_more k place total l after p h e =
      let b = p.before in
      let left : n - k ≡ suc (n - (k + 1)) = omega arith in
      record {
        before = b ++ (l ∷ []);
        size = length-append b (l ∷ []) ∙ ap (λ (m : ℕ). m + 1) p.size;
        sum = bands-of-more b l ∙ ap (λ (m : ℕ). m + l.count) p.sum;
        rest = p.rest ∙ legs-more form places src (n - k) (n - (k + 1)) place b left l after e;
      }

  pub passed-refused : (k place total : ℕ) (why : Refusal) → Passed form places n k src at place total → k < n → leg form places src place ≡ refused why
      → legs form places n [] src at ≡ refused why
  passed-refused k place total why p h e =
      let left : n - k ≡ suc (n - (k + 1)) = omega arith in
      p.rest ∙ legs-refused form places src (n - k) (n - (k + 1)) place p.before left why e

  pub passed-all : (k place total : ℕ) (p : Passed form places n k src at place total) → n ≤ k → legs form places n [] src at ≡ found p.before place
  passed-all k place total p h =
      let none : n - k ≡ 0 = omega arith in
      p.rest ∙ legs-done form places src (n - k) place p.before none
