-- A network that was found: its head, its legs and the end of its source, each by itself.
use Prim.Native.Nat.{ℕ, zero, suc, ◌+◌, ◌-◌, ◌≤◌, ◌<◌}
use mathlib.Core.Path.{◌≡◌, refl, sym, ◌∙◌, ap, subst}
use mathlib.Core.Bool.{true}
use mathlib.Core.List.{List, [], ◌∷◌, ◌++◌}
use native.Mathlib.Omega.{arith}
use lib.ListN.{length, length-append}
use Rattle.answer.specs.declared.Refusal.TheVariants.{Tail}
use Rattle.leg.specs.declared.Leg.{Leg}
use Rattle.source.specs.Source.{Source}
use Rattle.std.specs.Prelude.{Ok}
use Rattle.network.specs.declared.Size.{Size}
use Rattle.network.specs.declared.Top.{Top}
use Rattle.network.specs.Reading.{Found, refused, found}
use Rattle.network.specs.Network.{Form, Network, leg, legs, top, body, network}
use Rattle.network.specs.Answers.{bands_of, size_of, network_found}
use Rattle.network.proofs.Inversion.{inner-step, check-step, TopRead, top-inv}
use Rattle.network.proofs.Legs.{Passed, bands-of-more}

-- the head that a network has
abbrev pub top_of : Network → Top
top_of net = record { places = net.places; legs = length net.legs }

pub record Accepted (form : Form) (src : Source) (net : Network) (end : ℕ) : Type 0 where
  pub body_at : ℕ
  pub top_read : TopRead src 0 (top_of net) body_at
  pub legs_read : legs form net.places (length net.legs) [] src body_at ≡ found net.legs end
  pub ends : src.ends end ≡ true

module _ (form : Form) (places : ℕ) (src : Source) where
  -- the next of the legs that were found
  pub next-leg : (n : ℕ) (before : List Leg) (at : ℕ) (all : List Leg) (end : ℕ) → legs form places (suc n) before src at ≡ found all end
      → (l : Leg) × (after : ℕ) × (leg form places src at ≡ found l after) × (legs form places n (before ++ (l ∷ [])) src after ≡ found all end)
  unfolding legs
  next-leg n before at all end e =
      inner-step all end (leg form places src at) (λ l after. legs form places n (before ++ (l ∷ [])) src after) e

  -- the legs so far are the first of all
  pub legs-prefix : (n : ℕ) (before : List Leg) (at : ℕ) (all : List Leg) (end : ℕ) → legs form places n before src at ≡ found all end
      → (length all ≡ length before + n) × (bands_of before ≤ bands_of all)
  unfolding legs
  legs-prefix zero before at all end e =
      let same : before ≡ all = cc in
      (omega (arith, ap length same), omega (arith, ap bands_of same))
  legs-prefix (suc n) before at all end e =
      let s = next-leg n before at all end e in
      let r = legs-prefix n (before ++ (s.0 ∷ [])) s.1 all end s.3 in
      (omega (arith, r.0, length-append before (s.0 ∷ [])), omega (arith, r.1, bands-of-more before s.0))

  -- a leg that is still to come is there, and its bands count among all
  pub passed-leg : (n at : ℕ) (all : List Leg) (end : ℕ) → legs form places n [] src at ≡ found all end
      → (k place total : ℕ) → Passed form places n k src at place total → k < n
      → (l : Leg) × (after : ℕ) × (leg form places src place ≡ found l after) × (total + l.count ≤ bands_of all)
  passed-leg n at all end sound k place total p h =
      let b = p.before in
      let left : n - k ≡ suc (n - (k + 1)) = omega arith in
      let rest : legs form places (suc (n - (k + 1))) b src place ≡ found all end = rw (← left) (sym p.rest ∙ sound) in
      let s = next-leg (n - (k + 1)) b place all end rest in
      let t = legs-prefix (n - (k + 1)) (b ++ (s.0 ∷ [])) s.1 all end s.3 in
      (s.0, s.1, s.2, omega (arith, t.1, bands-of-more b s.0, p.sum))

pub accepted : (form : Form) (src : Source) (net : Network) (end : ℕ) → network form src 0 ≡ found net end → Accepted form src net end
accepted form src net end e =
    let t = inner-step net end (top src 0) (λ t at. body form t src at) e in
    let l = inner-step net end (legs form t.0.places t.0.legs [] src t.1) _ t.3 in
    let c = check-step net end (src.ends l.1) Tail l.1 _ l.3 in
    let is : net ≡ record { places = t.0.places; legs = l.0 } = cc c.1 in
    let at-end : end ≡ l.1 = cc c.1 in
    let size : length l.0 ≡ t.0.legs = omega (arith, (legs-prefix form t.0.places src t.0.legs [] t.1 l.0 l.1 l.2).0) in
    let found-net : Network = record { places = t.0.places; legs = l.0 } in
    let base : Accepted form src found-net l.1 =
    record {
      body_at = t.1;
      top_read = rw size (top-inv src 0 t.0 t.1 t.2);
      legs_read = rw size l.2;
      ends = c.0;
    } in
    subst (λ (n : Network). Accepted form src n end) (sym is) (subst (λ (m : ℕ). Accepted form src found-net m) (sym at-end) base)

-- what the judging function's answer tells
pub size-of-sound : (x : Found Network) (size : Size) → network_found x ≡ Ok size → (net : Network) × (end : ℕ) × (x ≡ found net end) × (size ≡ size_of net)
size-of-sound (refused why) size e = let z : ◌≡◌ {A = ℕ} 0 1 = cc in absurd (omega arith)
size-of-sound (found net end) size e = (net, end, refl, cc)
