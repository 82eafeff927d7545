-- Charting the legs of a sound file, leg by leg, and what a chart tells.
use Prim.Native.Nat.{ℕ, zero, suc, ◌+◌, ◌≤◌, ◌<◌}
use mathlib.Core.Path.{◌≡◌, refl, ◌∙◌, ap, subst, subst⁻¹}
use mathlib.Core.List.{List, [], ◌∷◌, ◌++◌}
use native.Mathlib.Decide.{dec_lt, ℕ_discrete}
use native.Mathlib.Omega.{arith}
use lib.ListN.{length, set, get_or, length-set, replicate, length-replicate, get_or-append}
use lib.Seq.{get_or-set_same, get_or-set_other, get_or-append_seam}
use Rattle.leg.specs.declared.Leg.{Leg}
use Rattle.plan.specs.Legs.{no_leg}
use Rattle.source.specs.Source.{file_of}
use Rattle.network.specs.Reading.{found}
use Rattle.network.specs.Network.{Network, edition1, leg, legs}
use Rattle.network.specs.Answers.{leg_or_none}
use Rattle.network.proofs.Legs.{Passed, passed_none, passed_more, passed-all}
use Rattle.chart.specs.Chart.{Charted}

-- the leg that the chart gives is the network's
pub charted-leg : (s : List ℕ) (net : Network) (chart : List ℕ) → Charted s net chart → (k : ℕ) → k < length net.legs
    → leg_or_none (leg edition1 net.places (file_of s) (get_or chart k 0)) ≡ get_or net.legs k no_leg
charted-leg s net chart c k h = rw (c.stands k h).1

zeros : (n j : ℕ) → get_or {A = ℕ} (replicate n 0) j 0 ≡ 0
zeros zero j = refl
zeros (suc n) zero = refl
zeros (suc n) (suc j) = zeros n j

-- so many legs are charted
pub record Charting (s : List ℕ) (places n k place : ℕ) (chart : List ℕ) : Type 0 where
  pub size : length chart ≡ 512
  pub total : ℕ
  pub passed : Passed edition1 places n k (file_of s) 25 place total
  pub stands : (j : ℕ) → j < k → (end : ℕ) × (leg edition1 places (file_of s) (get_or chart j 0) ≡ found (get_or passed.before j no_leg) end)
  pub near : (j : ℕ) → get_or chart j 0 ≤ 200000

module _ (s : List ℕ) (places n : ℕ) where
  pub charting-none : Charting s places n 0 25 (replicate 512 0)
  charting-none = record {
    size = length-replicate {A = ℕ} 512 0;
    total = 0;
    passed = passed_none edition1 places n (file_of s) 25;
    stands = λ j h. absurd (omega arith);
    near = λ j. omega (arith, zeros 512 j);
  }

  pub charting-more : (k place : ℕ) (chart : List ℕ) (l : Leg) (after : ℕ) → Charting s places n k place chart → k < n → k < 512 → place ≤ 200000
      → leg edition1 places (file_of s) place ≡ found l after → Charting s places n (k + 1) after (set chart k place)
  charting-more k place chart l after p h room small e = record {
    size = length-set chart k place ∙ p.size;
    total = p.total + l.count;
    passed = passed_more edition1 places n (file_of s) 25 k place p.total l after p.passed h e;
    stands = λ j lt. stand j (dec_lt j k) lt;
    near = λ j. close j (ℕ_discrete j k);
  }
    where
      b : List Leg
      b = p.passed.before

      stand : (j : ℕ) → Dec (j < k) → j < k + 1
          → (end : ℕ) × (leg edition1 places (file_of s) (get_or (set chart k place) j 0) ≡ found (get_or (b ++ (l ∷ [])) j no_leg) end)
      stand j (yes q) lt =
          let old = p.stands j q in
          let same : get_or (set chart k place) j 0 ≡ get_or chart j 0 = get_or-set_other chart k j place 0 (λ x. omega arith) in
          let first : get_or (b ++ (l ∷ [])) j no_leg ≡ get_or b j no_leg = get_or-append b (l ∷ []) no_leg j (omega (arith, p.passed.size)) in
          (old.0, rw (same, first) old.1)
      stand j (no q) lt =
          let last : j ≡ length b = omega (arith, p.passed.size) in
          let here : j ≡ k = omega arith in
          let place_is : get_or (set chart k place) j 0 ≡ place = rw here (get_or-set_same chart k place 0 (omega (arith, p.size))) in
          let leg-is : get_or (b ++ (l ∷ [])) j no_leg ≡ l = rw last (get_or-append_seam b l [] no_leg) in
          (after, rw (place_is, leg-is) e)

      close : (j : ℕ) → Dec (j ≡ k) → get_or (set chart k place) j 0 ≤ 200000
      close j (yes q) = rw (q, get_or-set_same chart k place 0 (omega (arith, p.size))) small
      close j (no q) = rw (get_or-set_other chart k j place 0 q) (p.near j)

  -- the next place under another name
  pub charting-at : {k : ℕ} {chart : List ℕ} (place end : ℕ) → place ≡ end → Charting s places n k end chart → Charting s places n k place chart
  charting-at {k} {chart} place end e = subst⁻¹ (λ p. Charting s places n k p chart) e

  -- all legs are charted
  pub charting-all : (k place : ℕ) (chart : List ℕ) → Charting s places n k place chart → n ≤ k
      → (all : List Leg) (end : ℕ) → legs edition1 places n [] (file_of s) 25 ≡ found all end
      → (j : ℕ) → j < length all → (end : ℕ) × (leg edition1 places (file_of s) (get_or chart j 0) ≡ found (get_or all j no_leg) end)
  charting-all k place chart p h all end sound j lt =
      let e = passed-all edition1 places n (file_of s) 25 k place p.total p.passed h in
      let same : p.passed.before ≡ all = cc in
      subst (λ (x : List Leg). (end : ℕ) × (leg edition1 places (file_of s) (get_or chart j 0) ≡ found (get_or x j no_leg) end)) same
      (p.stands j (omega (arith, p.passed.size, ap length same)))
