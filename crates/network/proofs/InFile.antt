-- A leg where it stands in the file: its bands, and that it is the leg which was found there. Assumes nothing.
use Prim.Native.Nat.{ℕ, zero, suc, ◌+◌, ◌*◌, ◌≤◌, ◌<◌}
use native.Mathlib.Omega.{arith}
use native.Mathlib.Decide.{ℕ_discrete}
use mathlib.Core.Path.{◌≡◌, refl, sym, ◌∙◌, ap}
use mathlib.Core.List.{List}
use borrow.Author.Tests.{leb-true}
use lib.ListN.{length, get_or}
use Rattle.bits.specs.Field.{field}
use Rattle.leg.specs.declared.Band.{Band}
use Rattle.leg.specs.declared.Leg.{Leg}
use Rattle.leg.specs.Ranges.{no_band}
use Rattle.source.specs.Source.{file_of}
use Rattle.network.specs.Reading.{found}
use Rattle.network.specs.Network.{edition1, leg}
use Rattle.network.specs.Fields.{band_fields, bands_fields, leg_fields}
use Rattle.network.specs.InFile.{band_at, bands_at, leg_at, Same}
use Rattle.network.proofs.Carries.{Carries, carries-split}
use Rattle.network.proofs.Traces.{leg-trace}

-- band k of so many
pub band-there : (s : List ℕ) (at n k : ℕ) → k < n → get_or (bands_at s at n) k no_band ≡ band_at s (at + 28 * k)
unfolding bands_at
band-there s at zero k h = absurd (omega arith)
band-there s at (suc n) zero h = let e : at + 28 * 0 ≡ at = omega arith in rw e
band-there s at (suc n) (suc k) h =
    let e : at + 28 + 28 * k ≡ at + 28 * suc k = omega arith in
    band-there s (at + 28) n k (omega arith) ∙ ap (band_at s) e

-- ---- what is read of a leg in place is the leg that was found there

-- so many bands that a file carries
record Bands (s : List ℕ) (at n : ℕ) (bands : List Band) (end : ℕ) : Type 0 where
  end_is : end ≡ at + 28 * n
  each : (k : ℕ) → k < n → (band_at s (at + 28 * k) ≡ get_or bands k no_band) × (at + 28 * k + 28 ≤ 8 * length s)

carried-bands : (s : List ℕ) (at n : ℕ) (bands : List Band) (end : ℕ) → Carries (file_of s) at (bands_fields n bands) end → Bands s at n bands end
unfolding bands_fields
carried-bands s at zero bands end c = record { end_is = omega (arith, c); each = λ k h. absurd (omega arith) }
carried-bands s at (suc n) bands end c =
    let t = carries-split (file_of s) at (bands_fields n bands) (band_fields (get_or bands n no_band)) end c in
    let r = carried-bands s at n bands t.0 t.1 in
    let mid = r.end_is in
    let d = t.2 in
    let last : (band_at s (at + 28 * n) ≡ get_or bands n no_band) × (at + 28 * n + 28 ≤ 8 * length s) =
    (rw (← mid, d.1, d.2.1), omega (arith, leb-true (t.0 + 12 + 16) (8 * length s) d.2.0, mid)) in
    record { end_is = omega (arith, d.2.2, mid); each = λ k h. at-band k h (ℕ_discrete k n) r last }
  where
    at-band : (k : ℕ) → k < suc n → Dec (k ≡ n) → {e : ℕ} → Bands s at n bands e
        → (band_at s (at + 28 * n) ≡ get_or bands n no_band) × (at + 28 * n + 28 ≤ 8 * length s)
        → (band_at s (at + 28 * k) ≡ get_or bands k no_band) × (at + 28 * k + 28 ≤ 8 * length s)
    at-band k h (yes e) r last = rw e last
    at-band k h (no ne) r last = r.each k (omega arith)

pub leg-there : (s : List ℕ) (places at : ℕ) (l : Leg) (end : ℕ) → leg edition1 places (file_of s) at ≡ found l end → Same s at l
leg-there s places at l end e =
    let c = (leg-trace (file_of s) places at l end e).carried in
    let b = carried-bands s (at + 6 + 6 + 12 + 4) l.count l.bands end c.2.2.2.2 in
    let head : at + 28 ≤ 8 * length s = omega (arith, leb-true (at + 6 + 6 + 12 + 4) (8 * length s) c.2.2.2.0) in
    let e₁ : at + 6 + 6 ≡ at + 12 = omega arith in
    let e₂ : at + 6 + 6 + 12 ≡ at + 24 = omega arith in
    let e₃ : at + 6 + 6 + 12 + 4 ≡ at + 28 = omega arith in
    record {
      from_is = c.1;
      to_is = c.2.1;
      time_is = ap (λ p. field s p 12) (sym e₁) ∙ c.2.2.1;
      count_is = ap (λ p. field s p 4) (sym e₂) ∙ c.2.2.2.1;
      band_is = λ k h. ap (λ p. band_at s (p + 28 * k)) (sym e₃) ∙ (b.each k h).0;
      inside = within l.count refl b head;
    }
  where
    within : (n : ℕ) → l.count ≡ n → Bands s (at + 6 + 6 + 12 + 4) l.count l.bands end → at + 28 ≤ 8 * length s
        → at + 28 + 28 * l.count ≤ 8 * length s
    within zero e b h = omega arith
    within (suc n) e b h = omega (arith, (b.each n (omega arith)).1)

module _ (s : List ℕ) (at : ℕ) (l : Leg) (same : Same s at l) where
  pub bands-same : (k : ℕ) → k < l.count → get_or (leg_at s at).bands k no_band ≡ get_or l.bands k no_band
  bands-same k h = band-there s (at + 28) (field s (at + 24) 4) k (omega (arith, same.count_is)) ∙ same.band_is k h

-- bands that are the same one by one have the same fields
bands-fields-same : (n : ℕ) (a b : List Band) → ((k : ℕ) → k < n → get_or a k no_band ≡ get_or b k no_band) → bands_fields n a ≡ bands_fields n b
unfolding bands_fields
bands-fields-same zero a b h = refl
bands-fields-same (suc n) a b h = rw (h n (omega arith), bands-fields-same n a b (λ k l. h k (omega arith)))

-- and so has the leg that is read in place
pub leg-fields-same : (s : List ℕ) (at : ℕ) (l : Leg) → Same s at l → leg_fields edition1 (leg_at s at) ≡ leg_fields edition1 l
leg-fields-same s at l same =
    rw (← bands-fields-same l.count (bands_at s (at + 28) (field s (at + 24) 4)) l.bands (bands-same s at l same), same.from_is, same.to_is, same.time_is, same.count_is)
