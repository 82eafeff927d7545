-- How far a reading goes: at most its fields' widths, from any source whose fields do so.
use Prim.Native.Nat.{ℕ, zero, suc, ◌+◌, ◌*◌, ◌≤◌}
use mathlib.Core.Path.{◌≡◌, ap, ◌∙◌}
use mathlib.Core.List.{List}
use native.Mathlib.Omega.{arith}
use borrow.Author.Tests.{leb-true}
use lib.ListN.{length}
use Rattle.bits.specs.Field.{field}
use Rattle.leg.specs.declared.Band.{Band}
use Rattle.leg.specs.declared.Leg.{Leg}
use Rattle.source.specs.Source.{Source, file_of, list_of}
use Rattle.network.specs.declared.Head.{Head}
use Rattle.network.specs.declared.Top.{Top}
use Rattle.network.specs.Reading.{found}
use Rattle.network.specs.Network.{edition1, band, bands, bare, with_band, head, leg, top}
use Rattle.network.proofs.Inversion.{inner-step, band-inv, head-inv, head-count, top-inv}

-- the place after a field is at most its width further on
abbrev pub Near : Source → Type 0
Near src = (w at : ℕ) → 1 ≤ w → src.after w at ≤ at + w

module _ (src : Source) (near : Near src) where
  pub band-near : (least at : ℕ) (b : Band) (end : ℕ) → band least src at ≡ found b end → end ≤ at + 28
  band-near least at b end e =
      let r = band-inv src at least b end e in
      omega (arith, near 12 at (omega arith), near 16 (src.after 12 at) (omega arith), r.end_is)

  pub head_near : (places at : ℕ) (h : Head) (end : ℕ) → head edition1 places src at ≡ found h end → (end ≤ at + 28) × (h.count ≤ 8)
  head_near places at h end e =
      let r = head-inv src at edition1 places h end e in
      let n₁ = near 6 at (omega arith) in
      let n₂ = near 6 (src.after 6 at) (omega arith) in
      let n₃ = near 12 (src.after 6 (src.after 6 at)) (omega arith) in
      let n₄ = near 4 (src.after 12 (src.after 6 (src.after 6 at))) (omega arith) in
      (omega (arith, n₁, n₂, n₃, n₄, r.end_is), (head-count src at edition1 places h end r).1)

  pub bands-near : (n least : ℕ) (l : Leg) (at : ℕ) (l' : Leg) (end : ℕ) → bands n least l src at ≡ found l' end
      → (end ≤ at + 28 * n) × (l'.count ≡ l.count + n)
  unfolding bands
  bands-near zero least l at l' end e =
      let p : l ≡ l' = cc in
      let q : at ≡ end = cc in
      (omega arith, omega (arith, ap (λ (x : Leg). x.count) p))
  bands-near (suc n) least l at l' end e =
      let s = inner-step l' end (band least src at) (λ b at₁. bands n (b.start.0 + 1) (with_band l b) src at₁) e in
      let r = bands-near n (s.0.start.0 + 1) (with_band l s.0) s.1 l' end s.3 in
      let h = band-near least at s.0 s.1 s.2 in
      (omega (arith, r.0, h), omega (arith, r.1))

  pub leg-near : (places at : ℕ) (l : Leg) (end : ℕ) → leg edition1 places src at ≡ found l end → (end ≤ at + 252) × (l.count ≤ 8)
  leg-near places at l end e =
      let s = inner-step l end (head edition1 places src at) (λ h at₁. bands h.count 0 (bare edition1 h) src at₁) e in
      let h = head_near places at s.0 s.1 s.2 in
      let b = bands-near s.0.count 0 (bare edition1 s.0) s.1 l end s.3 in
      (omega (arith, h.0, h.1, b.0), omega (arith, h.1, b.1))

  pub top-near : (t : Top) (end : ℕ) → top src 0 ≡ found t end → (end ≤ 25) × (t.legs ≤ 512)
  top-near t end e =
      let r = top-inv src 0 t end e in
      let n₁ = near 8 0 (omega arith) in
      let n₂ = near 7 (src.after 8 0) (omega arith) in
      let n₃ = near 10 (src.after 7 (src.after 8 0)) (omega arith) in
      (omega (arith, n₁, n₂, n₃, r.end_is), r.legs_within)

-- in a file a leg's count stands at its bit 24, and the leg ends just behind its bands
module _ (s : List ℕ) where
  bands-end : (n least : ℕ) (l : Leg) (at : ℕ) (l' : Leg) (end : ℕ) → bands n least l (file_of s) at ≡ found l' end → end ≡ at + 28 * n
  unfolding bands
  bands-end zero least l at l' end e =
      let q : at ≡ end = cc in
      omega arith
  bands-end (suc n) least l at l' end e =
      let t = inner-step l' end (band least (file_of s) at) (λ b at₁. bands n (b.start.0 + 1) (with_band l b) (file_of s) at₁) e in
      let b = band-inv (file_of s) at least t.0 t.1 t.2 in
      omega (arith, bands-end n (t.0.start.0 + 1) (with_band l t.0) t.1 l' end t.3, b.end_is)

  pub record LegEnds (at end : ℕ) : Type 0 where
    pub there : at + 28 ≤ 8 * length s
    pub end_is : end ≡ at + 28 + 28 * field s (at + 24) 4

  pub leg-ends : (places at : ℕ) (l : Leg) (end : ℕ) → leg edition1 places (file_of s) at ≡ found l end → LegEnds at end
  leg-ends places at l end e =
      let t = inner-step l end (head edition1 places (file_of s) at) (λ h at₁. bands h.count 0 (bare edition1 h) (file_of s) at₁) e in
      let h = head-inv (file_of s) at edition1 places t.0 t.1 t.2 in
      let count : t.0.count ≡ field s (at + 24) 4 = ap (λ (x : Head). x.count) h.head_is ∙ ap (λ p. field s p 4) (behind at) in
      record {
        there = omega (arith, leb-true (at + 6 + 6 + 12 + 4) (8 * length s) h.count_there);
        end_is = omega (arith, bands-end t.0.count 0 (bare edition1 t.0) t.1 l end t.3, h.end_is, count);
      }
    where
      behind : (n : ℕ) → n + 6 + 6 + 12 ≡ n + 24
      behind n = omega arith

-- a file's fields do
pub file_near : (s : List ℕ) → Near (file_of s)
file_near s w at h = omega arith

-- a list's do: one number each
pub list_near : (l : List ℕ) → Near (list_of l)
list_near l w at h = omega arith
