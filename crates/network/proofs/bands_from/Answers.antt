use Prim.Native.Nat.{ℕ, suc, ◌+◌, ◌-◌}
use native.Mathlib.Omega.{arith}
use mathlib.Core.Path.{◌≡◌, sym, ap, ◌∙◌}
use borrow.Author.Rules.{rules}
use Rattle.std.specs.Prelude.{Err}
use Rattle.leg.specs.declared.Leg.{Leg}
use Rattle.network.specs.Reading.{found}
use Rattle.network.specs.Network.{band}
use Rattle.network.specs.Answers.{given}
use Rattle.network.proofs.Legs.{part_leg, bands-more, bands-refused, bands-done, given_ok, given_err}
use Rattle.network.proofs.Near.{band-near}
use Rattle.network.proofs.bands_from.Goals as goal

pub returns-in_err-band : goal.returns-in_err-band
returns-in_err-band g c =
    let l = c.loop-k in
    let a = c.args in
    let src = g.S.Origin.source a.source.now in
    let why = c.in_err-band.field-0.0 in
    let left : a.head.count - l.k ≡ suc (a.head.count - (l.k + 1)) = omega arith in
    let bad = given_err (band l.least src l.place) why (sym c.band_from.ensures ∙ c.in_err-band.was) in
    let said : c.from_residual.result ≡ Err why = search rules in
    said ∙ sym (ap given (l.invariant.3 ∙ bands-refused src _ _ l.least l.place (part_leg a.head l.bands l.k) left why bad))

pub loop-k-preserved : goal.loop-k-preserved
loop-k-preserved g c =
    let l = c.loop-k in
    let a = c.args in
    let src = g.S.Origin.source a.source.now in
    let b = given_ok (band l.least src l.place) _ _ (sym c.band_from.ensures ∙ c.in_ok-band.was) in
    let near = band-near src (g.met.S.Origin.near a.source.now) l.least l.place _ _ b in
    let left : a.head.count - l.k ≡ suc (a.head.count - (l.k + 1)) = omega arith in (
      omega arith,
      omega arith,
      omega (arith, near),
      l.invariant.3 ∙ bands-more src _ _ l.least l.place (part_leg a.head l.bands l.k) left _ _ b,
    )

pub returns : goal.returns
returns g c =
    let l = c.loop-k in
    let a = c.args in
    let src = g.S.Origin.source a.source.now in
    let none : a.head.count - l.k ≡ 0 = omega arith in
    let all : l.k ≡ a.head.count = omega arith in
    ap (λ (x : Leg). given (found x l.place)) c.new-leg.ensures
    ∙ ap (λ (n : ℕ). given (found (part_leg a.head l.bands n) l.place)) (sym all)
    ∙ sym (ap given (l.invariant.3 ∙ bands-done src _ l.least l.place (part_leg a.head l.bands l.k) none))
