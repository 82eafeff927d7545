-- `rule_cards::leg_cards::LegCards::obeys_at`: the values and the toll are what the cards show.
use Prim.Native.Nat.{◌+◌}
use native.Mathlib.Omega.{arith}
use mathlib.Core.Path.{◌≡◌, refl, sym, ◌∙◌, ap}
use Rattle.leg.specs.declared.Cents.{Cents}
use Rattle.leg.specs.Price.{price_of}
use Rattle.leg.specs.Toll.{toll_at}
use Rattle.plan.specs.Sheet.{value}
use Rattle.rule_cards.proofs.Departures.{covers-same, rule-tested}
use Rattle.rule_cards.proofs.leg_cards.LegCards.obeys_at.Goals as goal

pub returns : goal.returns
returns c i j leg b =
    let a = c.args.self in
    let d = c.args.departure.0 in
    let here = c.args.here in
    let there = c.look-there in
    let toll = c.unwrap_or-toll.result.0 in
    let (soon, here-is, tolled) = c.requires in
    let value-is = b.i_held d here (omega (arith, soon, a.fit.latest_within)) here-is in
    let arrives = b.j_held (d + a.time.0) there.result (omega (arith, soon, a.fit.latest_within)) there.ensures in
    let toll-is : toll_at leg d ≡ toll = b.leg_held d c.args.toll (omega (arith, soon, a.fit.latest_within)) tolled ∙ sym (ap (λ (x : Cents). x.0) c.unwrap_or-toll.ensures) in
    rule-tested leg i j d (d + a.time.0) a.time.0 (price_of here) toll b.time_is refl value-is toll-is a.latest.0 c.covered.result soon
    (covers-same c.covered.result (price_of here) (value j (d + a.time.0)) (price_of there.result) toll arrives c.covered.ensures)
