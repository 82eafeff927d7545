-- `rule_cards::leg_cards::LegCards::bands_obey`: the rule holds where the slots that were passed begin, and no later one arrives in time.
use Prim.Native.Nat.{◌+◌, ◌≤◌, ◌<◌}
use native.Mathlib.Omega.{arith}
use mathlib.Core.Path.{sym, subst}
use lib.ListN.{take, get_or}
use Rattle.std.specs.Prelude.{Some}
use Rattle.std.proofs.lemmas.List.{length-take}
use Rattle.card.specs.declared.Slot.{Slot}
use Rattle.card.specs.Card.{no_slot}
use Rattle.card.specs.One.{ShownOn, begins}
use Rattle.rule_b.proofs.Turn.{is_false}
use Rattle.rule_cards.specs.Cards.{RuleIf}
use Rattle.rule_cards.proofs.Own.{begins-at, slot-passed, shows-own, rule-begun}
use Rattle.rule_cards.proofs.leg_cards.LegCards.bands_obey.Goals as goal

pub returns : goal.returns
returns c i j leg b =
    let a = c.args.self in
    rule-begun a.latest.0 leg i j a.time.0 c.args.last.0 b.time_is c.requires a.bands 8 c.begun-bands.result a.fit.bands_ready.size_is c.begun-bands.ensures
    (λ k h. c.loop-slot.invariant i j leg b k (omega (arith, h, length-take c.begun-bands.result a.bands.slots.now, c.begun-bands.ensures.few)))

pub obeys_at-requires : goal.obeys_at-requires
obeys_at-requires c =
    let a = c.args.self in
    let k = c.loop-slot.slot-index in
    let begun = c.begun-bands.ensures in
    let low : k < c.begun-bands.result = omega (arith, c.loop-slot-test.true, length-take c.begun-bands.result a.bands.slots.now) in
    let soon : begins a.bands k + a.time.0 ≤ a.latest.0 = omega (arith, begun.before k low, begins-at a.bands k, c.requires) in
    let own = shows-own a.bands 8 a.fit.bands_ready k (omega (arith, begun.few, a.fit.bands_ready.size_is, low)) (omega (arith, soon, a.fit.latest_within)) in
    let here = sym (slot-passed a.bands c.begun-bands.result k c.loop-slot-test.true) in
    (subst (λ (x : Slot). x.minute.0 + a.time.0 ≤ a.latest.0) here soon, c.look-here.ensures, subst (λ (x : Slot). ShownOn a.bands x.minute.0 (Some x.price)) here own)

pub returns-then-not-obeys_at : goal.returns-then-not-obeys_at
returns-then-not-obeys_at c i j leg b =
    let a = c.args.self in
    let k = c.loop-slot.slot-index in
    let n = c.begun-bands.result in
    let test = c.obeys_at in
    let low : k < 8 = omega (arith, c.loop-slot-test.true, length-take n a.bands.slots.now, c.begun-bands.ensures.few, a.fit.bands_ready.size_is) in
    let bad = is_false test.result (RuleIf a.latest.0 leg i j (get_or (take n a.bands.slots.now) k no_slot).minute.0) c.if-not-obeys_at.true (test.ensures i j leg b) in
    λ all. bad (subst (λ (x : Slot). RuleIf a.latest.0 leg i j x.minute.0) (sym (slot-passed a.bands n k c.loop-slot-test.true)) (all k low))
