-- `rule_cards::leg_cards::LegCards::steps_obey`: the rule holds where the slots that were passed begin, and no later one arrives in time.
use Prim.Native.Nat.{◌+◌, ◌≤◌, ◌<◌}
use native.Mathlib.Omega.{arith}
use mathlib.Core.Path.{sym, subst}
use lib.ListN.{take, get_or}
use Rattle.std.specs.Prelude.{Some}
use Rattle.std.proofs.lemmas.List.{length-take}
use Rattle.card.specs.declared.Slot.{Slot}
use Rattle.card.specs.Card.{no_slot}
use Rattle.card.specs.One.{ShownOn, begins}
use Rattle.rule_b.proofs.Turn.{is_false}
use Rattle.rule_cards.specs.Cards.{RuleIf}
use Rattle.rule_cards.proofs.Own.{begins-at, slot-passed, shows-own, rule-begun}
use Rattle.rule_cards.proofs.leg_cards.LegCards.steps_obey.Goals as goal

pub returns : goal.returns
returns c i j leg b =
    let a = c.args.self in
    rule-begun a.latest.0 leg i j a.time.0 c.args.last.0 b.time_is c.requires a.from 16 c.begun-steps.result a.fit.from_ready.size_is c.begun-steps.ensures
    (λ k h. c.loop-slot.invariant i j leg b k (omega (arith, h, length-take c.begun-steps.result a.from.slots.now, c.begun-steps.ensures.few)))

pub obeys_at-requires : goal.obeys_at-requires
obeys_at-requires c =
    let a = c.args.self in
    let k = c.loop-slot.slot-index in
    let begun = c.begun-steps.ensures in
    let low : k < c.begun-steps.result = omega (arith, c.loop-slot-test.true, length-take c.begun-steps.result a.from.slots.now) in
    let soon : begins a.from k + a.time.0 ≤ a.latest.0 = omega (arith, begun.before k low, begins-at a.from k, c.requires) in
    let own = shows-own a.from 16 a.fit.from_ready k (omega (arith, begun.few, a.fit.from_ready.size_is, low)) (omega (arith, soon, a.fit.latest_within)) in
    let here = sym (slot-passed a.from c.begun-steps.result k c.loop-slot-test.true) in
    (subst (λ (x : Slot). x.minute.0 + a.time.0 ≤ a.latest.0) here soon, subst (λ (x : Slot). ShownOn a.from x.minute.0 (Some x.price)) here own, c.look-toll.ensures)

pub returns-then-not-obeys_at : goal.returns-then-not-obeys_at
returns-then-not-obeys_at c i j leg b =
    let a = c.args.self in
    let k = c.loop-slot.slot-index in
    let n = c.begun-steps.result in
    let test = c.obeys_at in
    let low : k < 16 = omega (arith, c.loop-slot-test.true, length-take n a.from.slots.now, c.begun-steps.ensures.few, a.fit.from_ready.size_is) in
    let bad = is_false test.result (RuleIf a.latest.0 leg i j (get_or (take n a.from.slots.now) k no_slot).minute.0) c.if-not-obeys_at.true (test.ensures i j leg b) in
    λ all. bad (subst (λ (x : Slot). RuleIf a.latest.0 leg i j x.minute.0) (sym (slot-passed a.from n k c.loop-slot-test.true)) (all k low))
