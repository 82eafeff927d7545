-- `rule_cards::cards_obey`: the leg's bands are put on a card, and then all is tested.
use Prim.Native.Nat.{◌+◌}
use native.Mathlib.Omega.{arith}
use mathlib.Core.Path.{ap}
use lib.ListN.{length}
use Rattle.leg.specs.declared.Minute.{Minute}
use Rattle.network.specs.InFile.{leg_at}
use Rattle.card.specs.Card.{Carded}
use Rattle.rule_cards.proofs.Legs.{new-card, bands-ready, leg-tested}
use Rattle.rule_cards.proofs.cards_obey.Goals.{After-card}
use Rattle.rule_cards.proofs.cards_obey.Goals as goal

-- the leg's bands are on the card
this-card : (c : After-card) → let leg = c.args.leg in
    Carded leg.net.now (leg.at + 28) 16 (leg_at leg.net.now leg.at).count (length c.card.result.slots.now) c.card.result.slots.now 0
this-card c =
    let leg = c.args.leg in
    let fill = c.fill.ensures in
    let (same, size) = c.card.ensures in
    new-card leg.net.now (leg.at + 28) c.count.result _ _ _ c.card.result c.count.ensures leg.there.few c.blank-bands.ensures fill.0 fill.1 same size

pub invariant_of-cards : goal.invariant_of-cards
invariant_of-cards c =
    let leg = c.args.leg in
    let h = c.requires in
    record {
      fit = record {
        from_ready = h.1;
        to_ready = h.2;
        bands_ready = bands-ready leg.net.now leg.at h.0.order _ (this-card (goal.at.invariant_of-cards c).After-card) c.card.ensures.1;
        time_within = omega (arith, h.0.order.time_within, ap (λ (m : Minute). m.0) c.time-time.ensures);
        latest_within = h.0.end;
      };
    }

pub returns : goal.returns
returns c i j h =
    let leg = c.args.leg in
    leg-tested leg.net.now leg.at c.requires.0.order _ 16 8 i j h leg.there.few (ap (λ (m : Minute). m.0) c.time-time.ensures)
    (this-card (goal.at.returns c).After-card) c.obey.result c.obey.ensures
