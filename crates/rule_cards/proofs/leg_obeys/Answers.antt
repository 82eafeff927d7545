-- `rule_cards::leg_obeys`: with few steps by cards, else by the walk.
use Prim.Native.Nat.{◌≤◌}
use native.Mathlib.Omega.{arith}
use Rattle.sheet_file.specs.InPlace.{count_at}
use Rattle.rule_b.specs.Cursor.{steps_of}
use Rattle.rule_cards.proofs.Legs.{place-ready, joined}
use Rattle.rule_cards.proofs.leg_obeys.Goals.{Else-max-gt-STEPS}
use Rattle.rule_cards.proofs.leg_obeys.Goals as goal

-- both places have few steps
i-few : (c : Else-max-gt-STEPS) → count_at c.args.from.steps.sheet.now c.args.from.steps.bit ≤ 16
i-few c = omega (arith, c.max.ensures, c.if-max-gt-STEPS.false, c.count.ensures)

j-few : (c : Else-max-gt-STEPS) → count_at c.args.to.steps.sheet.now c.args.to.steps.bit ≤ 16
j-few c = omega (arith, c.max.ensures, c.if-max-gt-STEPS.false, c.count-2.ensures)

pub cards_obey-requires : goal.cards_obey-requires
cards_obey-requires c =
    let few = (goal.at.cards_obey-requires c).Else-max-gt-STEPS in
    (c.requires, place-ready c.args.from (i-few few), place-ready c.args.to (j-few few))

pub returns : goal.returns
returns c =
    let a = c.args in
    let few = (goal.at.returns c).Else-max-gt-STEPS in
    c.cards_obey.ensures (steps_of a.from.steps) (steps_of a.to.steps) (joined a.from a.to (i-few few) (j-few few))
