use Rattle.sheet_file.specs.Window.{of_window}
use Rattle.leg.specs.declared.Minute.{Minute}
use Rattle.leg.specs.declared.Leg.{Leg}
use Rattle.leg.specs.Price.{price_of}
use Rattle.rule_b.specs.Cursor.{leg_of, steps_of, Banded, Covers}
use Rattle.rule_b.proofs.Turn.{moved_at, earlier, is_true, is_false, walking_start, turn-broken, turn_on}
use Prim.Native.Nat.{◌+◌, ◌≤◌}
use native.Mathlib.Omega.{arith}
use mathlib.Core.Path.{ap, subst}
use Rattle.leg.proofs.Order.{not-later}
use Rattle.rule_b.proofs.leg_obeys.Goals.{In-loop-from, After-begun-tolls}
use Rattle.rule_b.proofs.leg_obeys.Goals as goal

pub loop-from-init : goal.loop-from-init
loop-from-init c =
    let a = c.args in (
      walking_start (leg_of a.leg) (steps_of a.from) (steps_of a.to) (of_window a.from.window) (of_window a.to.window) a.from.window.latest.0 c.requires.order a.from.asked.steps a.to.asked.steps
          c.at_start-i.result c.at_start-j.result c.at_start-tolls.result c.at_start-i.ensures c.at_start-j.ensures c.at_start-tolls.ensures,
      ap (λ (m : Minute). m.0) c.time-time.ensures,
    )

-- the departure arrives in time
arrives : (c : In-loop-from) → c.loop-from.departure.0 + (leg_of c.args.leg).time.0 ≤ c.args.from.window.latest.0
arrives c =
    let l = c.loop-from in
    omega (arith, l.invariant.1, not-later (l.departure.0 + c.time-time.result.0) c.args.from.window.latest.0 _ c.le.ensures c.loop-from-test.true)

-- the bands that were passed are the leg's
bands : (c : After-begun-tolls) → Banded (leg_of c.args.leg) c.loop-from.departure.0 c.begun-tolls.result
bands c = subst (λ (x : Leg). Banded x c.loop-from.departure.0 c.begun-tolls.result) c.loop-from.invariant.0.bands.is c.begun-tolls.ensures.0

pub returns-then-not-covered : goal.returns-then-not-covered
returns-then-not-covered c =
    let p = (goal.at.returns-then-not-covered c).After-begun-tolls in
    let a = c.args in
    let l = c.loop-from in
    let i = c.forward-i in
    let b = c.begun-tolls in
    let j = c.forward-j in
    let bad = is_false c.covered.result (Covers (price_of i.result.price) (price_of j.result.price) b.result.toll.0) c.if-not-covered.true c.covered.ensures in
    turn-broken (leg_of a.leg) (steps_of a.from) (steps_of a.to) (of_window a.from.window) (of_window a.to.window) a.from.window.latest.0 c.requires.order a.from.asked.steps a.to.asked.steps
    l.i l.j l.tolls l.departure.0 l.invariant.0 (arrives (goal.at.returns-then-not-covered c).In-loop-from) i.result i.ensures b.result (bands p) b.ensures.1 j.result
    (moved_at _ (l.departure.0 + (leg_of a.leg).time.0) l.j j.result j.ensures (omega (arith, l.invariant.1))) bad

pub loop-from-preserved : goal.loop-from-preserved
loop-from-preserved c =
    let p = (goal.at.loop-from-preserved c).After-begun-tolls in
    let a = c.args in
    let l = c.loop-from in
    let i = c.forward-i in
    let b = c.begun-tolls in
    let j = c.forward-j in
    let next = earlier i.result.next b.result.next c.min-departure.result c.min-departure.ensures in
    let good = is_true c.covered.result (Covers (price_of i.result.price) (price_of j.result.price) b.result.toll.0) c.if-not-covered.false c.covered.ensures in (
      turn_on (leg_of a.leg) (steps_of a.from) (steps_of a.to) (of_window a.from.window) (of_window a.to.window) a.from.window.latest.0 c.requires.order a.from.asked.steps a.to.asked.steps
          l.i l.j l.tolls l.departure.0 l.invariant.0 (arrives (goal.at.loop-from-preserved c).In-loop-from) i.result i.ensures b.result (bands p) b.ensures.1 j.result
          (moved_at _ (l.departure.0 + (leg_of a.leg).time.0) l.j j.result j.ensures (omega (arith, l.invariant.1))) good
          _ next.first next.second (omega (arith, next.one, i.ensures.past, b.ensures.1)),
      l.invariant.1,
    )
