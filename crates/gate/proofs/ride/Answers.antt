use Rattle.bits.proofs.Fields.{field_below}
use Rattle.leg.specs.Toll.{toll_at}
use Rattle.network.proofs.Sound.{SoundLeg}
use Rattle.plan_reader.specs.InPlace.{ride_at}
use Rattle.chart.specs.Net.{net_in, leg_in}
use Rattle.chart.proofs.Net.{read, tariff-leg-sound}
use Rattle.gate.proofs.Rides.{toll-small, not-before, rode-on}
use Prim.Native.Nat.{ℕ, ◌+◌, ◌*◌, ◌<◌}
use native.Mathlib.Omega.{arith}
use mathlib.Core.Path.{◌≡◌, ap, ◌∙◌}
use lib.ListN.{length}
use Rattle.gate.proofs.ride.Goals.{After-leg-leg}
use Rattle.gate.proofs.ride.Goals as goal

-- the leg that was decoded is the network's, and so is sound
its-sound : (c : After-leg-leg) → SoundLeg (net_in c.args.tariff.now.net.now).places c.leg-leg.result
its-sound c = rw c.leg-leg.ensures (tariff-leg-sound c.args.tariff.now c.ride-number.result.0 c.if-tariff-number.false)

pub returns-then-tariff-number : goal.returns-then-tariff-number
returns-then-tariff-number c =
    let a = c.args in
    λ b. omega (arith, b.known, c.ride-number.ensures.0, c.if-tariff-number.true, (read a.tariff.now).legs)

pub toll_at-toll-requires : goal.toll_at-toll-requires
toll_at-toll-requires c =
    (its-sound (goal.at.toll_at-toll-requires c).After-leg-leg).few_bands

pub overflow_add-result : goal.overflow_add-result
overflow_add-result c =
    omega (arith, (its-sound (goal.at.overflow_add-result c).After-leg-leg).time_within, c.ride-number.ensures.1, field_below c.args.plan.now.bytes.now (89 + 21 * c.args.k + 9) 12)

pub returns : goal.returns
returns c =
    let a = c.args in
    let n = a.tariff.now.net.now in
    let w = (goal.at.returns c).After-leg-leg in
    let leg = c.leg-leg.result in
    let number = c.ride-number.ensures.0 in
    let when = c.ride-number.ensures.1 in
    let low : (ride_at a.plan.now.bytes.now a.k).leg < length (net_in n).legs = omega (arith, number, c.if-tariff-number.false, (read a.tariff.now).legs) in
    let toll = c.toll_at-toll in
    let paid : c.from.result ≡ toll_at leg c.ride-number.result.1.0 = c.from.ensures ∙ toll.ensures in
    let small = toll-small _ _ c.ride-number.result.1.0 (its-sound w) in
    rw when
    (rode-on n (ride_at a.plan.now.bytes.now a.k) a.state leg c.from.result (c.leg-leg.ensures ∙ ap (λ (x : ℕ). leg_in n x) number) low c.if-leg-state.false
    (omega (arith, when, not-before c.lt.result c.ride-number.result.1.0 _ a.state.time.0 c.lt.ensures c.if-lt.false (omega arith))) (paid ∙ ap (λ (t : ℕ). toll_at leg t) when) (omega (arith, paid, small)))
