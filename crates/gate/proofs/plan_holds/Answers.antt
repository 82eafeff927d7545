use Rattle.bits.specs.Field.{field}
use Rattle.plan.specs.Network.{Query}
use Rattle.plan.specs.Plan.{Runs}
use Rattle.plan_file.specs.PlanFile.{query_of}
use Rattle.leg.specs.Price.{price_of}
use Rattle.plan_reader.specs.InPlace.{rides_at}
use Rattle.chart.specs.Net.{theory_in}
use Rattle.rule_b.specs.Rule.{Is}
use Rattle.gate.specs.Parts.{Riding, Arrived}
use Rattle.gate.proofs.Rides.{stated-one, arrives-holds}
use Prim.Native.Nat.{ℕ}
use mathlib.Core.Path.{sym, ap, ◌∙◌, subst}
use Rattle.gate.proofs.plan_holds.Goals as goal

pub returns-in-Some-ridden : goal.returns-in-Some-ridden
returns-in-Some-ridden c =
    let s = c.args.plan.now.bytes.now in
    let d = c.args.plan.now.headed in
    let N = theory_in c.args.tariff.now.net.now in
    let state = c.in-Some-ridden.state in
    let one = stated-one s c.in-Some.stated.0 (ap price_of (sym c.in-Some.is) ∙ d.stated_is) in
    arrives-holds c.args.tariff.now.net.now s state c.arrived.result
    (subst (λ (q : Query). Riding N q s (field s 77 12) state) d.query_is
    (subst (λ (n : ℕ). Riding N (query_of c.args.plan.now.query) s n state) d.legs_is c.in-Some-ridden.ensures))
    one.0
    (subst (λ (q : Query). Is c.arrived.result (Arrived q (field s 45 32) state)) d.query_is
    (subst (λ (x : ℕ). Is c.arrived.result (Arrived (query_of c.args.plan.now.query) x state)) one.1 c.arrived.ensures))

pub returns-in-None : goal.returns-in-None
returns-in-None c =
    let s = c.args.plan.now.bytes.now in
    let d = c.args.plan.now.headed in
    let N = theory_in c.args.tariff.now.net.now in
    let one = stated-one s c.in-Some.stated.0 (ap price_of (sym c.in-Some.is) ∙ d.stated_is) in
    λ h.
    subst (λ (q : Query). Runs N q (rides_at s (field s 77 12)) → ⊥) d.query_is
    (subst (λ (n : ℕ). Runs N (query_of c.args.plan.now.query) (rides_at s n) → ⊥) d.legs_is c.in-None.ensures) (h one.0).feasible.runs
