use Prim.Native.Nat.{ℕ, ◌≤◌}
use native.Mathlib.Omega.{arith}
use mathlib.Core.List.{List}
use mathlib.Core.Option.{Option}
use mathlib.Core.Path.{sym, ap, subst}
use Rattle.leg.specs.Price.{price_of}
use Rattle.plan.specs.Network.{Query, Cents}
use Rattle.plan_file.specs.PlanFile.{query_of}
use Rattle.plan_reader.specs.InPlace.{file_at}
use Rattle.rule_b.specs.Rule.{Is}
use Rattle.rule_b.proofs.Turn.{is_true, is_false}
use Rattle.leg.proofs.Order.{earlier, not-earlier}
use Rattle.chart.specs.Net.{net_in, theory_in}
use Rattle.gate.specs.Gate.{Known, Holds, OfSheet}
use Rattle.gate.specs.Parts.{sheet_at, Asked}
use Rattle.gate.proofs.Answers.{known-is, plan-unknown, plan-closed, plan-fails, plan-on}
use Rattle.gate.proofs.judge_plan.Goals.{After-known, After-plan_holds}
use Rattle.gate.proofs.judge_plan.Goals as goal

-- the test says whether the query is known, in the definition's words
this-known : (c : After-known) → Is c.known.result (Known (net_in c.args.file.net.now).places (file_at c.args.plan.now.bytes.now).query)
this-known c =
    let a = c.args in
    known-is a.file.net.now a.file.size a.file.sound (query_of a.plan.now.query) (file_at a.plan.now.bytes.now).query c.args.plan.now.headed.query_is c.known.result c.known.ensures

-- after both tests of it the query is known, and its window is one
its-known : (c : After-plan_holds) → Known (net_in c.args.file.net.now).places (file_at c.args.plan.now.bytes.now).query
its-known c =
    let a = c.args in
    let q = (file_at a.plan.now.bytes.now).query in
    is_true c.known.result (Known (net_in a.file.net.now).places q) c.if-not-known.false
    (known-is a.file.net.now a.file.size a.file.sound (query_of a.plan.now.query) q c.args.plan.now.headed.query_is c.known.result c.known.ensures)

opens : (c : After-plan_holds) → (file_at c.args.plan.now.bytes.now).query.earliest ≤ (file_at c.args.plan.now.bytes.now).query.latest
opens c =
    let q = c.args.plan.now.query in
    omega (
      arith,
      not-earlier q.latest.0 q.earliest.0 _ c.lt.ensures c.if-lt.false,
      ap (λ (q : Query). q.earliest) c.args.plan.now.headed.query_is,
      ap (λ (q : Query). q.latest) c.args.plan.now.headed.query_is,
    )

-- what the plan file says is held against its network
this-plan : (c : After-plan_holds) → Is c.plan_holds.result (Holds (theory_in c.args.file.net.now) (file_at c.args.plan.now.bytes.now))
this-plan c =
    subst (λ (s : List ℕ). Is c.plan_holds.result (Holds (theory_in s) (file_at c.args.plan.now.bytes.now))) (ap (λ r. r.now) c.of-tariff.ensures.0) c.plan_holds.ensures

pub returns-then-not-known : goal.returns-then-not-known
returns-then-not-known c =
    let n = net_in c.args.file.net.now in
    let f = file_at c.args.plan.now.bytes.now in
    plan-unknown n f c.args.sheet.now (is_false c.known.result (Known n.places f.query) c.if-not-known.true (this-known (goal.at.returns-then-not-known c).After-known))

pub returns-then-lt : goal.returns-then-lt
returns-then-lt c =
    let a = c.args in
    let n = net_in a.file.net.now in
    let f = file_at a.plan.now.bytes.now in
    let d = c.args.plan.now.headed in
    let known = is_true c.known.result (Known n.places f.query) c.if-not-known.false (this-known (goal.at.returns-then-lt c).After-known) in
    plan-closed n f a.sheet.now known
    (λ w. omega (arith, w, earlier a.plan.now.query.latest.0 a.plan.now.query.earliest.0 _ c.lt.ensures c.if-lt.true, ap (λ (q : Query). q.earliest) d.query_is, ap (λ (q : Query). q.latest) d.query_is))

pub returns-then-not-plan_holds : goal.returns-then-not-plan_holds
returns-then-not-plan_holds c =
    let p = (goal.at.returns-then-not-plan_holds c).After-plan_holds in
    let n = net_in c.args.file.net.now in
    let f = file_at c.args.plan.now.bytes.now in
    plan-fails n f c.args.sheet.now (its-known p) (opens p) (is_false c.plan_holds.result (Holds (theory_in c.args.file.net.now) f) c.if-not-plan_holds.true (this-plan p))

pub judge_sheet-requires : goal.judge_sheet-requires
judge_sheet-requires c =
    let a = c.args in
    let n = net_in a.file.net.now in
    let p = (goal.at.judge_sheet-requires c).After-plan_holds in
    subst (λ (s : List ℕ). Asked s (query_of a.plan.now.query)) (sym (ap (λ r. r.now) c.of-tariff.ensures.0))
    (record { known = subst (λ (q : Query). Known n.places q) (sym c.args.plan.now.headed.query_is) (its-known p); window = not-earlier a.plan.now.query.latest.0 a.plan.now.query.earliest.0 _ c.lt.ensures c.if-lt.false })

pub returns : goal.returns
returns c =
    let a = c.args in
    let d = c.args.plan.now.headed in
    let s = a.file.net.now in
    let N = theory_in s in
    let f = file_at a.plan.now.bytes.now in
    let p = (goal.at.returns c).After-plan_holds in
    let r = c.judge_sheet.result in
    plan-on (net_in s) f a.sheet.now (its-known p) (opens p) (is_true c.plan_holds.result (Holds N f) c.if-not-plan_holds.false (this-plan p)) r
    (subst (λ (o : Option Cents). OfSheet r N f.query o (sheet_at s a.sheet.now f.query)) d.stated_is
    (subst (λ (q : Query). OfSheet r N q (price_of a.plan.now.stated) (sheet_at s a.sheet.now q)) d.query_is
    (subst (λ (s : List ℕ). let q = query_of a.plan.now.query in OfSheet r (theory_in s) q (price_of a.plan.now.stated) (sheet_at s a.sheet.now q)) (ap (λ r. r.now) c.of-tariff.ensures.0)
    c.judge_sheet.ensures)))
