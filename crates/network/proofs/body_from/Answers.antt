use Prim.Native.Nat.{ℕ, ◌+◌, ◌≤◌}
use native.Mathlib.Omega.{arith}
use mathlib.Core.Path.{◌≡◌, sym, ap, ◌∙◌}
use borrow.Author.Rules.{rules}
use lib.ListN.{length}
use Rattle.std.specs.Prelude.{Ok, Err}
use Rattle.network.specs.Reading.{found}
use Rattle.network.specs.Network.{edition1, leg}
use Rattle.network.specs.Answers.{network_found}
use Rattle.network.proofs.Near.{leg-near}
use Rattle.network.proofs.Legs.{passed_none, passed_more, passed-refused, passed-all, body_refused, body_open, body-sound, given_ok, given_err}
use Rattle.network.proofs.body_from.Given.{Over}
use Rattle.network.proofs.body_from.Goals.{In_ok-leg}
use Rattle.network.proofs.body_from.Goals as goal

pub loop-k-init : goal.loop-k-init
loop-k-init g c =
    let a = c.args in
    let pre = c.requires in
    (pre.1, pre.0, omega arith, omega arith, passed_none edition1 a.top.places a.top.legs (g.S.Origin.source a.source.now) a.at)

pub returns-in_err-leg : goal.returns-in_err-leg
returns-in_err-leg g c =
    let a = c.args in
    let l = c.loop-k in
    let src = g.S.Origin.source a.source.now in
    let why = c.in_err-leg.field-0.0 in
    let bad = given_err (leg edition1 a.top.places src l.place) why (sym c.leg_from.ensures ∙ c.in_err-leg.was) in
    let none = passed-refused edition1 a.top.places a.top.legs src a.at l.k l.place l.bands why l.invariant.4 (omega arith) bad in
    let said : c.from_residual.result ≡ Err why = search rules in
    said ∙ sym (ap network_found (body_refused edition1 a.top src a.at why none))

-- this turn's leg, as the definition has it
this-leg : (g : Over) (c : In_ok-leg g)
    → leg edition1 c.args.top.places (g.S.Origin.source c.args.source.now) c.loop-k.place ≡ found c.in_ok-leg.leg c.in_ok-leg.after
this-leg g c = given_ok _ _ _ (sym c.leg_from.ensures ∙ c.in_ok-leg.was)

near : (g : Over) (c : In_ok-leg g) → (c.in_ok-leg.after ≤ c.loop-k.place + 252) × (c.in_ok-leg.leg.count ≤ 8)
near g c = leg-near (g.S.Origin.source c.args.source.now) (g.met.S.Origin.near c.args.source.now) c.args.top.places c.loop-k.place _ _ (this-leg g c)

pub overflow_add-bands : goal.overflow_add-bands
overflow_add-bands g c = omega (arith, (near g (goal.at.overflow_add-bands g c).In_ok-leg).1)

pub loop-k-preserved : goal.loop-k-preserved
loop-k-preserved g c =
    let a = c.args in
    let l = c.loop-k in
    let w = (goal.at.loop-k-preserved g c).In_ok-leg in
    let n = near g w in (
      omega arith,
      omega arith,
      omega (arith, n.0),
      omega (arith, n.1),
      passed_more edition1 a.top.places a.top.legs (g.S.Origin.source a.source.now) a.at l.k l.place l.bands _ _ l.invariant.4 (omega arith) (this-leg g w),
    )

pub returns-then-ends : goal.returns-then-ends
returns-then-ends g c =
    let a = c.args in
    let l = c.loop-k in
    let src = g.S.Origin.source a.source.now in
    let p = l.invariant.4 in
    let all = passed-all edition1 a.top.places a.top.legs src a.at l.k l.place l.bands p (omega arith) in
    let closed = sym c.ends.ensures ∙ c.if-ends.true in
    let whole : length p.before ≡ a.top.legs = omega (arith, p.size) in
    ap (λ (n : ℕ). Ok (record { places = a.top.places; legs = n; bands = l.bands })) (sym whole)
    ∙ ap (λ (n : ℕ). Ok (record { places = a.top.places; legs = length p.before; bands = n })) (sym p.sum)
    ∙ sym (ap network_found (body-sound edition1 a.top src a.at p.before l.place all closed))

pub returns-else-ends : goal.returns-else-ends
returns-else-ends g c =
    let a = c.args in
    let l = c.loop-k in
    let src = g.S.Origin.source a.source.now in
    let p = l.invariant.4 in
    let all = passed-all edition1 a.top.places a.top.legs src a.at l.k l.place l.bands p (omega arith) in
    let open-end = sym c.ends.ensures ∙ c.if-ends.false in
    sym (ap network_found (body_open edition1 a.top src a.at p.before l.place all open-end))
