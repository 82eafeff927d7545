use Prim.Native.Nat.{◌+◌}
use native.Mathlib.Omega.{arith}
use mathlib.Core.Path.{refl}
use Rattle.plan_file.specs.PlanFile.{query_of}
use Rattle.chart.specs.Net.{theory_in}
use Rattle.plan_reader.proofs.Laws.{says-few}
use Rattle.gate.proofs.Rides.{riding-none, riding-more, riding-not, runs-first}
use Rattle.gate.proofs.ridden.Goals as goal

pub loop-k-init : goal.loop-k-init
loop-k-init c =
    riding-none (theory_in c.args.tariff.now.net.now) (λ l d. tt) (query_of c.args.plan.now.query) c.args.plan.now.bytes.now _ refl refl refl

pub ride-requires : goal.ride-requires
ride-requires c =
    let plan = c.args.plan.now in
    (omega (arith, c.loop-k-test.true), omega (arith, c.loop-k.invariant.near, c.loop-k-test.true, plan.headed.legs_is, says-few plan.bytes.now plan.says))

pub returns-in_err-state : goal.returns-in_err-state
returns-in_err-state c =
    let N = theory_in c.args.tariff.now.net.now in
    let q = query_of c.args.plan.now.query in
    let s = c.args.plan.now.bytes.now in
    let k = c.loop-k.k in
    rw c.from_residual.ensures
    (λ runs.
    riding-not N (λ l d. tt) q s k c.loop-k.state c.loop-k.invariant c.in_err-state.ensures
    (runs-first N (λ l d. tt) q s (k + 1) c.args.plan.now.legs (omega (arith, c.loop-k-test.true)) runs))

pub loop-k-preserved : goal.loop-k-preserved
loop-k-preserved c =
    riding-more (theory_in c.args.tariff.now.net.now) (λ l d. tt) (query_of c.args.plan.now.query) c.args.plan.now.bytes.now c.loop-k.k c.loop-k.state c.loop-k.invariant c.in_ok-state.state c.in_ok-state.ensures
