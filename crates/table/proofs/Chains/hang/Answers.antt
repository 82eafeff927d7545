-- `Chains::hang`: the legs below l are chained.
use Rattle.table.proofs.Tariffs.{few-legs}
use Rattle.table.proofs.Chaining.{chained-none, from-few, chain_more}
use native.Mathlib.Omega.{arith}
use lib.ListN.{length-set}
use borrow.Author.Rules.{rules}
use Rattle.table.proofs.Chains.hang.Goals as goal

pub loop-l-init : goal.loop-l-init
loop-l-init c = (search rules, search rules, chained-none _ _ _ c.requires)

pub bounds-self-from : goal.bounds-self-from
bounds-self-from c = from-few c.args.tariff.now c.loop-l.l c.loop-l-test.true c.leg-from.result c.leg-from.ensures

pub offset_bounds-self-l : goal.offset_bounds-self-l
offset_bounds-self-l c = omega (arith, few-legs c.args.tariff.now)

pub bounds-self-l : goal.bounds-self-l
bounds-self-l c = omega (arith, few-legs c.args.tariff.now)

pub overflow_cast-l : goal.overflow_cast-l
overflow_cast-l c = omega (arith, few-legs c.args.tariff.now)

pub loop-l-preserved : goal.loop-l-preserved
loop-l-preserved c =
    let l = c.loop-l in
    rw (c.replace.ensures.value, c.replace.ensures.after) (
      simp length-set l.invariant.0,
      simp length-set l.invariant.1,
      chain_more c.args.tariff.now l.l c.loop-l-test.true c.leg-from.result c.leg-from.ensures l.self.last l.self.before l.invariant.0 l.invariant.1 l.invariant.2,
    )
