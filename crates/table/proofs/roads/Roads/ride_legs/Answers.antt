-- `Roads::ride_legs`: the legs of p above the next one are done; it falls along the chain.
use Rattle.table.proofs.Tariffs.{few-legs}
use Rattle.table.proofs.Chaining.{Riding, riding-none, riding-more}
use Prim.Native.Nat.{◌+◌}
use native.Mathlib.Omega.{arith}
use Rattle.table.proofs.roads.Roads.ride_legs.Goals as goal
use Rattle.table.proofs.roads.Roads.ride_legs.Goals.{In-Some}

-- the turn at leg l
now : (c : In-Some) → Riding c.args.self.now c.args.p c.args.row.now c.args.from c.args.cells.now c.loop-next.cells c.args.low.now c.loop-next.low (c.in-Some.l + 1)
now c =
    let l = c.loop-next in
    rw c.in-Some.is at l.invariant

pub loop-next-init : goal.loop-next-init
loop-next-init c =
    let a = c.args in
    riding-none a.self.now a.p c.requires.0 a.row.now a.from a.cells.now a.low.now c.requires.1

pub bounds-self-l : goal.bounds-self-l
bounds-self-l c =
    let r = now (goal.at.bounds-self-l c).In-Some in
    omega (arith, r.within, few-legs c.args.self.now.tariff.now)

pub loop-next-preserved : goal.loop-next-preserved
loop-next-preserved c =
    let a = c.args in
    let l = c.loop-next in
    riding-more a.self.now a.p c.requires.0 a.row.now a.from a.cells.now l.cells a.low.now l.low c.in-Some.l (now (goal.at.loop-next-preserved c).In-Some) _ _ c.ride_leg.ensures
