use mathlib.Core.Path.{ap, ◌∙◌}
use mathlib.Core.List.{List}
use lib.ListN.{length, get_or}
use Rattle.plan_file.proofs.Puts.{zeros-are}
use Rattle.walk.proofs.Steps.{cell-there}
use Rattle.walk.proofs.Ends.{begins, ends}
use Prim.Native.Nat.{ℕ}
use native.Mathlib.Omega.{arith}
use Rattle.walk.proofs.Walk.write_plan.Goals as goal

pub returns : goal.returns
returns c =
    let a = c.args in
    let zero = c.clear.ensures in
    ends a.self.now a.arrival.0 c.requires.0
    c.cell-here.result c.cell-here.ensures c.clear.new.out _ _
    (λ i. ap (λ (l : List ℕ). get_or l i 0) zero ∙ zeros-are (length a.file.now) i)
    (c.clear.auto.out ∙ c.requires.1) (rw (c.cost_of.ensures, c.legs_of.ensures) at c.put_head.ensures) c.arrival_to_leg.ensures

pub cell-here-requires : goal.cell-here-requires
cell-here-requires c =
    let a = c.args in
    let e = c.requires.0 in
    cell-there a.self.now e.walkable a.self.now.table.query.end a.arrival.0 (begins a.self.now a.arrival.0 e).departing.within

pub arrival_to_leg-requires : goal.arrival_to_leg-requires
arrival_to_leg-requires c =
    let a = c.args in (
      begins a.self.now a.arrival.0 c.requires.0,
      omega (arith, c.requires.1, c.put_head.ensures.same_length, c.clear.auto.out),
    )
