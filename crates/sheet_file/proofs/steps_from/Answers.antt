-- `sheet_file::steps_from`: those that were read, and then the others.
use Rattle.sheet_file.specs.SheetFile.{any_cost}
use Rattle.sheet_file.specs.Window.{below}
use Rattle.sheet_file.proofs.Laws.{loop-start, loop-more, loop-nothing, loop-done, minute-small}
use Prim.Native.Nat.{◌+◌, ◌*◌}
use native.Mathlib.Omega.{arith}
use mathlib.Core.Path.{refl}
use Rattle.sheet_file.proofs.steps_from.Goals as goal

pub loop-k-init : goal.loop-k-init
loop-k-init c =
    let a = c.args in
    (omega arith, omega arith, loop-start a.sheet.now a.at a.count a.window.earliest.0 a.window.latest.0 any_cost)

pub returns-in_err-step : goal.returns-in_err-step
returns-in_err-step c =
    let a = c.args in
    let l = c.loop-k in
    rw c.from_residual.ensures
    (loop-nothing a.sheet.now a.at a.count l.k a.window.earliest.0 a.window.latest.0 any_cost l.low.0 (below l.last) l.invariant.2 c.loop-k-test.true c.in_err-step.ensures)

pub overflow_add-after : goal.overflow_add-after
overflow_add-after c =
    let step = c.in_ok-step.step in
    omega (arith, minute-small c.args.sheet.now (c.args.at + 44 * c.loop-k.k) step.minute.0 step.price.0 c.in_ok-step.ensures.1)

pub loop-k-preserved : goal.loop-k-preserved
loop-k-preserved c =
    let a = c.args in
    let l = c.loop-k in
    let step = c.in_ok-step.step in (
      omega arith,
      omega arith,
      loop-more a.sheet.now a.at a.count l.k a.window.earliest.0 a.window.latest.0 any_cost l.low.0 (below l.last) l.invariant.2 c.loop-k-test.true step.minute.0 step.price.0
          c.in_ok-step.ensures.1 c.in_ok-step.ensures.0,
    )

pub returns : goal.returns
returns c =
    let a = c.args in
    let l = c.loop-k in
    (loop-done a.sheet.now a.at a.count l.k a.window.earliest.0 a.window.latest.0 any_cost l.low.0 (below l.last) l.invariant.2 (omega arith), refl)
