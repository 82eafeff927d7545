use Rattle.sheet_file.specs.Window.{of_window}
use Rattle.rule_b.specs.Cursor.{leg_of, steps_of}
use Rattle.rule_b.proofs.Turn.{Walking}
use Prim.Native.Nat.{◌-◌}
use mathlib.Core.Path.{◌≡◌}
use Rattle.rule_b.proofs.leg_obeys.Given as goal

abbrev pub invariant-loop-from : goal.invariant-loop-from
invariant-loop-from l =
    Walking (leg_of l.fn.leg) (steps_of l.fn.from) (steps_of l.fn.to) (of_window l.fn.from.window) (of_window l.fn.to.window) l.fn.from.window.latest.0 l.i l.j l.tolls l.departure.0
    × (l.time.0 ≡ (leg_of l.fn.leg).time.0)

abbrev pub decreases-loop-from : goal.decreases-loop-from
decreases-loop-from l =
    4097 - l.departure.0
