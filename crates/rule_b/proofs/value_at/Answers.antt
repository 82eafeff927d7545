use Rattle.sheet_file.specs.Window.{of_window}
use Rattle.rule_b.specs.Cursor.{steps_of}
use Rattle.rule_b.proofs.Walks.{reached-value, reached-begun}
use native.Mathlib.Omega.{arith}
use Rattle.rule_b.proofs.value_at.Goals as goal

pub returns : goal.returns
returns c =
    let p = c.args.place in
    let t = c.args.minute.0 in
    let q = of_window p.window in
    let m = c.forward.ensures in
    reached-value q (steps_of p) t c.forward.result (m.reached q (steps_of p) (reached-begun q (steps_of p) t c.at_start.result c.at_start.ensures p.asked.steps))
    t (omega arith) m.past
