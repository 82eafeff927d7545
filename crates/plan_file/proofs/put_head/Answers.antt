use mathlib.Core.Path.{sym}
use Rattle.plan_file.proofs.Puts.{puts_one, puts_then}
use Rattle.plan_file.proofs.put_head.Goals as goal

pub returns : goal.returns
returns c =
    rw (sym c.number-verdict.ensures)
    (puts_then (puts_then (puts_then (puts_then (puts_then (puts_then (puts_then (puts_one c.put.ensures) (puts_one c.put-2.ensures))
    (puts_one c.put-3.ensures)) (puts_one c.put-4.ensures)) (puts_one c.put-5.ensures)) (puts_one c.put-6.ensures)) (puts_one c.put-7.ensures)) (puts_one c.put-8.ensures))
