use Rattle.plan_file.proofs.Puts.{puts_one, puts_then}
use Rattle.plan_file.proofs.put_ride.Goals as goal

pub returns : goal.returns
returns c = puts_then (puts_one c.put.ensures) (puts_one c.put-2.ensures)
