use Rattle.plan_file.specs.PlanFile.{query_of}
use Rattle.chart.specs.Net.{theory_in}
use Rattle.report.proofs.Riding.{lines_more}
use native.Mathlib.Omega.{arith}
use Rattle.report.proofs.rides.Rides.lines.Goals as goal

pub loop-k-preserved : goal.loop-k-preserved
loop-k-preserved c =
    let l = c.loop-k in
    let r = c.args.self.now in
    let e = c.line.ensures in (
      lines_more (theory_in r.tariff.net.now) (query_of r.query) r.plan.now _ _ _ l.k l.invariant.0 e.0,
      omega (arith, l.invariant.1, e.1),
    )
