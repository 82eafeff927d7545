use Rattle.plan_file.specs.PlanFile.{query_of}
use Rattle.text.specs.Text.{Writes}
use Rattle.chart.specs.Net.{theory_in}
use Rattle.report.specs.Rides.{rides_in}
use Rattle.report.specs.Report.{rides_text}
use Prim.Native.Nat.{◌+◌, ◌*◌, ◌≤◌}
use Rattle.report.proofs.rides.Rides.lines.Given as goal

abbrev pub invariant-loop-k : goal.invariant-loop-k
invariant-loop-k l =
    Writes l.initial.page l.page (rides_text (theory_in l.self.tariff.net.now) (query_of l.self.query) (rides_in l.self.plan.now l.k))
    × (l.page.at ≤ l.initial.page.at + 48 * l.k)
