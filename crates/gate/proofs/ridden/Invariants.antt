-- `gate::ridden`: the rides passed chain.
use Rattle.plan_file.specs.PlanFile.{query_of}
use Rattle.chart.specs.Net.{theory_in}
use Rattle.gate.specs.Parts.{Riding}
use Rattle.gate.proofs.ridden.Given as goal

abbrev pub invariant-loop-k : goal.invariant-loop-k
invariant-loop-k l = Riding (theory_in l.fn.tariff.net.now) (query_of l.plan.query) l.plan.bytes.now l.k l.state
