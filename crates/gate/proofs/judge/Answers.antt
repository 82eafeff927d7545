use mathlib.Core.List.{List}
use mathlib.Core.Path.{subst}
use Prim.Native.Nat.{ℕ}
use Rattle.chart.proofs.Net.{in-file}
use Rattle.gate.specs.Gate.{GateSays}
use Rattle.gate.proofs.Answers.{network-on}
use Rattle.gate.proofs.judge.Goals as goal

pub returns : goal.returns
returns c =
    let a = c.args in
    let file = c.in_ok-file.file in
    let n = in-file file.net.now file.size file.sound in
    subst (λ (s : List ℕ). GateSays s a.plan.now a.sheet.now c.judge_files.result) c.in_ok-file.ensures
    (network-on file.net.now n.end c.judge_files.result a.plan.now a.sheet.now n.stands c.judge_files.ensures)
