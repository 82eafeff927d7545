use mathlib.Core.Path.{ap, ◌∙◌}
use mathlib.Core.List.{List}
use lib.ListN.{length, get_or}
use Rattle.plan_file.specs.PlanFile.{query_of, none_file}
use Rattle.plan_file.proofs.Puts.{zeros-are}
use Rattle.plan_file.proofs.Files.{puts-file, puts-no-rides}
use Prim.Native.Nat.{ℕ}
use Rattle.walk.proofs.write_none.Goals as goal

pub returns : goal.returns
returns c =
    let a = c.args in
    let zero = c.clear.ensures in
    puts-file c.clear.new.out c.put_head.new.out _ (none_file (query_of a.query))
    (λ i. ap (λ (l : List ℕ). get_or l i 0) zero ∙ zeros-are (length a.file.now) i)
    (c.clear.auto.out ∙ c.requires.1) c.put_head.ensures (puts-no-rides _ 89 c.put_head.ensures.byte)
