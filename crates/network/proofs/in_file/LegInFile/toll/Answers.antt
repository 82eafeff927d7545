use Prim.Native.Nat.{◌+◌}
use mathlib.Core.Path.{sym, ap, ◌∙◌}
use Rattle.leg.specs.declared.Band.{Band}
use Rattle.leg.specs.Ranges.{cents}
use Rattle.network.proofs.InFile.{band-there}
use Rattle.network.proofs.in_file.LegInFile.toll.Goals as goal

pub returns : goal.returns
returns c =
    let s = c.args.self in
    ap cents c.field.ensures
    ∙ ap (λ (b : Band). b.toll) (sym (band-there s.net.now (s.at + 28) _ c.args.k c.requires))
