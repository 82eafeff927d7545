use Prim.Native.Nat.{◌+◌, ◌*◌}
use native.Mathlib.Omega.{arith}
use lib.ListN.{length}
use borrow.Author.Tests.{le-leb}
use Rattle.source.proofs.Laws.{whole_four}
use Rattle.source.proofs.load.Goals as goal

pub returns-then-at-net : goal.returns-then-at-net
returns-then-at-net c =
    let h = c.requires in
    let end = 8 * length c.args.net.now in
    (c.field.ensures, whole_four _ _ _ _ _ _ (h.1, h.2, h.3) (le-leb (c.args.at + 28) end (omega (arith, c.if-at-net.true))))
