use native.Mathlib.Omega.{arith}
use mathlib.Core.Path.{◌≡◌}
use lib.ListN.{length}
use borrow.Author.Tests.{eq-eqb}
use Rattle.bits.specs.Packed.{bytes_for}
use Rattle.bits.proofs.Fields.{field-none}
use Rattle.reader.proofs.ends.Goals.{Else-file-div_ceil}
use Rattle.reader.proofs.ends.Goals as goal

-- the file has the bytes that the bits take
full : (c : Else-file-div_ceil) → length c.args.file.now ≡ bytes_for c.args.at
full c = omega (arith, c.div_ceil.ensures, c.if-file-div_ceil.false)

pub returns-then-fill-eq0 : goal.returns-then-fill-eq0
returns-then-fill-eq0 c = rw (eq-eqb _ _ (full (goal.at.returns-then-fill-eq0 c).Else-file-div_ceil), c.if-fill-eq0.true, field-none)
