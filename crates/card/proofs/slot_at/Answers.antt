-- `card::slot_at`: a field that is read at once is its two parts.
use Prim.Native.Nat.{ℕ, ◌*◌, ◌^◌, ◌≤◌, ◌%◌}
use native.Mathlib.Omega.{arith}
use mathlib.Core.Path.{◌≡◌}
use Rattle.std.proofs.Math.Pow.{pow_mono}
use Rattle.bits.proofs.Fields.{part-first, part-last}
use Rattle.card.proofs.slot_at.Goals as goal

-- a power that fits 32 bits
power : (w : ℕ) → w ≤ 20 → 1 * 2 ^ w % 4294967296 ≡ 2 ^ w
power w h = let p : 2 ^ w ≤ 1048576 = pow_mono h in omega arith

pub returns-then-this-le20 : goal.returns-then-this-le20
returns-then-this-le20 g c =
    let a = c.args in
    let w = g.row.WIDTH in
    let both = c.field-both.ensures in
    (part-first a.file.now a.bit 12 w both, rw (power w c.if-this-le20.true) (part-last a.file.now a.bit 12 w both))
