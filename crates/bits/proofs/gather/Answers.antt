use Prim.Native.Nat.{◌+◌, ◌-◌}
use native.Mathlib.Omega.{arith}
use mathlib.Core.Path.{◌≡◌, ◌∙◌}
use borrow.Author.Rules.{rules}
use borrow.Rule.Slice.PartMut.{put_mid}
use lib.ListN.{take, drop, replicate}
use Rattle.std.specs.Int.{w64, from_be_bytes}
use Rattle.std.proofs.lemmas.List.{places}
use Rattle.bits.proofs.Bytes.{last_bytes}
use Rattle.bits.proofs.gather.Goals as goal

pub returns : goal.returns
returns c =
    let s = c.args.s.now in
    let i = c.args.i in
    let n = c.args.count in
    let bytes = put_mid (8 - n) (8 - (8 - n)) (replicate 8 0) (take (i + n - i) (drop i s)) in
    let read : c.from_be_bytes.result ≡ from_be_bytes w64 bytes = search rules in
    read
    ∙ last_bytes s bytes i n c.requires.0 (λ j. omega (arith, c.type_inv.s j)) (λ j h. grind (arith, places)) (λ k h. grind (arith, places))
