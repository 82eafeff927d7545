-- `bits::put_among`: the value is spliced into the bytes that hold the field.
use Prim.Native.Nat.{◌+◌, ◌-◌, ◌*◌, ◌/◌, ◌%◌, ◌^◌, ◌<◌}
use native.Mathlib.Omega.{arith}
use mathlib.Core.Path.{◌≡◌}
use Rattle.bits.specs.Field.{field}
use Rattle.bits.specs.Word.{spliced}
use Rattle.bits.proofs.Fields.{field_below}
use Rattle.bits.proofs.Splices.{splice-below}
use Rattle.bits.proofs.Puts.{put-of-stored}
use Rattle.bits.proofs.put_among.Goals as goal

-- first, so that a wrong program is refused here
pub returns : goal.returns
returns c =
    let start = c in
    let a = start.args in
    let i = a.at / 8 in
    let n = a.count in
    let d = 8 * n - a.at % 8 - a.width in
    let after = c.scatter.new.s in
    let place : 8 * i + a.at % 8 ≡ a.at = omega arith in
    let word : c.splice-word.result ≡ spliced (field a.s.now (8 * i) (8 * n)) d a.width a.value =
    rw (c.splice-word.ensures, c.gather.ensures)
    in
    rw place at
    (put-of-stored a.s.now after i n (a.at % 8) a.width d a.value (omega arith) start.requires.2
    (rw word at c.scatter.ensures)
    (λ j. omega (arith, c.type_inv.s j)))

pub scatter-requires : goal.scatter-requires
scatter-requires c =
    let start = c in
    let a = start.args in
    let n = a.count in
    let word = c.gather.result in
    let below : word < 2 ^ (8 * n) =
    rw c.gather.ensures (field_below a.s.now (8 * (a.at / 8)) (8 * n))
    in (
      omega arith,
      omega arith,
      rw c.splice-word.ensures
          (splice-below word (8 * n - a.at % 8 - a.width) a.width a.value start.requires.2 (8 * n) (omega arith) below),
    )
