use native.Mathlib.Omega.{arith}
use Rattle.sheet_call.specs.Rows.{steps_of}
use Rattle.sheet_call.proofs.Stepping.{steps-bits}
use Rattle.sheet_call.proofs.Turns.{place-puts}
use Rattle.sheet_call.proofs.put_place.Goals as goal

pub returns : goal.returns
returns c =
    let r = c.put_steps-count in
    let a = c.args in
    let p = c.requires in
    let bits = steps-bits (steps_of a.earliest.0 a.row.now) in (
      omega (arith, bits, r.ensures.0.count a.earliest.0),
      omega (arith, r.ensures.0.few, p.0),
      place-puts a.row.now a.earliest.0 a.at _ a.out.now _ _ r.result (omega arith) r.ensures.0 r.ensures.1 c.put.ensures,
    )
