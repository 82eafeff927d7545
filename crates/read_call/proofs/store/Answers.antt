-- `read_call::store`: one number more is one store more.
use Prim.Native.Nat.{ℕ, ◌+◌}
use native.Mathlib.Omega.{arith}
use mathlib.Core.Path.{◌≡◌, sym, ap, ◌∙◌}
use mathlib.Core.List.{List, [], ◌∷◌}
use lib.ListN.{length, take, get_or, set, length-set}
use lib.Seq.{sets, length-take-le}
use Rattle.std.proofs.lemmas.List.{take_more}
use Rattle.read_call.proofs.Stores.{sets-append}
use Rattle.read_call.proofs.store.Goals as goal

pub loop-k-preserved : goal.loop-k-preserved
loop-k-preserved g c =
    let a = c.args in
    let l = c.loop-k in
    let ns = a.numbers.now in
    let v = get_or ns l.k 0 in
    let front = take l.k ns in
    let long : length front ≡ l.k = length-take-le l.k ns (omega (arith, c.told-numbers, c.loop-k-test.true)) in
    let whole = take_more ns l.k 0 (omega (arith, c.told-numbers, c.loop-k-test.true)) in (
      length-set l.list (a.at + l.k) v ∙ l.invariant.0,
      ap (λ (x : List ℕ). set x (a.at + l.k) v) l.invariant.1
          ∙ sym (ap (λ (xs : List ℕ). sets a.list.now a.at xs) whole ∙ sets-append a.list.now a.at front (v ∷ [])
          ∙ ap (λ (n : ℕ). set (sets a.list.now a.at front) (a.at + n) v) long),
    )
