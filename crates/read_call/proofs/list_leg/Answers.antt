-- `read_call::list_leg`: the head's numbers, then those of the bands passed.
use Prim.Native.Nat.{ℕ, ◌+◌, ◌*◌}
use native.Mathlib.Omega.{arith}
use mathlib.Core.Path.{◌≡◌, refl, sym, ◌∙◌, ap}
use mathlib.Core.List.{List, [], ◌∷◌}
use lib.ListN.{get_or}
use lib.Seq.{sets}
use Rattle.leg.specs.declared.Band.{Band}
use Rattle.leg.specs.Ranges.{no_band}
use Rattle.network.specs.Fields.{band_fields, bands_fields, values}
use Rattle.network.specs.InFile.{leg_at}
use Rattle.network.proofs.InFile.{band-there}
use Rattle.read_call.proofs.Stores.{head-fields, band-stored}
use Rattle.read_call.proofs.list_leg.Goals.{After-head_parts-fields}
use Rattle.read_call.proofs.list_leg.Goals as goal

-- the head's numbers, and the last of them
head_is : (c : After-head_parts-fields) → let leg = leg_at c.args.leg.net.now c.args.leg.at in c.head_parts-fields.result ≡ leg.from ∷ leg.to ∷ leg.time.0 ∷ leg.count ∷ []
head_is c = c.head_parts-fields.ensures c.args.leg.net.now c.args.leg.at c.field.ensures ∙ head-fields c.args.leg.net.now c.args.leg.at

count_is : (c : After-head_parts-fields) → get_or c.head_parts-fields.result 3 0 ≡ (leg_at c.args.leg.net.now c.args.leg.at).count
count_is c = ap (λ (vs : List ℕ). get_or vs 3 0) (head_is c)

pub loop-k-init : goal.loop-k-init
unfolding bands_fields
loop-k-init c = (refl, refl)

pub loop-k-preserved : goal.loop-k-preserved
loop-k-preserved c =
    let a = c.args in
    let l = c.loop-k in
    let s = a.leg.net.now in
    let q = a.leg.at + 28 + 28 * l.k in
    let leg = leg_at s a.leg.at in
    let here = band-there s (a.leg.at + 28) leg.count l.k (omega (arith, count_is (goal.at.loop-k-preserved c).After-head_parts-fields)) in
    let numbers = c.store-in-loop-k.ensures ∙ ap (λ (vs : List ℕ). sets l.list (a.at + 4 + 2 * l.k) (get_or vs 0 0 ∷ get_or vs 1 0 ∷ [])) (c.band_parts.ensures s q c.field-in-loop-k.ensures) in (
      omega (arith, c.store-in-loop-k.auto.list, l.invariant.0),
      numbers
          ∙ sym (ap (λ (b : Band). sets l.list (a.at + 4 + 2 * l.k) (values (band_fields b))) here)
          ∙ ap (λ (x : List ℕ). sets x (a.at + 4 + 2 * l.k) (values (band_fields (get_or leg.bands l.k no_band)))) l.invariant.1
          ∙ band-stored _ (a.at + 4) l.k leg.bands,
    )
