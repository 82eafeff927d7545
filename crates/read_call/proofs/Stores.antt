-- Runs of stores: one run after another is one run.
use Prim.Native.Nat.{ℕ, suc, ◌+◌, ◌*◌, ◌≤◌}
use mathlib.Core.Path.{◌≡◌, ◌∙◌}
use mathlib.Core.List.{List, [], ◌∷◌, ◌++◌}
use native.Mathlib.Nat.{add_assoc, add-zero, add-suc, suc-add, zero-add}
use native.Mathlib.Omega.{arith}
use lib.ListN.{length, length-map, set, get_or, drop}
use Rattle.bits.specs.Packed.{Entry}
use Rattle.leg.specs.declared.Band.{Band}
use Rattle.leg.specs.Ranges.{no_band}
use Rattle.source.specs.Source.{fields_at, head_widths}
use Rattle.network.specs.InFile.{leg_at}
use Rattle.network.specs.Fields.{band_fields, bands_fields, values}
use Rattle.network.proofs.Fields.{bands-fields-more, bands-count, values-append}
use lib.Seq.{sets, sets-eq}

pub sets-append : (l : List ℕ) (i : ℕ) (vs ws : List ℕ) → sets l i (vs ++ ws) ≡ sets (sets l i vs) (i + length vs) ws
sets-append l i [] ws = rw add-zero
sets-append l i (v ∷ vs) ws = sets-append (set l i v) (suc i) vs ws ∙ rw (add-suc, suc-add)

-- one band more of a leg
pub band-stored : (l : List ℕ) (at k : ℕ) (bs : List Band)
    → sets (sets l at (values (bands_fields k bs))) (at + 2 * k) (values (band_fields (get_or bs k no_band))) ≡ sets l at (values (bands_fields (k + 1) bs))
band-stored l at k bs =
    let vs = values (bands_fields k bs) in
    let size : length vs ≡ 2 * k = length-map (bands_fields k bs) (λ (e : Entry). e.value) ∙ bands-count k bs in
    rw (bands-fields-more, values-append, sets-append l at vs, size)

-- a head's fields are the numbers of the leg that stands there
pub head-fields : (s : List ℕ) (at : ℕ) → fields_at s at head_widths ≡ (leg_at s at).from ∷ (leg_at s at).to ∷ (leg_at s at).time.0 ∷ (leg_at s at).count ∷ []
head-fields s at = rw (add_assoc at 6 6, add_assoc at 12 12)

-- a run of stores from the front
pub front : (l vs : List ℕ) → length vs ≤ length l → sets l 0 vs ≡ vs ++ drop (length vs) l
front l vs h =
    let room : 0 + length vs ≤ length l = omega arith in
    sets-eq vs l 0 room ∙ rw zero-add
