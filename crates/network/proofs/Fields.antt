-- How many fields and bits a network has, and its fields one band and one leg further.
use Prim.Native.Nat.{ℕ, zero, suc, ◌+◌, ◌*◌}
use mathlib.Core.Path.{◌≡◌, refl, sym, ◌∙◌, ap}
use mathlib.Core.List.{List, [], ◌∷◌, ◌++◌, append_assoc, append-nil}
use native.Mathlib.Numerals.{add-one}
use native.Mathlib.Omega.{arith}
use lib.ListN.{length, length-append, length-map, get_or}
use Rattle.bits.specs.Packed.{Entry, bits_of}
use Rattle.bits.proofs.Packing.{bits-append}
use Rattle.leg.specs.declared.Band.{Band}
use Rattle.leg.specs.declared.Leg.{Leg}
use Rattle.leg.specs.Ranges.{no_band}
use Rattle.network.specs.Network.{Form, Network, edition1}
use Rattle.network.specs.Answers.{bands_of}
use Rattle.network.specs.Fields.{band_fields, bands_fields, leg_fields, legs_fields, fields_of, values, numbers_of}

pub bands-fields-more : (k : ℕ) (bs : List Band) → bands_fields (k + 1) bs ≡ bands_fields k bs ++ band_fields (get_or bs k no_band)
unfolding bands_fields
bands-fields-more k bs = rw add-one

pub legs-fields-more : (form : Form) (before : List Leg) (l : Leg) → legs_fields form (before ++ (l ∷ [])) ≡ legs_fields form before ++ leg_fields form l
unfolding legs_fields
legs-fields-more form [] l = append-nil (leg_fields form l)
legs-fields-more form (b ∷ bs) l =
    ap (λ (es : List Entry). leg_fields form b ++ es) (legs-fields-more form bs l) ∙ sym (append_assoc (leg_fields form b) (legs_fields form bs) (leg_fields form l))

pub bands-count : (k : ℕ) (bs : List Band) → length (bands_fields k bs) ≡ 2 * k
unfolding bands_fields
bands-count zero bs = refl
bands-count (suc k) bs = omega (arith, length-append (bands_fields k bs) (band_fields (get_or bs k no_band)), bands-count k bs)

pub bands-bits : (k : ℕ) (bs : List Band) → bits_of (bands_fields k bs) ≡ 28 * k
unfolding bands_fields
bands-bits zero bs = refl
bands-bits (suc k) bs = omega (arith, bits-append (bands_fields k bs) (band_fields (get_or bs k no_band)), bands-bits k bs)

pub leg-count : (l : Leg) → length (leg_fields edition1 l) ≡ 4 + 2 * l.count
leg-count l = omega (arith, bands-count l.count l.bands)

pub leg-bits : (l : Leg) → bits_of (leg_fields edition1 l) ≡ 28 + 28 * l.count
leg-bits l = omega (arith, bands-bits l.count l.bands)

pub legs-count : (ls : List Leg) → length (legs_fields edition1 ls) ≡ 4 * length ls + 2 * bands_of ls
unfolding legs_fields
legs-count [] = refl
legs-count (l ∷ ls) = omega (arith, length-append (leg_fields edition1 l) (legs_fields edition1 ls), leg-count l, legs-count ls)

pub legs-bits : (ls : List Leg) → bits_of (legs_fields edition1 ls) ≡ 28 * length ls + 28 * bands_of ls
unfolding legs_fields
legs-bits [] = refl
legs-bits (l ∷ ls) = omega (arith, bits-append (leg_fields edition1 l) (legs_fields edition1 ls), leg-bits l, legs-bits ls)

-- a network's numbers and bits
pub network-count : (net : Network) → length (numbers_of edition1 net) ≡ 3 + 4 * length net.legs + 2 * bands_of net.legs
network-count net =
    length-map (fields_of edition1 net) (λ (e : Entry). e.value) ∙ omega (arith, legs-count net.legs)

pub network-bits : (net : Network) → bits_of (fields_of edition1 net) ≡ 25 + 28 * length net.legs + 28 * bands_of net.legs
network-bits net = omega (arith, legs-bits net.legs)

pub values-append : (es fs : List Entry) → values (es ++ fs) ≡ values es ++ values fs
values-append [] fs = refl
values-append (e ∷ es) fs = ap (λ (l : List ℕ). e.value ∷ l) (values-append es fs)
