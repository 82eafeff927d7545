-- A network's fields in file order, each with its width: document 01's table.
use Rattle.std.specs.Prelude.{ℕ, zero, suc, List, [], ◌∷◌, ◌++◌, map, length, get_or}
use Rattle.bits.specs.Packed.{Entry}
use Rattle.leg.specs.declared.Band.{Band}
use Rattle.leg.specs.declared.Leg.{Leg}
use Rattle.leg.specs.Ranges.{no_band}
use Rattle.network.specs.Network.{Form, Network}

-- a field of so many bits that holds this number
abbrev pub ◌bits:◌ : ℕ → ℕ → Entry
◌bits:◌ width value = record { width = width; value = value }

infixl 20 ◌bits:◌
-- one band: start, toll
abbrev pub band_fields : Band → List Entry
band_fields b = (12 bits: b.start.0) ∷ (16 bits: b.toll.0) ∷ []

-- the fields of the first k bands
unfoldable pub bands_fields : ℕ → List Band → List Entry
bands_fields zero bands = []
bands_fields (suc k) bands = bands_fields k bands ++ band_fields (get_or bands k no_band)

-- the head of a leg: from, to, driving time, number of bands
abbrev pub head_fields : Form → Leg → ℕ → List Entry
head_fields form leg count = (6 bits: leg.from) ∷ (6 bits: leg.to) ∷ (12 bits: leg.time.0) ∷ (form.count_width bits: count) ∷ []

-- one leg: its head, then its bands
abbrev pub leg_fields : Form → Leg → List Entry
leg_fields form leg = head_fields form leg leg.count ++ bands_fields leg.count leg.bands

-- the legs, one after another
unfoldable pub legs_fields : Form → List Leg → List Entry
legs_fields form [] = []
legs_fields form (l ∷ ls) = leg_fields form l ++ legs_fields form ls

-- the head of a network: edition, places, number of legs
abbrev pub top_fields : ℕ → ℕ → List Entry
top_fields places count = (8 bits: 1) ∷ (7 bits: places) ∷ (10 bits: count) ∷ []

-- the whole network
abbrev pub fields_of : Form → Network → List Entry
fields_of form net = top_fields net.places (length net.legs) ++ legs_fields form net.legs

-- a network's numbers, as the read call lists them
abbrev pub values : List Entry → List ℕ
values es = map (λ (e : Entry). e.value) es

-- the same as numbers alone
abbrev pub numbers_of : Form → Network → List ℕ
numbers_of form net = values (fields_of form net)
