-- A leg where it stands in a sound network file: what a reading in place goes by.
use Rattle.std.specs.Prelude.{ℕ, zero, suc, ◌+◌, ◌*◌, ◌≤◌, ◌<◌, ◌≡◌, List, [], ◌∷◌, length, get_or}
use Rattle.bits.specs.Field.{field}
use Rattle.leg.specs.declared.Band.{Band}
use Rattle.leg.specs.declared.Leg.{Leg}
use Rattle.leg.specs.Ranges.{minute, band_of, no_band}

-- the band at a bit
abbrev pub band_at : List ℕ → ℕ → Band
band_at s at = band_of (field s at 12) (field s (at + 12) 16)

-- so many bands from a bit on
unfoldable pub bands_at : List ℕ → ℕ → ℕ → List Band
bands_at s at zero = []
bands_at s at (suc k) = band_at s at ∷ bands_at s (at + 28) k

-- the leg at a bit: from 6, to 6, driving time 12, bands 4, and then the bands
abbrev pub leg_at : List ℕ → ℕ → Leg
leg_at s at =
    record {
      from = field s at 6;
      to = field s (at + 6) 6;
      time = minute (field s (at + 12) 12);
      bands = bands_at s (at + 28) (field s (at + 24) 4);
      count = field s (at + 24) 4;
    }

-- all of it is there, and it has so many bands
pub record LegThere (s : List ℕ) (at count : ℕ) : Type 0 where
  pub near : at ≤ 1000000
  pub few : count ≤ 8
  pub count_is : count ≡ field s (at + 24) 4
  pub inside : at + 28 + 28 * count ≤ 8 * length s

-- the fields from a bit on are those of this leg, and all of them are there
pub record Same (s : List ℕ) (at : ℕ) (l : Leg) : Type 0 where
  pub from_is : field s at 6 ≡ l.from
  pub to_is : field s (at + 6) 6 ≡ l.to
  pub time_is : field s (at + 12) 12 ≡ l.time.0
  pub count_is : field s (at + 24) 4 ≡ l.count
  pub band_is : (k : ℕ) → k < l.count → band_at s (at + 28 + 28 * k) ≡ get_or l.bands k no_band
  pub inside : at + 28 + 28 * l.count ≤ 8 * length s
