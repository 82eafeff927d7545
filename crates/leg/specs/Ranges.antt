-- What a minute, a toll and a leg's bands may hold (document 01, "Networks, plans, costs").
use Rattle.std.specs.Prelude.{ℕ, List, Option, leb, replicate, ◌&&◌}
use Rattle.std.specs.Bool.{then_some}
use Rattle.leg.specs.declared.Minute.{Minute}
use Rattle.leg.specs.declared.Cents.{Cents}
use Rattle.leg.specs.declared.Band.{Band}
use Rattle.leg.specs.declared.Leg.{Leg}

-- time is whole minutes, 0 to this one
abbrev pub last_minute : ℕ
last_minute = 2879

-- a toll is at most this many cents
abbrev pub most_cents : ℕ
most_cents = 65535

-- a leg has 1 to this many bands
abbrev pub most_bands : ℕ
most_bands = 8

-- the code's minute n
abbrev pub minute : ℕ → Minute
minute n = record { 0 = n }

-- the code's n cents
abbrev pub cents : ℕ → Cents
cents n = record { 0 = n }

-- the minute n, if it is one
abbrev pub minute_of : ℕ → Option Minute
minute_of n = then_some (leb n last_minute) (minute n)

-- a toll of n cents, if it is in range
abbrev pub cents_of : ℕ → Option Cents
cents_of n = then_some (leb n most_cents) (cents n)

-- n bands, if a leg may have as many
abbrev pub count_of : ℕ → Option ℕ
count_of n = then_some (leb 1 n && leb n most_bands) n

-- a band that starts at this minute and has this toll
abbrev pub band_of : ℕ → ℕ → Band
band_of start toll = record { start = minute start; toll = cents toll }

-- what stands where a leg has no band
abbrev pub no_band : Band
no_band = band_of 0 0

-- so many places with no band
abbrev pub no_bands : ℕ → List Band
no_bands n = replicate n no_band

-- a leg between two places with this driving time and these bands, of which so many are the leg's
abbrev pub leg_of : ℕ → ℕ → ℕ → List Band → ℕ → Leg
leg_of from to time bands count = record { from = from; to = to; time = minute time; bands = bands; count = count }
