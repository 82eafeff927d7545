-- Document 01, "Files" and "Networks, plans, costs": the network that a file or a list of numbers stands for, or why it stands for none.
use Rattle.std.specs.Prelude.{ℕ, zero, suc, ◌+◌, Bool, List, [], ◌∷◌, ◌++◌, ◌&&◌, leb, ltb, eqb, set}
use Rattle.answer.specs.declared.Refusal.TheVariants.{Edition, Range, Order}
use Rattle.leg.specs.declared.Band.{Band}
use Rattle.leg.specs.declared.Leg.{Leg}
use Rattle.leg.specs.Ranges.{last_minute, most_cents, minute, band_of, no_bands}
use Rattle.source.specs.Source.{file_of, list_of}
use Rattle.network.specs.declared.Head.{Head}
use Rattle.network.specs.declared.Top.{Top}
use Rattle.network.specs.Reading.{Found, Reading, ◌>>=◌, ◌>>◌, give, pick, field, check, end}

-- what differs between editions: the width of the band count, and how many bands a leg may have
pub record Form : Type 0 where
  pub count_width : ℕ
  pub most_bands : ℕ

-- edition 1: a count of 4 bits, 1 to 8 bands
abbrev pub edition1 : Form
edition1 = record { count_width = 4; most_bands = 8 }

-- a network: how many places, and its legs in file order
pub record Network : Type 0 where
  pub places : ℕ
  pub legs : List Leg

-- the first band starts at 0 (`least` is 0); a later one starts above the one before (`least` is one more than that start)
abbrev pub follows : ℕ → ℕ → Bool
follows least start = pick (eqb least 0) (eqb start 0) (leb least start)

-- one band
abbrev pub band : ℕ → Reading Band
band least = do
  start ← field 12
  check (leb start last_minute) Range
  check (follows least start) Order
  toll ← field 16
  check (leb toll most_cents) Range
  give (band_of start toll)

-- a leg that has no band yet
abbrev pub bare : Form → Head → Leg
bare form head =
    record { from = head.from; to = head.to; time = head.time; bands = no_bands form.most_bands; count = 0 }

-- a leg with one band more
abbrev pub with_band : Leg → Band → Leg
with_band leg b =
    record { from = leg.from; to = leg.to; time = leg.time; bands = set leg.bands leg.count b; count = leg.count + 1 }

-- so many bands more
unfoldable pub bands : ℕ → ℕ → Leg → Reading Leg
bands zero least leg = give leg
bands (suc k) least leg = do
  b ← band least
  bands k (b.start.0 + 1) (with_band leg b)

-- the head of a leg
abbrev pub head : Form → ℕ → Reading Head
head form places = do
  from ← field 6
  check (ltb from places) Range
  to ← field 6
  check (ltb to places) Range
  time ← field 12
  check (leb time last_minute) Range
  count ← field form.count_width
  check (leb 1 count && leb count form.most_bands) Range
  give (record { from = from; to = to; time = minute time; count = count })

-- one leg
abbrev pub leg : Form → ℕ → Reading Leg
leg form places = do
  h ← head form places
  bands h.count 0 (bare form h)

-- so many legs more
unfoldable pub legs : Form → ℕ → ℕ → List Leg → Reading (List Leg)
legs form places zero before = give before
legs form places (suc k) before = do
  l ← leg form places
  legs form places k (before ++ (l ∷ []))

-- the head of a network
abbrev pub top : Reading Top
top = do
  edition ← field 8
  check (eqb edition 1) Edition
  places ← field 7
  check (leb 1 places && leb places 64) Range
  count ← field 10
  check (leb count 512) Range
  give (record { places = places; legs = count })

-- the legs, and nothing after them
abbrev pub body : Form → Top → Reading Network
body form t = do
  all ← legs form t.places t.legs []
  end
  give (record { places = t.places; legs = all })

-- a whole network
abbrev pub network : Form → Reading Network
network form = do
  t ← top
  body form t

-- what the bytes of a file stand for
abbrev pub of_file : List ℕ → Found Network
of_file s = network edition1 (file_of s) 0

-- what a list of numbers stands for
abbrev pub of_list : List ℕ → Found Network
of_list l = network edition1 (list_of l) 0
