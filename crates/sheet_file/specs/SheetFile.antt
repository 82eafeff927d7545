-- Document 01, "Files": the sheet that a file stands for, for a network of so many places and a query, or nothing.
use Rattle.std.specs.Prelude.{ℕ, zero, suc, ◌+◌, ◌&&◌, List, [], ◌∷◌, leb, ltb, eqb}
use Rattle.answer.specs.declared.Refusal.TheVariants.{SheetFile}
use Rattle.source.specs.Source.{file_of}
use Rattle.network.specs.Reading.{Found, Reading, ◌>>=◌, ◌>>◌, give, field, check, end}
use Rattle.plan.specs.Network.{Minute, Cents, Query}
use Rattle.plan.specs.Sheet.{Step}

-- one step: its minute is from `low` to latest, its cost below `limit`
abbrev pub step : Minute → Minute → Cents → Reading Step
step low latest limit = do
  minute ← field 12
  check (leb low minute && leb minute latest) SheetFile
  price ← field 32
  check (ltb price limit) SheetFile
  give (record { minute = minute; price = price })

-- so many steps: minutes rise strictly and costs fall strictly
unfoldable pub steps : ℕ → Minute → Minute → Cents → Reading (List Step)
steps zero low latest limit = give []
steps (suc k) low latest limit = do
  s ← step low latest limit
  rest ← steps k (s.minute + 1) latest s.price
  give (s ∷ rest)

-- what every cost of 32 bits is below
abbrev pub any_cost : Cents
any_cost = 4294967296

-- the steps of one place, 2,880 at most
abbrev pub one_place : Query → Reading (List Step)
one_place q = do
  count ← field 12
  check (leb count 2880) SheetFile
  steps count q.earliest q.latest any_cost

-- the steps of so many places
unfoldable pub places : ℕ → Query → Reading (List (List Step))
places zero q = give []
places (suc k) q = do
  ss ← one_place q
  rest ← places k q
  give (ss ∷ rest)

-- the head: edition 1 and the network's places
abbrev pub top : ℕ → Reading Unit
top n = do
  edition ← field 8
  check (eqb edition 1) SheetFile
  count ← field 7
  check (eqb count n) SheetFile

-- the places after the head, and nothing after them
abbrev pub body : ℕ → Query → Reading (List (List Step))
body n q = do
  all ← places n q
  end
  give all

-- a whole sheet file
abbrev pub sheet_reading : ℕ → Query → Reading (List (List Step))
sheet_reading n q = do
  top n
  body n q

-- what the bytes stand for
abbrev pub sheet_of : ℕ → Query → List ℕ → Found (List (List Step))
sheet_of n q s = sheet_reading n q (file_of s) 0
