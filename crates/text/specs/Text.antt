-- Text as a list of bytes.
use Rattle.std.specs.Prelude.{ℕ, zero, suc, ◌+◌, ◌/◌, ◌%◌, ◌≤◌, ◌≡◌, cond, List, [], ◌∷◌, ◌++◌, ltb, length, take}
use Rattle.text.specs.declared.Page.{Page}

-- n in decimal without zeros in front, the last k digits at most: a digit d is the byte 48 + d
abbrev pub decimal : ℕ → ℕ → List ℕ
decimal zero n = []
decimal (suc k) n = cond (ltb n 10) ((48 + n) ∷ []) (decimal k (n / 10) ++ ((48 + n % 10) ∷ []))

-- ten digits hold every number of 32 bits
abbrev pub decimal_of : ℕ → List ℕ
decimal_of n = decimal 10 n

-- a word and a number
unfoldable pub item : List ℕ → ℕ → List ℕ
item name n = name ++ decimal_of n

-- a word, a number and a newline
unfoldable pub line : List ℕ → ℕ → List ℕ
line name n = item name n ++ (10 ∷ [])

-- what adding text behind the first `at` bytes leaves: those bytes and the text, up to `to`
pub record Adds (before after : List ℕ) (at to : ℕ) (text : List ℕ) : Type 0 where
  pub same_length : length after ≡ length before
  pub to_is : to ≡ at + length text
  pub fits : to ≤ length after
  pub reads : take to after ≡ take at before ++ text

-- a page has room for n more bytes
abbrev pub HasRoom : Page → ℕ → Type 0
HasRoom page n = page.at + n ≤ length page.out.now

-- text is added to a page, whose bytes stay those that it was lent
pub record Writes (before after : Page) (text : List ℕ) : Type 0 where
  pub adds : Adds before.out.now after.out.now before.at after.at text
  pub same : after.out.ghost_name ≡ before.out.ghost_name
