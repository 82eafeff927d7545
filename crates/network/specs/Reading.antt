-- Reading fields one after another, as document 01 orders the faults: at one field short, then its range, then 4.
use Rattle.std.specs.Prelude.{ℕ, Bool, true, false}
use Rattle.answer.specs.declared.Refusal.{Refusal}
use Rattle.answer.specs.declared.Refusal.TheVariants.{Short, Tail}
use Rattle.source.specs.Source.{Source}

-- what a reading comes to: a refusal, or what was found and the place after it
pub data Found (A : Type 0) : Type 0 where
  refused : Refusal → Found A
  found : A → ℕ → Found A

-- a reading from a place of a source
abbrev pub Reading : Type 0 → Type 0
Reading A = Source → ℕ → Found A

-- what was found is handed on; a refusal stays
abbrev pub next : {A B : Type 0} → Found A → (A → ℕ → Found B) → Found B
next (refused why) k = refused why
next (found a at) k = k a at

infixl 1 ◌>>=◌ ◌>>◌
-- one reading, then another that may go by what the first found
abbrev pub ◌>>=◌ : {A B : Type 0} → Reading A → (A → Reading B) → Reading B
◌>>=◌ m k = λ src at. next (m src at) (λ a at'. k a src at')

-- the same, where what was found is not wanted
abbrev pub ◌>>◌ : {A B : Type 0} → Reading A → Reading B → Reading B
◌>>◌ m k = m >>= λ _. k

-- nothing is read
abbrev pub give : {A : Type 0} → A → Reading A
give a = λ src at. found a at

-- one of two by a test
abbrev pub pick : {A : Type 0} → Bool → A → A → A
pick true a b = a
pick false a b = b

-- the next field, of this width: short where a bit of it is missing
abbrev pub field : ℕ → Reading ℕ
field width = λ src at. pick (src.has width at) (found (src.value width at) (src.after width at)) (refused Short)

-- refuses where the test fails
abbrev pub check : Bool → Refusal → Reading Unit
check ok why = λ src at. pick ok (found tt at) (refused why)

-- the source ends here, but for fill
abbrev pub end : Reading Unit
end = λ src at. pick (src.ends at) (found tt at) (refused Tail)
