-- Cards that hold the steps of two places and the bands of the leg between them.
use Rattle.std.specs.Prelude.{ℕ, ◌+◌, ◌≤◌, ◌<◌, ◌≡◌, Bool, ◌⊎◌, List, [], ◌∷◌, Option}
use Rattle.std.specs.Option.{unwrap_or}
use Rattle.leg.specs.declared.Cents.{Cents}
use Rattle.leg.specs.declared.Leg.{Leg}
use Rattle.leg.specs.Price.{price_of}
use Rattle.leg.specs.Ranges.{cents}
use Rattle.leg.specs.Toll.{toll_at}
use Rattle.plan.specs.Network.{Minute, Query}
use Rattle.plan.specs.Sheet.{Step, value, Steps}
use Rattle.card.specs.declared.Card.{Card}
use Rattle.card.specs.Card.{never}
use Rattle.card.specs.One.{ShownOn, begins}
use Rattle.rule_b.specs.Rule.{Is, RuleAt, RuleB}
use Rattle.rule_cards.specs.declared.leg_cards.LegCards.{LegCards}

-- what a place's card shows is the value that these steps have
abbrev pub HoldsSteps : Card → List Step → Type 0
HoldsSteps c ss = (t : Minute) (r : Option Cents) → t < never → ShownOn c t r → value ss t ≡ price_of r

-- the toll where a leg's card shows this: before the first band there is none
abbrev pub toll_shown : Option Cents → ℕ
toll_shown r = (unwrap_or r (cents 0)).0

-- what a leg's card shows is the toll that it has
abbrev pub HoldsTolls : Card → Leg → Type 0
HoldsTolls c leg = (t : Minute) (r : Option Cents) → t < never → ShownOn c t r → toll_at leg t ≡ toll_shown r

-- the cards are those of these steps and this leg
pub record CardsOf (c : LegCards) (i j : List Step) (leg : Leg) : Type 0 where
  pub i_held : HoldsSteps c.from i
  pub j_held : HoldsSteps c.to j
  pub leg_held : HoldsTolls c.bands leg
  pub time_is : leg.time.0 ≡ c.time.0

-- rule (b) at a departure, if it arrives by latest
abbrev pub RuleIf : Minute → Leg → List Step → List Step → Minute → Type 0
RuleIf latest leg i j d = d + leg.time.0 ≤ latest → RuleAt leg i j d

-- what a test says of a departure
abbrev pub Tested : LegCards → Minute → Bool → Type 0
Tested c d r = (i j : List Step) (leg : Leg) → CardsOf c i j leg → Is r (RuleIf c.latest.0 leg i j d)

-- the rule where each of the first slots of a card begins
abbrev pub RuleOn : Minute → Card → ℕ → List Step → List Step → Leg → Type 0
RuleOn latest slots count i j leg = (k : ℕ) → k < count → RuleIf latest leg i j (begins slots k)

-- what a test says of those
abbrev pub TestedOn : LegCards → Card → ℕ → Bool → Type 0
TestedOn c slots count r = (i j : List Step) (leg : Leg) → CardsOf c i j leg → Is r (RuleOn c.latest.0 slots count i j leg)

-- the rule at each step and where each band starts
pub record RuleAtAll (from bands_on : Card) (latest : Minute) (steps bands : ℕ) (i j : List Step) (leg : Leg) : Type 0 where
  pub at_steps : RuleOn latest from steps i j leg
  pub at_bands : RuleOn latest bands_on bands i j leg

-- what a test says of all of them
abbrev pub AllTested : LegCards → ℕ → ℕ → Bool → Type 0
AllTested c steps bands r =
    (i j : List Step) (leg : Leg) → CardsOf c i j leg → Is r (RuleAtAll c.from c.bands c.latest.0 steps bands i j leg)

-- a minute of one of these steps
abbrev pub StepAt : List Step → Minute → Type 0
StepAt [] m = ⊥
StepAt (x ∷ xs) m = (m ≡ x.minute) ⊎ StepAt xs m

-- two cards hold the steps of two places, the first of them `steps` steps
pub record Joins (from to : Card) (steps : ℕ) (i j : List Step) : Type 0 where
  pub i_held : HoldsSteps from i
  pub j_held : HoldsSteps to j
  pub all : (m : Minute) → StepAt i m → (k : ℕ) × (k < steps) × (m ≡ begins from k)
  pub window : Query
  pub falls : Steps window j

-- what a test says of a leg between two places
abbrev pub LegTested : Card → Card → ℕ → Leg → Minute → Bool → Type 0
LegTested from to steps leg latest r =
    (i j : List Step) → Joins from to steps i j → Is r (RuleB latest leg i j)
