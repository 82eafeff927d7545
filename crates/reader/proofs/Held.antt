-- A reader as the walks have it: its type at the signature's one lifetime, and the laws of that type.
use mathlib.Core.List.{[], ◌∷◌}
use seplogic.Ra.Ura.{Ura}
use mir.Val.{Val}
use base.Logic.{ent, sep}
use types.Logic.{Logic, sem}
use contract.Lifetimes.{Lfts}
use denote.RattleType.{RattleType}
use denote.Ref.{NamedLft}
use denote.Signature.{named_lft}
use denote.Struct.Declared.{Declared}
use denote.Struct.Laws as LL
use denote.Struct.Values.{Values}
use Rattle.reader.specs.declared.Reader.{Reader}
use Rattle.reader.specs.contracts.Reader as T
use Rattle.reader.proofs.Reader.TheLaws as T'

abbrev pub lft : Lfts 1 → NamedLft
lft κs = named_lft 1 0 tt κs

abbrev pub Row : Lfts 1 → RattleType
Row κs = T.the_row (lft κs)

abbrev pub Its : Lfts 1 → Declared
Its κs = T.the_type (lft κs)

abbrev pub laws : (κs : Lfts 1) → LL.Laws (Its κs)
laws κs = T'.the_laws (lft κs)

-- its two fields, as the laws of a struct take them
abbrev pub fields : (κs : Lfts 1) → Reader → Values (Its κs).parts
fields κs d = (d.file, (d.at, tt))

-- all that it holds is lent, so it may be had twice
pub twice : {M : Type 1} {𝓤 : Ura M} (𝓛 : Logic 𝓤) → (κs : Lfts 1) (d : Reader) (u : Val)
    → ent 𝓤 (sem 𝓛 ((Row κs).own_val d (u ∷ []))) (sep 𝓤 (sem 𝓛 ((Row κs).own_val d (u ∷ []))) (sem 𝓛 ((Row κs).own_val d (u ∷ []))))
twice 𝓛 κs d u = (LL.copy (Its κs) (T'.the_copy (lft κs)) 𝓛).twice d (u ∷ [])
