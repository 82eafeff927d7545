-- What `field` and `pair` do with a reader: the calls of `open`, `take` and `past`, each with what is passed, that it may be called, and what it then says.
use mathlib.Core.Path.{◌≡◌, refl, sym, ap, subst, ◌∙◌}
use Prim.Native.Nat.{ℕ, ◌+◌, ◌*◌, ◌≤◌, ◌<◌, ◌^◌}
use mathlib.Core.List.{List, [], ◌∷◌}
use lib.ListN.{length}
use seplogic.Ra.Ura.{Ura}
use mir.Syntax.{named, w8, w64}
use mir.Val.{Val, vint}
use base.Logic.{SProp, ent, sep, snd∗, ex_e}
use base.Fml.{Lft, Share, Fml, ftrue, flft}
use prog.Memory.{Memory}
use prog.Routine.{Routine}
use types.Logic.{Logic, sem}
use contract.Monad.{Fun, fact}
use types.Kit.{‵, raw, ◌⊛◌, ⋆, ◌$◌, ◌∵◌, !, qed, move, use1, use2, split, join, fjoin, frame, done}
use denote.RattleType.{owns}
use denote.Laws.{Is}
use denote.Plain.{uint_Makes, uint_row_laws}
use denote.Builtin.{u8, usize}
use denote.Ref.{Bor}
use denote.Slice.{slice_val, ShrSlice, shr_slice_copy}
use denote.Steps.{nothing, owned}
use denote.Triple.Statement.{Contract}
use denote.Triple.Spec.{triple_of}
use denote.Triple.Walked.{says}
use denote.Triple.Clauses.{ensured, lasts}
use Rattle.bits.specs.Field.{field}
use Rattle.reader.specs.declared.Reader.{Reader}
use Rattle.reader.proofs.Held as held
use Rattle.reader.specs.contracts.open as opening
use Rattle.reader.specs.contracts.Reader.take as take
use Rattle.reader.specs.contracts.Reader.past as past

-- a field of n bits at the reader's bit is there
abbrev pub Room : Reader → ℕ → Type 0
Room r n = (1 ≤ n) × (n ≤ 32) × (r.at + n ≤ 8 * length r.file.now)

abbrev pub Opened : Bor (List ℕ) → ℕ → Reader → Type 0
Opened s n r = (r.file ≡ s) × (r.at ≡ n)

abbrev pub Found : Reader → ℕ → ℕ → Type 0
Found r n x = x ≡ field r.file.now r.at n

abbrev pub Behind : Reader → ℕ → Reader → Type 0
Behind r n r' = (r'.file ≡ r.file) × (r'.at ≡ r.at + n)

-- a reader that was opened on s at bit n: the field is there, and is the field of s
pub room-there : (s : Bor (List ℕ)) (at : ℕ) (r : Reader) → Opened s at r → (n : ℕ) → (1 ≤ n) × (n ≤ 32) × (at + n ≤ 8 * length s.now) → Room r n
room-there s at r (same, here) n (some, few, there) =
    (some, few, subst (λ (f : Bor (List ℕ)). r.at + n ≤ 8 * length f.now) (sym same) (subst (λ (a : ℕ). a + n ≤ 8 * length s.now) (sym here) there))

pub field-there : (s : Bor (List ℕ)) (at : ℕ) (r : Reader) → Opened s at r → (n : ℕ) → field r.file.now r.at n ≡ field s.now at n
field-there s at r (same, here) n = ap (λ (f : Bor (List ℕ)). field f.now r.at n) same ∙ ap (λ (a : ℕ). field s.now a n) here

-- the reader behind a field is as one opened there
pub opened-behind : (s : Bor (List ℕ)) (at : ℕ) (r : Reader) → Opened s at r → (n : ℕ) (r' : Reader) → Behind r n r' → Opened s (at + n) r'
opened-behind s at r (same, here) n r' (same', here') = (same' ∙ same, here' ∙ ap (λ (a : ℕ). a + n) here)

module _ {M : Type 1} {𝓤 : Ura M} (𝓛 : Logic 𝓤) (mem : Memory → SProp 𝓤) (run : Routine → Fun 𝓤) where
  abbrev pub Open : Contract 𝓤
  Open = triple_of 𝓛 opening.signature (opening.spec 𝓛 mem run)

  abbrev pub Take : Contract 𝓤
  Take = triple_of 𝓛 take.signature (take.spec 𝓛 mem run)

  abbrev pub Past : Contract 𝓤
  Past = triple_of 𝓛 past.signature (past.spec 𝓛 mem run)

module _ {M : Type 1} {𝓤 : Ura M} (𝓛 : Logic 𝓤) (mem : Memory → SProp 𝓤) (run : Routine → Fun 𝓤) (κ : Lft) (q : Share) where
  abbrev pub Lent : Bor (List ℕ) → Fml
  Lent s = (ShrSlice (named 0) κ u8).own_val s (slice_val s.ref_ptr (length s.now) ∷ [])

  -- `open`; the slice is kept, since it may be had twice
  abbrev pub to_open : Bor (List ℕ) → ℕ → (Open 𝓛 mem run).Ghost
  to_open s n = (((κ, tt), (q, tt), tt, (s, (n, tt)), (slice_val s.ref_ptr (length s.now) ∷ [], (vint w64 n ∷ [], tt))), tt)

  pub opens : (s : Bor (List ℕ)) (n : ℕ) → n < 2 ^ 64 → ent 𝓤 (⋆ 𝓛 ((‵ (flft κ q) ⊛ ‵ ftrue) ∷ ‵ (Lent s) ∷ [])) (sep 𝓤 ((Open 𝓛 mem run).pre (to_open s n)) (sem 𝓛 (Lent s)))
  opens s n ok =
      qed 𝓛 ((‵ (flft κ q) ⊛ ‵ ftrue) ∷ ‵ (Lent s) ∷ []) ∵
      move ! (1 ∷ []) $ use1 𝓛 (‵ (Lent s) ⊛ ‵ (Lent s)) ((shr_slice_copy 𝓛 (named 0) κ u8 (uint_row_laws w8)).twice s _) $ split ! $
      nothing ! $ owned ! usize (Is usize) (uint_Makes 𝓛 w64) n _ (refl, ok) $ fjoin ! $ move ! (1 ∷ 0 ∷ []) $ fjoin ! $ move ! (2 ∷ 0 ∷ []) $
      use2 𝓛 (raw ((Open 𝓛 mem run).pre (to_open s n))) (qed 𝓛 ((‵ (flft κ q) ⊛ ‵ ftrue) ∷ ‵ (owns (ShrSlice (named 0) κ u8 ∷ usize ∷ []) (s, (n, tt)) (slice_val s.ref_ptr (length s.now) ∷ [], (vint w64 n ∷ [], tt))) ∷ []) ∵ join ! $ frame ! $ done !) $ frame ! $ done !

  pub open_said : (s : Bor (List ℕ)) (n : ℕ) (r : Reader) → ent 𝓤 (ensured 𝓛 opening.ended (opening.clauses 𝓛 mem run) (κ, tt) (s, (n, tt)) tt r) (fact 𝓤 (Opened s n r))
  open_said s n r = ex_e 𝓤 _ (λ ws. snd∗ 𝓤 (sem 𝓛 (lasts opening.ended (κ, tt) (s, (n, tt)) ws)) (fact 𝓤 (Opened s n r)))

  -- `take`, at the reader r with the machine value u
  abbrev pub to_take : Reader → Val → ℕ → (Take 𝓛 mem run).Ghost
  to_take r u n = (((κ, tt), (q, tt), tt, (r, (n, tt)), (u ∷ [], (vint w64 n ∷ [], tt))), tt)

  pub takes : (r : Reader) (u : Val) (n : ℕ) → n < 2 ^ 64 → Room r n → ent 𝓤 (⋆ 𝓛 (‵ ((held.Row (κ, tt)).own_val r (u ∷ [])) ∷ (‵ (flft κ q) ⊛ ‵ ftrue) ∷ [])) ((Take 𝓛 mem run).pre (to_take r u n))
  takes r u n ok room =
      qed 𝓛 (‵ ((held.Row (κ, tt)).own_val r (u ∷ [])) ∷ (‵ (flft κ q) ⊛ ‵ ftrue) ∷ []) ∵ says ! room $
      nothing ! $ owned ! usize (Is usize) (uint_Makes 𝓛 w64) n _ (refl, ok) $ fjoin ! $ move ! (1 ∷ 0 ∷ []) $ fjoin ! $ move ! (1 ∷ 0 ∷ []) $ frame ! $ done !

  pub take-said : (r : Reader) (n x : ℕ) → ent 𝓤 (ensured 𝓛 take.ended (take.clauses 𝓛 mem run) (κ, tt) (r, (n, tt)) tt x) (fact 𝓤 (Found r n x))
  take-said r n x = ex_e 𝓤 _ (λ ws. snd∗ 𝓤 (sem 𝓛 (lasts take.ended (κ, tt) (r, (n, tt)) ws)) (fact 𝓤 (Found r n x)))

  -- `past`, likewise
  abbrev pub to_past : Reader → Val → ℕ → (Past 𝓛 mem run).Ghost
  to_past r u n = (((κ, tt), (q, tt), tt, (r, (n, tt)), (u ∷ [], (vint w64 n ∷ [], tt))), tt)

  pub pasts : (r : Reader) (u : Val) (n : ℕ) → n < 2 ^ 64 → r.at + n < 2 ^ 64 → ent 𝓤 (⋆ 𝓛 (‵ ((held.Row (κ, tt)).own_val r (u ∷ [])) ∷ (‵ (flft κ q) ⊛ ‵ ftrue) ∷ [])) ((Past 𝓛 mem run).pre (to_past r u n))
  pasts r u n ok room =
      qed 𝓛 (‵ ((held.Row (κ, tt)).own_val r (u ∷ [])) ∷ (‵ (flft κ q) ⊛ ‵ ftrue) ∷ []) ∵ says ! room $
      nothing ! $ owned ! usize (Is usize) (uint_Makes 𝓛 w64) n _ (refl, ok) $ fjoin ! $ move ! (1 ∷ 0 ∷ []) $ fjoin ! $ move ! (1 ∷ 0 ∷ []) $ frame ! $ done !

  pub past-said : (r : Reader) (n : ℕ) (r' : Reader) → ent 𝓤 (ensured 𝓛 past.ended (past.clauses 𝓛 mem run) (κ, tt) (r, (n, tt)) tt r') (fact 𝓤 (Behind r n r'))
  past-said r n r' = ex_e 𝓤 _ (λ ws. snd∗ 𝓤 (sem 𝓛 (lasts past.ended (κ, tt) (r, (n, tt)) ws)) (fact 𝓤 (Behind r n r')))
