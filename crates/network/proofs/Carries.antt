-- A source that has given fields: a file and a list of numbers each carry them in one way.
use Prim.Native.Nat.{ℕ, suc, ◌+◌, ◌*◌, ◌≤◌, ◌<◌}
use mathlib.Core.Path.{◌≡◌, refl, sym, ◌∙◌, ap}
use mathlib.Core.Bool.{true}
use mathlib.Core.List.{List, [], ◌∷◌, ◌++◌}
use native.Mathlib.Nat.{add_assoc, add-zero}
use native.Mathlib.Numerals.{add-one}
use native.Mathlib.Omega.{arith}
use borrow.Author.Tests.{ltb-true, lt-ltb, le-leb}
use lib.ListN.{length, drop, length-drop}
use lib.Seq.{drop-cons}
use Rattle.bits.specs.Packed.{Entry, bits_of, Holds}
use Rattle.bits.proofs.Packing.{holds-none, holds-cons, holds-head, holds-tail}
use Rattle.source.specs.Source.{Source, file_of, list_of}
use Rattle.network.specs.Fields.{values}

-- the source has these fields one after another from place `at` on, and `end` is the place after them
abbrev pub Carries : Source → ℕ → List Entry → ℕ → Type 0
Carries src at [] end = at ≡ end
Carries src at (e ∷ es) end =
    (src.has e.width at ≡ true) × (src.value e.width at ≡ e.value) × Carries src (src.after e.width at) es end

module _ (src : Source) where
  pub carries-append : (at : ℕ) (es fs : List Entry) (mid end : ℕ) → Carries src at es mid → Carries src mid fs end → Carries src at (es ++ fs) end
  carries-append at [] fs mid end c d = rw c d
  carries-append at (e ∷ es) fs mid end c d =
      (c.0, c.1, carries-append (src.after e.width at) es fs mid end c.2 d)

  pub carries-split : (at : ℕ) (es fs : List Entry) (end : ℕ) → Carries src at (es ++ fs) end
      → (mid : ℕ) × Carries src at es mid × Carries src mid fs end
  carries-split at [] fs end c = (at, refl, c)
  carries-split at (e ∷ es) fs end c =
      let r = carries-split (src.after e.width at) es fs end c.2 in
      (r.0, (c.0, c.1, r.1), r.2)

-- a file carries the fields that its bits hold
pub holds-of-carried : (s : List ℕ) (at : ℕ) (es : List Entry) (end : ℕ) → Carries (file_of s) at es end → Holds s at es × (end ≡ at + bits_of es)
holds-of-carried s at [] end c = (holds-none s at, sym c ∙ sym (add-zero at))
holds-of-carried s at (e ∷ es) end c =
    let r = holds-of-carried s (at + e.width) es end c.2 in
    (holds-cons s at e es c.1 r.0, r.1 ∙ add_assoc at e.width (bits_of es))

pub carried-of-holds : (s : List ℕ) (at : ℕ) (es : List Entry) (end : ℕ) → Holds s at es → end ≡ at + bits_of es → end ≤ 8 * length s
    → Carries (file_of s) at es end
carried-of-holds s at [] end h e fits = omega arith
carried-of-holds s at (f ∷ es) end h e fits = (
  le-leb (at + f.width) (8 * length s) (omega arith),
  holds-head s at f es h,
  carried-of-holds s (at + f.width) es end (holds-tail s at f es h) (omega arith) fits,
)

-- a list carries the fields whose values stand in it
pub values-of-carried : (l : List ℕ) (at : ℕ) (es : List Entry) (end : ℕ) → Carries (list_of l) at es end → drop at l ≡ values es ++ drop end l
values-of-carried l at [] end c = ap (λ (n : ℕ). drop n l) c
values-of-carried l at (e ∷ es) end c =
    let r : drop (suc at) l ≡ values es ++ drop end l = rw add-one at (values-of-carried l (at + 1) es end c.2) in
    let here = drop-cons l at 0 (ltb-true at (length l) c.0) in
    here ∙ rw (c.1, r)

pub carried-of-values : (l : List ℕ) (at : ℕ) (es : List Entry) → at ≤ length l → drop at l ≡ values es → Carries (list_of l) at es (length l)
carried-of-values l at [] h v = omega (arith, length-drop at l, ap length v)
carried-of-values l at (e ∷ es) h v =
    let more : at < length l = omega (arith, length-drop at l, ap length v) in
    let cons = sym (drop-cons l at 0 more) ∙ v in
    let rest : drop (at + 1) l ≡ values es = rw add-one cc in
    (lt-ltb at (length l) more, cc, carried-of-values l (at + 1) es (omega arith) rest)
