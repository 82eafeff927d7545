-- The toll of the first k bands, one band further: what the loop of `toll_at` and whoever walks a leg's bands goes by.
use Prim.Native.Nat.{ℕ, ◌+◌, ◌≤◌, ◌<◌}
use mathlib.Core.Path.{◌≡◌, refl}
use mathlib.Core.Bool.{Bool, true, false}
use mathlib.Core.List.{List}
use native.Mathlib.Numerals.{add-one}
use borrow.Author.Tests.{le-leb, lt-leb}
use lib.ListN.{get_or}
use Rattle.leg.specs.declared.Band.{Band}
use Rattle.std.specs.Prelude.{Some, None}
use Rattle.std.specs.Bool.{then_some}
use Rattle.leg.specs.Ranges.{no_band}
use Rattle.leg.specs.Toll.{either, toll_of_first}

module _ (k : ℕ) (bands : List Band) (t : ℕ) where
  pub toll-begun : (get_or bands k no_band).start.0 ≤ t → toll_of_first (k + 1) bands t ≡ (get_or bands k no_band).toll.0
  unfolding toll_of_first either
  toll-begun h = rw add-one (rw (le-leb (get_or bands k no_band).start.0 t h, either))

  pub toll-later : t < (get_or bands k no_band).start.0 → toll_of_first (k + 1) bands t ≡ toll_of_first k bands t
  unfolding toll_of_first either
  toll-later h = rw add-one (rw (lt-leb (get_or bands k no_band).start.0 t h, either))

-- what a test's answer tells of the test
pub some-passed : {A : Type 0} (t : Bool) (a b : A) → then_some t a ≡ Some b → (t ≡ true) × (b ≡ a)
some-passed true a b e = (refl, cc)
some-passed false a b e = (cc, cc)

pub none-failed : {A : Type 0} (t : Bool) (a : A) → then_some t a ≡ None → t ≡ false
none-failed true a e = cc
none-failed false a e = refl
