-- The toll of a leg at a minute (document 01, "Networks, plans, costs").
use Rattle.std.specs.Prelude.{ℕ, zero, suc, Bool, true, false, List, leb, get_or}
use Rattle.leg.specs.declared.Band.{Band}
use Rattle.leg.specs.declared.Leg.{Leg}
use Rattle.leg.specs.Ranges.{no_band}

-- a if the test holds, b if not
unfoldable pub either : Bool → ℕ → ℕ → ℕ
either true a b = a
either false a b = b

-- the toll of the last of the first k bands whose start is not later than the minute
unfoldable pub toll_of_first : ℕ → List Band → ℕ → ℕ
toll_of_first zero bands t = 0
toll_of_first (suc k) bands t = either (leb (get_or bands k no_band).start.0 t) (get_or bands k no_band).toll.0 (toll_of_first k bands t)

-- the toll of a leg at a minute: that of the last band whose start is not later
abbrev pub toll_at : Leg → ℕ → ℕ
toll_at leg t = toll_of_first leg.count leg.bands t
