-- A cost that may be missing, as the code has it and as the theory does.
use Rattle.std.specs.Prelude.{ℕ, Option, Some, None}
use Rattle.std.proofs.Math.Option.{Option as Price, none, some}
use Rattle.leg.specs.declared.Cents.{Cents}

-- a cost that the code may have, as the theory's
abbrev pub price_of : Option Cents → Price ℕ
price_of (Some x) = some x.0
price_of None = none
