-- The window of a query is as wide as the query.
use Prim.Native.Nat.{ℕ, ◌+◌, ◌-◌}
use mathlib.Core.Path.{◌≡◌, ap, ◌∙◌}
use Rattle.leg.specs.declared.Window.{Window}
use Rattle.plan.specs.Table.{width}
use Rattle.plan_file.specs.declared.Query.{Query}
use Rattle.plan_file.specs.PlanFile.{query_of, window_of}

pub wide : (a : Query) (w : Window) (n : ℕ) → w ≡ window_of a → n ≡ w.latest.0 - w.earliest.0 + 1 → n ≡ width (query_of a)
wide a w n is columns = columns ∙ ap (λ (x : Window). x.latest.0 - x.earliest.0 + 1) is
