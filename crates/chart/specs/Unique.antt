-- That a chart is right is one fact: it has one proof at most, so that a type can keep it.
use Rattle.std.specs.Prelude.{ℕ, ◌≡◌, List}
use mathlib.Core.Path.{sym, ap, ◌∙◌}
use mathlib.Core.HLevel.{Σ_prop_path}
use Rattle.std.specs.Coded.{le_prop}
use Rattle.std.proofs.Props.{props}
use Rattle.leg.specs.declared.Leg.{Leg}
use Rattle.network.specs.Reading.{Found, refused, found}
use Rattle.network.specs.Network.{Network}
use Rattle.chart.specs.Chart.{Charted, Chart}

-- where a leg that was found ends
abbrev pub end_of : Found Leg → ℕ
end_of (refused why) = 0
end_of (found l end) = end

-- a leg that was found ends at one place
pub one_end : (x : Found Leg) (l : Leg) → IsProp ((end : ℕ) × (x ≡ found l end))
one_end x l = λ u v. Σ_prop_path (λ n. Prim.hlevel props) (ap end_of (sym u.1 ∙ v.1))

pub charted_once : (s : List ℕ) (net : Network) (chart : List ℕ) → IsProp (Charted s net chart)
charted_once s net chart = λ a b. λ i. record {
  stands = λ k h. one_end _ _ (a.stands k h) (b.stands k h) i;
  near = λ k. le_prop (a.near k) (b.near k) i;
}

pub chart_once : (s chart : List ℕ) → IsProp (Chart s chart)
chart_once s chart = λ a b. λ i. λ net end e. charted_once s net chart (a net end e) (b net end e) i
