-- The steps of the walk back, over the program's values: stop, ride, wait.
use Prim.Native.Nat.{ℕ, ◌+◌, ◌*◌, ◌%◌, ◌≤◌, ◌<◌}
use native.Mathlib.Omega.{arith}
use mathlib.Core.Path.{◌≡◌, sym, ◌∙◌, subst}
use mathlib.Core.Logic.{◌≢◌}
use mathlib.Core.List.{List, [], ◌∷◌}
use lib.ListN.{length, get_or}
use Rattle.plan.specs.Network.{Minute, Network, Query, Within}
use Rattle.plan.specs.Table.{no_plan}
use Rattle.plan.proofs.Standing.{at_source}
use Rattle.plan.proofs.Walk.{Best, best-stop, best-wait, best-ride, legs-fall, no-legs, shown}
use Rattle.plan_file.specs.Puts.{Puts}
use Rattle.plan_file.specs.PlanFile.{ride_of, ride_fields}
use Rattle.plan_file.proofs.Files.{puts-no-rides, puts-ride}
use Rattle.chart.proofs.Net.{legs-are, few_legs}
use Rattle.walk.proofs.Nets.{in_table}
use Rattle.walk.specs.declared.Hop.{Hop}
use Rattle.walk.specs.declared.Walk.{Walk}
use Rattle.walk.specs.Cells.{InTable, FirstLike}
use Rattle.walk.specs.Walk.{theory_of, asked_of, cells_of, Walkable, Departing, Arriving, Hops, Walked}

module _ (walk : Walk) where
  abbrev N : Network
  N = theory_of walk

  abbrev q : Query
  q = asked_of walk

  abbrev c : ℕ → Minute → ℕ
  c = cells_of walk

  -- a cell of the window is in the table
  pub cell-there : Walkable walk → (p : ℕ) (t : Minute) → Within N q p t → InTable walk.table.cells.now q p t
  cell-there w p t win = in_table walk.tariff.net.now walk.tariff.size walk.tariff.sound q walk.table.cells.now w.room w.last p t win

  -- what the ride found leaves from, one leg fewer
  pub record Earlier (p : ℕ) (t : Minute) (hop : Hop) : Type 0 where
    pub departing : Departing walk hop.from hop.departure.0
    pub fewer : cells_of walk p t % 64 ≡ cells_of walk hop.from hop.departure.0 % 64 + 1
    pub leg_small : hop.leg < 512
    pub soon : hop.departure.0 ≤ 2879

  module _ (p : ℕ) (t : Minute) (here : Arriving walk p t) where
    -- STOP
    pub stops : c p t % 64 ≡ 0 → (out : List ℕ) → ((i : ℕ) → get_or out i 0 < 256) → Walked N q c p t out out
    stops none out byte =
        let d = here.departing in
        let w = d.walkable in
        let z = no-legs N q w.asked c w.table p t d.within d.plan none in
        record {
          plan = [];
          best =
              subst (λ (x : ℕ). Best N q c x t []) (sym z.0)
              (best-stop N q c t d.within.early (subst (λ (x : ℕ). c x t ≡ 0) z.0 z.1));
          rides = puts-no-rides out 89 byte;
        }

    module _ (hop : Hop) (h : Hops N q c p t hop) where
      pub earlier : Earlier p t hop
      earlier =
          let d = here.departing in
          let w = d.walkable in
          let f = legs-fall N q w.asked c w.table p t d.within d.plan hop.leg hop.departure.0 h.fit in
          let back : N.source hop.leg ≡ hop.from = sym h.from in
          record {
            departing =
                record {
                  walkable = w;
                  within =
                      subst (λ (x : ℕ). Within N q x hop.departure.0) back
                      (at_source N q w.asked hop.leg hop.departure.0 h.fit.leaves);
                  plan = subst (λ (x : ℕ). c x hop.departure.0 ≢ no_plan) back f.0;
                };
            fewer = subst (λ (x : ℕ). c p t % 64 ≡ c x hop.departure.0 % 64 + 1) back f.1;
            leg_small = omega (arith, h.fit.leaves.known, legs-are walk.tariff.net.now walk.tariff.size walk.tariff.sound, few_legs walk.tariff.net.now walk.tariff.size walk.tariff.sound);
            soon = omega (arith, h.fit.leaves.late, w.last);
          }

      -- RIDE
      pub rides-on : (index : ℕ) → index + 1 ≡ c p t % 64 → (before mid after : List ℕ)
          → Puts before mid (89 + 21 * index) (ride_fields (ride_of hop.leg hop.departure.0))
          → Walked N q c hop.from hop.departure.0 mid after
          → Walked N q c p t before after
      rides-on index is before mid after put rest =
          let d = here.departing in
          let w = d.walkable in
          let e = earlier in
          let legs = shown N q w.asked c w.table hop.from hop.departure.0 e.departing.within rest.plan rest.best.stands rest.best.weighs in
          let at : index ≡ length rest.plan = omega (arith, legs.2, e.fewer) in
          record {
            plan = ride_of hop.leg hop.departure.0 ∷ rest.plan;
            best =
                best-ride N q w.asked c w.table p t d.within here.first hop.leg hop.departure.0 h.fit h.lowest rest.plan
                (subst (λ (x : ℕ). Best N q c x hop.departure.0 rest.plan) h.from rest.best);
            rides =
                puts-ride before mid after 89 (ride_of hop.leg hop.departure.0) rest.plan
                (subst (λ (n : ℕ). Puts before mid (89 + 21 * n) (ride_fields (ride_of hop.leg hop.departure.0))) at put) rest.rides;
          }

  -- WAIT
  module _ (p : ℕ) (d t : Minute) (there : Departing walk p d) (f : FirstLike q c p 1 d t) where
    pub same-cell : c p t ≡ c p d
    same-cell = omega (arith, f.like)

    pub arrived : Arriving walk p t
    arrived =
        record {
          departing =
              record {
                walkable = there.walkable;
                within = record { place = there.within.place; early = f.early; late = omega (arith, f.late, there.within.late) };
                plan = λ e. there.plan (sym same-cell ∙ e);
              };
          first = λ u early before e. f.first u early before (omega (arith, e, same-cell));
        }

    pub waits : (before after : List ℕ) → Walked N q c p t before after → Walked N q c p d before after
    waits before after w =
        record { plan = w.plan; best = best-wait N q c p t d w.plan f.late same-cell w.best; rides = w.rides }
