-- Where the walk begins, at the end's arrival, and what it ends with: the file of the named plan.
use Prim.Native.Nat.{ℕ, ◌/◌, ◌%◌}
use mathlib.Core.Path.{◌≡◌, ap, ◌∙◌, subst}
use mathlib.Core.List.{List}
use lib.ListN.{length, get_or}
use Rattle.plan.specs.Network.{Minute, Network, Query, Within}
use Rattle.plan.specs.Plan.{cost}
use Rattle.plan.proofs.Walk.{shown}
use Rattle.plan.proofs.Named.{same-cost, first-cost, best-named}
use Rattle.plan_file.specs.Puts.{Puts}
use Rattle.plan_file.specs.PlanFile.{query_of, head_fields, plan_bytes, file_of_plan}
use Rattle.plan_file.proofs.Files.{puts-file}
use Rattle.walk.specs.declared.Walk.{Walk}
use Rattle.walk.specs.Walk.{theory_of, asked_of, cells_of, Arriving, Walked, Ending, NamedFile}

module _ (walk : Walk) (t : Minute) (e : Ending walk t) where
  abbrev N : Network
  N = theory_of walk

  abbrev q : Query
  q = asked_of walk

  abbrev c : ℕ → Minute → ℕ
  c = cells_of walk

  end-within : Within N q walk.table.query.end t
  end-within = record { place = e.walkable.asked.goal; early = e.first.early; late = e.first.late }

  -- at the end, at the first minute with the least cost
  pub begins : Arriving walk walk.table.query.end t
  begins =
      let w = e.walkable in
      record {
        departing =
            record {
              walkable = w;
              within = end-within;
              plan = same-cost N q w.asked c w.table t e.plan e.first.like;
            };
        first = first-cost N q w.asked c w.table t e.first.like e.first.first;
      }

  -- THE FILE OF THE NAMED PLAN
  pub ends : (here : ℕ) → here ≡ c walk.table.query.end t → (zeros mid after : List ℕ) → ((i : ℕ) → get_or zeros i 0 ≡ 0)
      → length zeros ≡ plan_bytes (c walk.table.query.end t % 64) → Puts zeros mid 0 (head_fields 1 (query_of walk.table.query) (here / 64) (here % 64))
      → Walked N q c walk.table.query.end t mid after → NamedFile N q after
  ends here is zeros mid after blank room head walked =
      let w = e.walkable in
      let plan = walked.plan in
      let tells = shown N q w.asked c w.table walk.table.query.end t end-within plan walked.best.stands walked.best.weighs in
      let price : here / 64 ≡ cost N plan = ap (λ (x : ℕ). x / 64) is ∙ tells.1 in
      let legs : here % 64 ≡ length plan = ap (λ (x : ℕ). x % 64) is ∙ tells.2 in
      record {
        plan = plan;
        named = best-named N q w.asked c w.table t end-within e.first.like e.first.first plan walked.best;
        file =
            puts-file zeros mid after (file_of_plan N q plan) blank
            (room ∙ ap plan_bytes tells.2)
            (subst (λ (n : ℕ). Puts zeros mid 0 (head_fields 1 q (cost N plan) n)) legs
            (subst (λ (x : ℕ). Puts zeros mid 0 (head_fields 1 q x (here % 64))) price head))
            walked.rides;
      }
