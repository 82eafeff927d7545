-- What it tells that a query is known.
use Prim.Native.Nat.{ℕ, ◌≤◌, ◌<◌}
use mathlib.Core.Path.{◌≡◌, refl}
use mathlib.Core.Bool.{Bool, true, false}
use borrow.Author.Tests.{leb-true, ltb-true}
use lib.Dec.{leb, ltb}
use Rattle.std.specs.Prelude.{◌&&◌}
use Rattle.plan.specs.Network.{Query}
use Rattle.plan_file.specs.Known.{known}

both : (a b : Bool) → (a && b) ≡ true → (a ≡ true) × (b ≡ true)
both true b e = (refl, e)
both false b e = (e, cc)

-- start and end are places, and the times are minutes
pub record IsKnown (places : ℕ) (q : Query) : Type 0 where
  pub start : q.start < places
  pub end : q.end < places
  pub earliest : q.earliest ≤ 2879
  pub latest : q.latest ≤ 2879

pub is-known : (places : ℕ) (q : Query) → known places q ≡ true → IsKnown places q
is-known places q e =
    let ends = ltb q.start places && ltb q.end places in
    let a = both (ends && leb q.earliest 2879) (leb q.latest 2879) e in
    let b = both ends (leb q.earliest 2879) a.0 in
    let c = both (ltb q.start places) (ltb q.end places) b.0 in
    record { start = ltb-true _ _ c.0; end = ltb-true _ _ c.1; earliest = leb-true _ _ b.1; latest = leb-true _ _ a.1 }
