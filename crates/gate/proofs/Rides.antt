-- The rides of a plan, one after another. Assumes nothing.
use Prim.Native.Nat.{ℕ, zero, suc, ◌+◌, ◌*◌, ◌-◌, ◌≤◌, ◌<◌}
use native.Mathlib.Omega.{arith}
use mathlib.Core.Path.{◌≡◌, sym, ◌∙◌, ap}
use native.Mathlib.Decide.{dec_lt}
use mathlib.Core.Bool.{Bool, true, false}
use mathlib.Core.Option.{none, some}
use mathlib.Core.List.{List, ◌∷◌}
use borrow.Author.Tests.{eqb-true, eqb-false}
use lib.Dec.{T, eqb}
use lib.ListN.{length}
use native.Mathlib.Numerals.{add-one}
use Rattle.std.proofs.Common.{nat_cmp}
use Rattle.std.specs.Ordering.{is_lt}
use Rattle.leg.proofs.Order.{not-earlier}
use Rattle.bits.specs.Field.{field}
use Rattle.bits.proofs.Fields.{field_below}
use Rattle.plan_file.proofs.Files.{stated-none, stated-some}
use Rattle.leg.specs.declared.Leg.{Leg}
use Rattle.leg.specs.Ranges.{minute}
use Rattle.leg.specs.Toll.{toll_at}
use Rattle.network.proofs.Sound.{SoundLeg}
use Rattle.plan.specs.Network.{Minute, Cents, Network, Query}
use Rattle.plan.specs.Plan.{Ride, Follows, Runs}
use Rattle.plan.proofs.Legs.{toll-most}
use Rattle.plan_reader.specs.InPlace.{ride_at, rides_at, file_at}
use Rattle.rule_b.specs.Rule.{Is}
use Rattle.plan_file.specs.PlanFile.{stated}
use Rattle.chart.specs.Net.{net_in, theory_in, leg_in}
use Rattle.gate.specs.declared.State.{State}
use Rattle.gate.specs.Gate.{Holds}
use Rattle.gate.specs.Parts.{Boards, Rode, Riding, Arrived}

-- no toll of a sound leg is above 65,535
pub toll-small : (places : ℕ) (l : Leg) (t : ℕ) → SoundLeg places l → toll_at l t ≤ 65535
toll-small places l t s = toll-most l.count l.bands t 65535 s.tolls_within

-- a departure that is not before an arrival
pub not-before : (r : Bool) (departs x time : Minute) → r ≡ is_lt (nat_cmp departs x) → r ≡ false → x ≡ time → time ≤ departs
not-before r departs x time e not same = omega (arith, same, not-earlier departs x r e not)

-- a ride of the network's leg l that was boarded
pub rode-on : (s : List ℕ) (r : Ride) (state : State) (l : Leg) (toll : Cents) → l ≡ leg_in s r.leg
    → r.leg < length (net_in s).legs → l.from ≡ state.place → state.time.0 ≤ r.leave
    → toll ≡ toll_at l r.leave → toll ≤ 65535
    → Rode (theory_in s) r state (record { place = l.to; time = minute (r.leave + l.time.0); cost = record { 0 = state.cost.0 + toll } })
rode-on s r state l toll is low here after paid small = record {
  boards = record { known = low; here = ap (λ (x : Leg). x.from) (sym is) ∙ here; after = after };
  place = ap (λ (x : Leg). x.to) is;
  time = ap (λ (x : Leg). r.leave + x.time.0) is;
  cost = ap (λ (x : ℕ). state.cost.0 + x) (paid ∙ ap (λ (x : Leg). toll_at x r.leave) is);
  near = omega arith;
}

module _ (N : Network) (goes : (l : ℕ) (d : Minute) → T (N.goes l d)) (q : Query) (s : List ℕ) where
  pub riding-none : (state : State) → state.place ≡ q.start → state.time.0 ≡ q.earliest → state.cost.0 ≡ 0 → Riding N q s 0 state
  unfolding rides_at
  riding-none state p t c = record { runs = tt; place_is = p; time_is = t; cost_is = c; near = omega arith }

  module _ (k : ℕ) (old : State) (w : Riding N q s k old) where
    follows : Boards N old.place old.time.0 (ride_at s k) → Follows N q (rides_at s k) (ride_at s k)
    follows b = record { known = b.known; goes = goes _ _; here = b.here ∙ w.place_is; after = omega (arith, b.after, w.time_is) }

    boards : Follows N q (rides_at s k) (ride_at s k) → Boards N old.place old.time.0 (ride_at s k)
    boards f = record { known = f.known; here = f.here ∙ sym w.place_is; after = omega (arith, f.after, w.time_is) }

    pub riding-more : (new : State) → Rode N (ride_at s k) old new → Riding N q s (k + 1) new
    unfolding rides_at
    riding-more new r =
        let near : new.cost.0 ≤ 65535 * (k + 1) = omega (arith, r.near, w.near) in
        rw add-one (record {
          runs = (follows r.boards, w.runs);
          place_is = r.place;
          time_is = r.time;
          cost_is = r.cost ∙ ap (λ (x : ℕ). x + N.toll (ride_at s k).leg (ride_at s k).leave) w.cost_is;
          near = rw add-one at near;
        })

    pub riding-not : (Boards N old.place old.time.0 (ride_at s k) → ⊥) → Runs N q (rides_at s (k + 1)) → ⊥
    unfolding rides_at
    riding-not e runs =
        let all : Runs N q (ride_at s k ∷ rides_at s k) = rw add-one at runs in
        e (boards all.0)

  -- the first rides of a chain chain
  runs-part : (k i : ℕ) → Runs N q (rides_at s (k + i)) → Runs N q (rides_at s k)
  unfolding rides_at
  runs-part k zero h = let e : k + 0 ≡ k = omega arith in rw e at h
  runs-part k (suc i) h =
      let e : k + suc i ≡ suc (k + i) = omega arith in
      let all : Runs N q (ride_at s (k + i) ∷ rides_at s (k + i)) = rw e at h in
      runs-part k i all.1

  pub runs-first : (k n : ℕ) → k ≤ n → Runs N q (rides_at s n) → Runs N q (rides_at s k)
  runs-first k n h r = let e : n ≡ k + (n - k) = omega arith in runs-part k (n - k) (rw e at r)

-- at the end and in time, the sum decides
pub sum-decides : (q : Query) (price : Cents) (state : State) (b : Bool) → state.place ≡ q.end → state.time.0 ≤ q.latest
    → b ≡ eqb state.cost.0 price → Is b (Arrived q price state)
sum-decides q price state true there by e = record { there = there; by = by; sum = eqb-true state.cost.0 price (sym e) }
sum-decides q price state false there by e = λ a. eqb-false state.cost.0 price (sym e) a.sum

-- a plan file's plan, once all its rides are ridden: where it arrives as it should, what the file says holds
pub arrives-holds : (net s : List ℕ) (state : State) (b : Bool) → Riding (theory_in net) (file_at s).query s (field s 77 12) state → field s 8 1 ≡ 1
    → Is b (Arrived (file_at s).query (field s 45 32) state) → Is b (Holds (theory_in net) (file_at s))
arrives-holds net s state true w one a = λ v. record {
  feasible = record { runs = w.runs; there = sym w.place_is ∙ a.there; by = omega (arith, w.time_is, a.by) };
  sum = sym w.cost_is ∙ a.sum;
}
arrives-holds net s state false w one a = λ h.
    let c = h one in
    a (record { there = w.place_is ∙ c.feasible.there; by = omega (arith, w.time_is, c.feasible.by); sum = w.cost_is ∙ c.sum })

-- a verdict that states a cost is "plan"
pub stated-one : (s : List ℕ) (x : Cents) → some x ≡ stated (file_at s) → (field s 8 1 ≡ 1) × (x ≡ field s 45 32)
stated-one s x e = at (dec_lt 0 (field s 8 1))
  where
    at : Dec (0 < field s 8 1) → (field s 8 1 ≡ 1) × (x ≡ field s 45 32)
    at (yes n) =
        let is : some x ≡ some (field s 45 32) = e ∙ stated-some (field s 8 1) (field s 45 32) (λ z. omega arith) in
        (omega (arith, field_below s 8 1, n), cc)
    at (no n) =
        let nothing : some x ≡ none = e ∙ stated-none (field s 8 1) (field s 45 32) (omega arith) in
        let z : ◌≡◌ {A = ℕ} 0 1 = cc in
        absurd (omega arith)
