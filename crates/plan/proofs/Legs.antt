-- A network of legs keeps its ranges when each leg does. Assumes nothing.
use Prim.Native.Nat.{ℕ, zero, suc, ◌≤◌, ◌<◌}
use native.Mathlib.Omega.{arith}
use mathlib.Core.Bool.{Bool, true, false, ◌&&◌}
use mathlib.Core.List.{List}
use lib.Dec.{T, leb, ltb, leb→le, ltb→lt}
use lib.ListN.{length, get_or}
use Rattle.leg.specs.declared.Band.{Band}
use Rattle.leg.specs.declared.Leg.{Leg}
use Rattle.leg.specs.Ranges.{no_band}
use Rattle.leg.specs.Toll.{either, toll_of_first}
use Rattle.plan.specs.Network.{InRange}
use Rattle.plan.specs.Legs.{no_leg, network_of}
use Rattle.plan.proofs.Tests.{and_left, and_right, every_from, every-at}

-- a leg's places are below the number of places, and its tolls at most 65,535
pub record LegInRange (places : ℕ) (leg : Leg) : Type 0 where
  pub source : leg.from < places
  pub target : leg.to < places
  pub tolls : (k : ℕ) → k < leg.count → (get_or leg.bands k no_band).toll.0 ≤ 65535

either-most : (b : Bool) (x y m : ℕ) → x ≤ m → y ≤ m → either b x y ≤ m
unfolding either
either-most true x y m h k = h
either-most false x y m h k = k

-- no toll is above those of the bands
pub toll-most : (k : ℕ) (bands : List Band) (t m : ℕ) → ((i : ℕ) → i < k → (get_or bands i no_band).toll.0 ≤ m) → toll_of_first k bands t ≤ m
unfolding toll_of_first
toll-most zero bands t m h = omega arith
toll-most (suc k) bands t m h =
    either-most (leb (get_or bands k no_band).start.0 t) (get_or bands k no_band).toll.0 (toll_of_first k bands t) m (h k (omega arith))
    (toll-most k bands t m (λ i l. h i (omega arith)))

pub legs-in-range : (places : ℕ) (legs : List Leg) → places ≤ 64 → ((l : ℕ) → l < length legs → LegInRange places (get_or legs l no_leg))
    → InRange (network_of places legs)
legs-in-range places legs few h = record {
  few = few;
  sources = λ l known. (h l known).source;
  targets = λ l known. (h l known).target;
  tolls = λ l d known. toll-most (get_or legs l no_leg).count (get_or legs l no_leg).bands _ 65535 (h l known).tolls;
}

-- the same as a test
legs-test : ℕ → Leg → Bool
legs-test places leg =
    (ltb leg.from places && ltb leg.to places)
    && every_from leg.count 0 (λ k. leb (get_or leg.bands k no_band).toll.0 65535)

unfoldable pub are_legs : ℕ → List Leg → Bool
unfolding legs-test
are_legs places legs = leb places 64 && every_from (length legs) 0 (λ l. legs-test places (get_or legs l no_leg))

pub test-legs : (places : ℕ) (legs : List Leg) → T (are_legs places legs) → InRange (network_of places legs)
unfolding are_legs legs-test
test-legs places legs h =
    legs-in-range places legs (leb→le places 64 (and_left (leb places 64) _ h))
    (λ l known.
    let each =
    every-at (length legs) 0 (λ l. legs-test places (get_or legs l no_leg)) (and_right (leb places 64) _ h) l (omega arith)
    (omega arith) in
    at (get_or legs l no_leg) each)
  where
    at : (leg : Leg) → T (legs-test places leg) → LegInRange places leg
    at leg t =
        let ends = and_left (ltb leg.from places && ltb leg.to places) _ t in
        record {
          source = ltb→lt leg.from places (and_left (ltb leg.from places) _ ends);
          target = ltb→lt leg.to places (and_right (ltb leg.from places) _ ends);
          tolls = λ k low.
              leb→le (get_or leg.bands k no_band).toll.0 65535
              (every-at leg.count 0 (λ k. leb (get_or leg.bands k no_band).toll.0 65535)
              (and_right (ltb leg.from places && ltb leg.to places) _ t) k (omega arith) (omega arith));
        }
