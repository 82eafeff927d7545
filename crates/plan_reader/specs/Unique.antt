-- That bytes are a plan file that says what it may is one fact, and that this is what they say: each has one proof at most, so that a type can keep it.
use Rattle.std.specs.Prelude.{ℕ, ◌+◌, ◌≡◌, List, [], ◌∷◌, Option}
use Rattle.std.specs.Coded.{le_prop}
use Rattle.std.proofs.Props.{props}
use Rattle.std.proofs.Math.Option.{Option as Price}
use Rattle.leg.specs.declared.Cents.{Cents}
use Rattle.bits.specs.Packed.{Entry, Holds}
use Rattle.plan.specs.Network.{Query}
use Rattle.plan_file.specs.declared.Query.{Query as Asked}
use Rattle.plan_file.specs.PlanFile.{PlanFile}
use Rattle.plan_reader.specs.InPlace.{Says, Headed}

same_once : (a b : ℕ) → IsProp (a ≡ b)
same_once a b = Prim.hlevel props

holds_once : (s : List ℕ) (at : ℕ) (es : List Entry) → IsProp (Holds s at es)
unfolding Holds
holds_once s at [] = λ a b. λ i. tt
holds_once s at (e ∷ es) = λ a b. λ i. (same_once _ _ a.0 b.0 i, holds_once s (at + e.width) es a.1 b.1 i)

pub says_once : (s : List ℕ) (f : PlanFile) → IsProp (Says s f)
says_once s f = λ a b. λ i. record {
  file = record {
    size = same_once _ _ a.file.size b.file.size i;
    written = record {
      holds = holds_once s 0 _ a.file.written.holds b.file.written.holds i;
      fill = λ p h. same_once _ _ (a.file.written.fill p h) (b.file.written.fill p h) i;
      byte = λ n. le_prop (a.file.written.byte n) (b.file.written.byte n) i;
    };
  };
  allowed = record {
    few = le_prop a.allowed.few b.allowed.few i;
    none_price = λ e. same_once _ _ (a.allowed.none_price e) (b.allowed.none_price e) i;
    none_legs = λ e. same_once _ _ (a.allowed.none_legs e) (b.allowed.none_legs e) i;
  };
}

price_once : (a b : Price ℕ) → IsProp (a ≡ b)
price_once a b = Prim.hlevel props

query_once : (a b : Query) → IsProp (a ≡ b)
query_once a b = Prim.hlevel props

pub headed_once : (s : List ℕ) (cost : Option Cents) (query : Asked) (legs : ℕ) → IsProp (Headed s cost query legs)
headed_once s cost query legs = λ a b. λ i. record {
  stated_is = price_once _ _ a.stated_is b.stated_is i;
  query_is = query_once _ _ a.query_is b.query_is i;
  legs_is = same_once _ _ a.legs_is b.legs_is i;
}
