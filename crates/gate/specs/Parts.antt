-- What the gate's parts decide.
use Rattle.std.specs.Prelude.{ℕ, ◌+◌, ◌*◌, ◌≤◌, ◌<◌, ◌≡◌, List, get_or, Option, Some, None}
use Rattle.std.proofs.Math.Option.{some}
use Rattle.network.specs.Reading.{Found}
use Rattle.chart.specs.declared.tariff.Tariff.{Tariff}
use Rattle.chart.specs.Net.{net_in, leg_in}
use Rattle.plan.specs.Network.{Minute, Cents, Network, Query}
use Rattle.plan.specs.Plan.{Ride, arrives, place, arrival, cost, Runs}
use Rattle.plan.specs.Sheet.{Step, value}
use Rattle.plan_reader.specs.InPlace.{rides_at}
use Rattle.rule_b.specs.Rule.{RuleB}
use Rattle.sheet_file.specs.InPlace.{place_at}
use Rattle.sheet_file.specs.declared.sound_sheet.SoundSheet.{SoundSheet}
use Rattle.gate.specs.declared.State.{State}
use Rattle.sheet_file.specs.SheetFile.{sheet_of}
use Rattle.gate.specs.Gate.{Known}

-- a ride may be boarded at this place from this minute on
pub record Boards (N : Network) (place : ℕ) (time : Minute) (r : Ride) : Type 0 where
  pub known : r.leg < N.legs
  pub here : N.source r.leg ≡ place
  pub after : time ≤ r.leave

-- one ride further: it may be boarded, and this is where, when and at what cost one then stands
pub record Rode (N : Network) (r : Ride) (old new : State) : Type 0 where
  pub boards : Boards N old.place old.time.0 r
  pub place : new.place ≡ N.target r.leg
  pub time : new.time.0 ≡ arrives N r
  pub cost : new.cost.0 ≡ old.cost.0 + N.toll r.leg r.leave
  pub near : new.cost.0 ≤ old.cost.0 + 65535

-- a ride leads on exactly where it may be boarded
abbrev pub RodeTo : Network → Ride → State → Option State → Type 0
RodeTo N r old (Some new) = Rode N r old new
RodeTo N r old None = Boards N old.place old.time.0 r → ⊥

-- the first k rides chain, and this is where, when and at what cost they end
pub record Riding (N : Network) (q : Query) (s : List ℕ) (k : ℕ) (state : State) : Type 0 where
  pub runs : Runs N q (rides_at s k)
  pub place_is : state.place ≡ place N q (rides_at s k)
  pub time_is : state.time.0 ≡ arrival N q (rides_at s k)
  pub cost_is : state.cost.0 ≡ cost N (rides_at s k)
  pub near : state.cost.0 ≤ 65535 * k

-- the first k rides lead somewhere exactly where they chain
abbrev pub Ridden : Network → Query → List ℕ → ℕ → Option State → Type 0
Ridden N q s k (Some state) = Riding N q s k state
Ridden N q s k None = Runs N q (rides_at s k) → ⊥

-- at the end, in time, at this cost
pub record Arrived (q : Query) (price : Cents) (state : State) : Type 0 where
  pub there : state.place ≡ q.end
  pub by : state.time.0 ≤ q.latest
  pub sum : state.cost.0 ≡ price

-- a query that the gate goes on with
pub record Asked (s : List ℕ) (q : Query) : Type 0 where
  pub known : Known (net_in s).places q
  pub window : q.earliest ≤ q.latest

-- the sheet that bytes stand for, for the network of other bytes
abbrev pub sheet_at : List ℕ → List ℕ → Query → Found (List (List Step))
sheet_at net s q = sheet_of (net_in net).places q s

-- the steps of a place of a judged sheet
abbrev pub steps_in : SoundSheet → ℕ → List Step
steps_in sheet p = place_at sheet.sheet.now (get_or sheet.index p 0)

-- a sheet that was judged for this network, up to a minute of the clock
pub record Fits (t : Tariff) (sheet : SoundSheet) : Type 0 where
  pub places : sheet.places ≡ t.size.places
  pub end : sheet.window.latest.0 ≤ 2879

-- rule (b) for leg k, over the steps where they stand
abbrev pub RuleOf : List ℕ → SoundSheet → ℕ → Type 0
RuleOf net sheet k = RuleB sheet.window.latest.0 (leg_in net k) (steps_in sheet (leg_in net k).from) (steps_in sheet (leg_in net k).to)

-- rule (b) for the first `legs` legs
abbrev pub RulesOf : List ℕ → SoundSheet → ℕ → Type 0
RulesOf net sheet legs = (k : ℕ) → k < legs → RuleOf net sheet k

-- both rules, so
pub record Ruled (net : List ℕ) (sheet : SoundSheet) (legs start : ℕ) : Type 0 where
  pub a : value (steps_in sheet start) sheet.window.earliest.0 ≡ some 0
  pub b : RulesOf net sheet legs
