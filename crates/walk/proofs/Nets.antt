-- The legs of a sound file by their numbers, and the cells that a walk reads.
use Prim.Native.Nat.{ℕ, ◌+◌, ◌*◌, ◌≤◌, ◌<◌}
use native.Mathlib.Omega.{arith}
use native.Mathlib.Nat.{mul-le-mul_right, add-mul}
use mathlib.Core.Path.{◌≡◌, refl, sym, subst}
use mathlib.Core.List.{List}
use lib.Dec.{T}
use lib.ListN.{length}
use Rattle.leg.specs.declared.Leg.{Leg}
use Rattle.leg.specs.Toll.{toll_at}
use Rattle.std.specs.Prelude.{Ok}
use Rattle.network.specs.declared.Size.{Size}
use Rattle.network.specs.Network.{of_file}
use Rattle.network.specs.Answers.{network_found}
use Rattle.network.proofs.Sound.{SoundLeg}
use Rattle.plan.specs.Network.{Minute, Network, Query, Within}
use Rattle.plan.specs.Table.{width}
use Rattle.chart.specs.Net.{net_in, theory_in, leg_in}
use Rattle.chart.proofs.Net.{places-are, few_places, leg-known, leg-sound}
use Rattle.walk.specs.Cells.{InTable}
use Rattle.walk.specs.Walk.{ReadsFrom}

-- leg k of the network is this one
pub record HasLeg (N : Network) (k : ℕ) (l : Leg) : Type 0 where
  pub known : k < N.legs
  pub source : N.source k ≡ l.from
  pub target : N.target k ≡ l.to
  pub time : N.time k ≡ l.time.0
  pub goes : (d : Minute) → T (N.goes k d)
  pub toll : (d : Minute) → N.toll k d ≡ toll_at l d

-- the row of a place is in the table
pub row_room : (w n p places : ℕ) → p + 1 ≤ places → places * w ≤ n → p * w + w ≤ n
row_room w n p places below room =
    let whole = mul-le-mul_right {m = p + 1} {n = places} w below in
    omega (arith, whole, room, add-mul p 1 w)

pub reads-from : (l : Leg) (cells : List ℕ) (q : Query) (places : ℕ) → places ≤ 64 → SoundLeg places l → places * width q ≤ length cells → ReadsFrom l cells q
reads-from l cells q places few s room =
    record { place = omega (arith, s.from_below); room = row_room (width q) (length cells) l.from places (omega (arith, s.from_below)) room }

module _ (s : List ℕ) (size : Size) (ok : network_found (of_file s) ≡ Ok size) where
  -- a cell of the window is in the table
  pub in_table : (q : Query) (cells : List ℕ) → size.places * width q ≤ length cells → q.latest ≤ 2879 → (p : ℕ) (t : Minute) → Within (theory_in s) q p t
      → InTable cells q p t
  in_table q cells room last p t win =
      let below : p + 1 ≤ size.places = omega (arith, win.place, places-are s size ok) in
      record {
        early = win.early;
        late = win.late;
        last = last;
        place = omega (arith, few_places s size ok);
        room = row_room (width q) (length cells) p size.places below room;
      }

  -- LEG k of the network, under whatever name
  module _ (k : ℕ) (below : k < size.legs) (l : Leg) (is : l ≡ leg_in s k) where
    pub has-leg : HasLeg (theory_in s) k l
    has-leg =
        subst (λ (x : Leg). HasLeg (theory_in s) k x) (sym is)
        (record {
          known = leg-known s size ok k below;
          source = refl;
          target = refl;
          time = refl;
          goes = λ d. tt;
          toll = λ d. refl;
        })

    pub sound-leg : SoundLeg size.places l
    sound-leg =
        subst (λ (n : ℕ). SoundLeg n l) (sym (places-are s size ok))
        (subst (λ (x : Leg). SoundLeg (net_in s).places x) (sym is) (leg-sound s size ok k below))
