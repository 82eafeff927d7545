-- A visit as a whole, and the visits of a sweep.
use Prim.Native.Nat.{ℕ, ◌+◌, ◌*◌, ◌≤◌, ◌<◌}
use native.Mathlib.Omega.{arith}
use mathlib.Core.Path.{◌≡◌, refl}
use mathlib.Core.List.{List}
use lib.ListN.{length, set}
use Rattle.rows.specs.Row.{at}
use Rattle.rows.specs.Whole.{SettleRow}
use Rattle.chart.specs.Net.{net_in, theory_in}
use Rattle.table.proofs.Tariffs.{few-places, in-range, same-legs, same-places}
use Rattle.table.specs.declared.roads.Roads.{Roads}
use Rattle.table.specs.Ask.{columns, query}
use Rattle.table.specs.Kept.{Kept, Never, Visiting, Visited, Clean}
use Rattle.table.proofs.Keeping.{row_fits, visiting-begins}
use Rattle.table.proofs.Sweeps.{left, falls}

module _ (g : Roads) (p : ℕ) (here : p < g.tariff.now.size.places) (cells low : List ℕ) (k : Kept (theory_in g.tariff.now.net.now) (query g.ask) cells low Never) (w : ℕ)
    (wide : w ≡ columns g.ask) where
  in-net : p < (net_in g.tariff.now.net.now).places
  in-net = omega (arith, same-places g.tariff.now)

  pub in-low : p < length low
  in-low = omega (arith, in-net, k.places)

  pub visit-room : p * w + w ≤ length cells
  visit-room = rw wide (row_fits (net_in g.tariff.now.net.now).places (columns g.ask) p (length cells) in-net k.long)

  pub visit-begins : (cells' row : List ℕ) → SettleRow cells cells' row w p (at low p)
      → Visiting (theory_in g.tariff.now.net.now) (query g.ask) cells' (set low p w) row p (at low p) g.tariff.now.size.legs
  visit-begins cells' row r =
      rw (wide, same-legs g.tariff.now)
      (visiting-begins (theory_in g.tariff.now.net.now) (query g.ask) (in-range g.tariff.now) cells cells' low row p (at low p) k in-net refl (rw wide at r))

-- a turn of the sweep
module _ (g : Roads) (w : ℕ) (wide : w ≡ columns g.ask) where
  pub turn-falls : (cells cells' low low' : List ℕ) (p : ℕ) → p < g.tariff.now.size.places → length low ≡ 64 → at low p < w → Kept (theory_in g.tariff.now.net.now) (query g.ask) cells low Never
      → Visited (theory_in g.tariff.now.net.now) (query g.ask) cells cells' (set low p (columns g.ask)) low' → left cells' low' < left cells low
  turn-falls cells cells' low low' p here size64 new k v =
      falls cells cells' low low' p (columns g.ask) size64 (omega (arith, few-places g.tariff.now)) (omega (arith, wide))
      (omega (arith, g.asked.window, g.asked.clock)) k.lows v.kept.lows v.onward

  pub swept : (cells low : List ℕ) → Kept (theory_in g.tariff.now.net.now) (query g.ask) cells low Never → ((p : ℕ) → p < g.tariff.now.size.places → w ≤ at low p)
      → Clean (theory_in g.tariff.now.net.now) (query g.ask) cells low
  swept cells low k none = record {
    kept = k;
    clean = λ o u. omega (arith, wide, none o (omega (arith, same-places g.tariff.now)));
  }
