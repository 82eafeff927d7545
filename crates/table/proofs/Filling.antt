-- The table, filled.
use Prim.Native.Nat.{ℕ, ◌+◌, ◌*◌, ◌≤◌, ◌<◌}
use native.Mathlib.Omega.{arith}
use mathlib.Core.Path.{◌≡◌, ◌∙◌, ap, subst}
use mathlib.Core.List.{List}
use lib.ListN.{length, replicate, length-set, length-replicate}
use Rattle.plan.specs.Network as Plan
use Rattle.plan.specs.Network.{asking}
use Rattle.plan.specs.Table.{MinuteTable, cell_at}
use Rattle.leg.specs.declared.Window.{Window}
use Rattle.network.specs.declared.sound_file.SoundFile.{SoundFile}
use Rattle.network.specs.Network.{Network}
use Rattle.chart.specs.Net.{net_in, theory, theory_in}
use Rattle.chart.proofs.Net.{net-is, places-are, few_places, ranges}
use Rattle.table.specs.declared.Ask.{Ask}
use Rattle.table.specs.Ask.{columns, query}
use Rattle.table.specs.Kept.{Kept, Never, Clean, Outset}
use Rattle.table.specs.Filled.{Fillable, Filled}
use Rattle.table.proofs.Keeping.{row_fits}
use Rattle.table.proofs.Clean.{clean-table, outset-kept, any-end}

module _ (file : SoundFile) (start : ℕ) (window : Window) (cells : List ℕ) (f : Fillable file.size start window cells) where
  abbrev pub this : Ask
  this = record { start = start; window = window }

  fill-home : start < (net_in file.net.now).places
  fill-home = omega (arith, f.home, places-are file.net.now file.size file.sound)

  fill-long : length cells ≡ (net_in file.net.now).places * columns this
  fill-long = f.long ∙ ap (λ (n : ℕ). n * columns this) (places-are file.net.now file.size file.sound)

  pub start_fits : (w : ℕ) → w ≡ columns this → start * w + w ≤ length cells
  start_fits w e = rw e (row_fits (net_in file.net.now).places (columns this) start (length cells) fill-home fill-long)

  pub start-low : start < 64
  start-low = omega (arith, f.home, few_places file.net.now file.size file.sound)

  pub fill_begins : (w : ℕ) (cells' low low' : List ℕ) → w ≡ columns this → length low ≡ 64 → Outset start w cells cells' low low'
      → Kept (theory_in file.net.now) (query this) cells' low' Never
  fill_begins w cells' low low' wide long o =
      let c = rw wide at o.cells_are in
      let l = rw wide at o.low_is in
      rw (c, l)
      (outset-kept (theory_in file.net.now) (query this) (ranges file.net.now file.size file.sound) fill-home cells low (length low) fill-long
      (omega (arith, long, places-are file.net.now file.size file.sound, few_places file.net.now file.size file.sound)))

  plan-asked : Plan.Askable (theory_in file.net.now) (query this)
  plan-asked = record {
    ranges = ranges file.net.now file.size file.sound;
    home = fill-home;
    goal = fill-home;
    window = f.order;
  }

  pub fill_done : (cells' low : List ℕ) → length cells' ≡ length cells → Clean (theory_in file.net.now) (query this) cells' low
      → Filled file.net.now start window cells cells'
  fill_done cells' low long c = record {
    long = long;
    table = λ n last stands end.
        subst
        (λ (m : Network). MinuteTable (theory m) (asking start end window.earliest.0 window.latest.0) (cell_at (asking start end window.earliest.0 window.latest.0) cells'))
        (net-is file.net.now n last stands)
        (any-end (theory_in file.net.now) (query this) start end (cell_at (query this) cells')
        (clean-table (theory_in file.net.now) (query this) plan-asked cells' low c.kept c.clean));
  }

pub outset-long : (start w : ℕ) (cells cells' low low' : List ℕ) → Outset start w cells cells' low low' → length low ≡ 64 → length low' ≡ 64
outset-long start w cells cells' low low' o long =
    ap length o.low_is ∙ length-set (replicate (length low) w) start 0 ∙ length-replicate {A = ℕ} (length low) w ∙ long
