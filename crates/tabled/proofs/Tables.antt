-- The part of the table that is filled, put back into the whole.
use Prim.Native.Nat.{ℕ, ◌+◌, ◌-◌, ◌*◌, ◌≤◌, ◌<◌}
use native.Mathlib.Omega.{arith}
use mathlib.Core.Path.{◌≡◌, sym, ap, ◌∙◌, subst}
use mathlib.Core.List.{List, ◌++◌}
use lib.ListN.{length, get_or, drop, get_or-append}
use lib.Seq.{get_or-append-add, get_or-drop, length_front, length-take-le}
use Rattle.plan.specs.Network.{Minute, Network, Query, Within}
use Rattle.plan.specs.Table.{width, Cell, cell_at, MinuteTable}
use Rattle.walk.proofs.Nets.{row_room}
use Rattle.tabled.specs.Comes.{Filled}

-- the cell of a place and minute stands before the end of the table
pub cell_below : (N : Network) (q : Query) (p : ℕ) (t : Minute) → Within N q p t → p * width q + (t - q.earliest) < N.places * width q
cell_below N q p t win =
    omega (arith, row_room (width q) (N.places * width q) p N.places (omega (arith, win.place)) (omega arith), win.late, win.early)

pub filled-whole : (N : Network) (q : Query) (cells table : List ℕ) (n : ℕ) → n ≡ N.places * width q → n ≤ length table → length cells ≡ n
    → MinuteTable N q (cell_at q cells) → Filled N q table (cells ++ drop n table)
filled-whole N q cells table n is fits size m =
    record {
      long = length_front table cells n (size ∙ sym (length-take-le n table fits));
      cells = λ p t win.
          let below = cell_below N q p t win in
          subst (Cell N q p t) (sym (get_or-append cells (drop n table) 0 (p * width q + (t - q.earliest)) (omega arith))) (m p t win);
      rest = λ i past.
          let at : length cells + (i - n) ≡ i = omega arith in
          let at' : n + (i - n) ≡ i = omega arith in
          ap (λ (k : ℕ). get_or (cells ++ drop n table) k 0) (sym at) ∙ get_or-append-add cells (drop n table) (i - n) 0 ∙ get_or-drop n table (i - n) 0 ∙ ap (λ (k : ℕ). get_or table k 0) at';
    }
