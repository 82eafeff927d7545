-- Document 01: what is tested before anything is planned, in its order: the network, then 6, 7 and 8.
use Rattle.std.specs.Prelude.{ℕ, Result, Ok, Err, ◌*◌, leb}
use Rattle.answer.specs.declared.Refusal.{Refusal}
use Rattle.answer.specs.declared.Refusal.TheVariants.{Query as NoSuchQuery, Window, Cells}
use Rattle.network.specs.Reading.{Found, refused, found, pick}
use Rattle.network.specs.Network.{Network as FileNetwork}
use Rattle.plan.specs.Network.{Network, Query}
use Rattle.plan.specs.Table.{width}
use Rattle.plan_file.specs.Known.{known}
use Rattle.chart.specs.Net.{theory}

-- 6: start or end not below places, or a query time over 2,879; 7: earliest after latest; 8: fewer than places × W cells
abbrev pub judgement : ℕ → Query → ℕ → Result Unit Refusal
judgement places q cells =
    pick (known places q)
    (pick (leb q.earliest q.latest)
    (pick (leb (places * width q) cells) (Ok tt) (Err Cells))
    (Err Window))
    (Err NoSuchQuery)

-- what the call comes to: a refusal that touches nothing, or an answer about this network
pub data Judged : Type 0 where
  refuse : Refusal → Judged
  serve : Network → Judged

-- served with this network, or refused
abbrev pub with_network : Result Unit Refusal → Network → Judged
with_network (Ok passed) N = serve N
with_network (Err why) N = refuse why

-- the network first, then 6, 7 and 8
abbrev pub judged : Found FileNetwork → Query → ℕ → Judged
judged (refused why) q cells = refuse why
judged (found n at) q cells = with_network (judgement n.places q cells) (theory n)
