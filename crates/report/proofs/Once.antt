-- ONE TEXT: two texts that keep `haul`'s promise on one input are equal. Assumes nothing.
use Prim.Native.Nat.{ℕ}
use mathlib.Core.Path.{◌≡◌, sym, ◌∙◌, ap}
use mathlib.Core.Bool.{Bool, true, false}
use mathlib.Core.List.{List}
use lib.Dec.{ltb, eqb}
use lib.ListN.{length, drop}
use Rattle.bits.specs.Field.{field}
use Rattle.network.specs.Network.{of_file}
use Rattle.plan.specs.Network.{Network, Query}
use Rattle.plan.proofs.Order.{named-once}
use Rattle.tabled.specs.Judge.{Judged, refuse, serve, judged}
use Rattle.report.specs.Report.{plan_text, Shows, shown, nothing, Prints, query_in, Whole, Reports}

shows-once : (N : Network) (q : Query) (a b : List ℕ) → Shows N q a → Shows N q b → a ≡ b
shows-once N q a b (shown rides h) (shown other k) = ap (plan_text N q) (named-once N q rides other h k)
shows-once N q a b (shown rides h) (nothing never) = absurd (never rides h.feasible)
shows-once N q a b (nothing never) (shown rides h) = absurd (never rides h.feasible)
shows-once N q a b (nothing never) (nothing also) = cc

prints-once : (j : Judged) (q : Query) (a b : List ℕ) → Prints j q a → Prints j q b → a ≡ b
prints-once (refuse why) q a b h k = h ∙ sym k
prints-once (serve N) q a b h k = shows-once N q a b h k

pub reports-once : (input : List ℕ) (cells : ℕ) (a b : List ℕ) → Reports input cells a → Reports input cells b → a ≡ b
reports-once input cells a b h k = at (ltb (length input) 5) (eqb (field input 36 4) 0) h.says k.says
  where
    at : (short zeros : Bool) → Whole short zeros input cells a → Whole short zeros input cells b → a ≡ b
    at true zeros h k = h ∙ sym k
    at false false h k = h ∙ sym k
    at false true h k = prints-once (judged (of_file (drop 5 input)) (query_in input) cells) (query_in input) a b h k
