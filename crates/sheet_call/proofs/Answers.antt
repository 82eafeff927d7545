-- What the sheet call's answers rest on, over the program's values.
use Prim.Native.Nat.{ℕ, ◌*◌, ◌≤◌, ◌<◌}
use native.Mathlib.Omega.{arith}
use native.Mathlib.Decide.{ℕ_discrete}
use borrow.Author.Tests.{le-leb, lt-leb}
use mathlib.Core.Path.{◌≡◌, refl, sym, ap, ◌∙◌, subst}
use mathlib.Core.Logic.{◌≢◌}
use mathlib.Core.List.{List, [], ◌∷◌, ◌++◌}
use lib.ListN.{length, get_or, drop}
use Rattle.answer.specs.Plans.{PlanAnswer, plan_filed, none_filed}
use Rattle.std.specs.Prelude.{Err}
use Rattle.answer.specs.declared.Refusal.TheVariants.{Room}
use Rattle.bits.specs.Field.{Put}
use Rattle.bits.specs.Packed.{item}
use Rattle.network.specs.declared.sound_file.SoundFile.{SoundFile}
use Rattle.plan.specs.Network.{Network, Query}
use Rattle.plan.specs.Sheet.{Step, OurSheet}
use Rattle.plan.specs.Table.{no_plan, width, cell_at}
use Rattle.plan.proofs.Standing.{at-end}
use Rattle.plan.proofs.Cells.{Attained}
use Rattle.plan.proofs.Exact.{table-least}
use Rattle.plan.proofs.Named.{none-feasible}
use Rattle.plan_file.specs.declared.Query.{Query as Asked}
use Rattle.plan_file.specs.PlanFile.{query_of}
use Rattle.plan_file.specs.Puts.{Puts}
use Rattle.plan_file.proofs.Puts.{puts_one, puts_then, puts-packed}
use Rattle.tabled.specs.Tabled.{Tabled}
use Rattle.chart.specs.Net.{theory_in}
use Rattle.chart.proofs.Net.{places-are, few_places}
use Rattle.sheet_call.specs.Rows.{sheet_in}
use Rattle.sheet_file.specs.Fields.{places_fields, sheet_bytes, FileOf}
use Rattle.sheet_call.specs.Sheet.{Right, some, none, Answered}
use Rattle.sheet_call.specs.Parts.{Table, Weighed}
use Rattle.sheet_call.proofs.Rows.{our-sheet}

-- edition, places and steps, put into zeros
pub sheet-file : (zero s t u : List ℕ) (sheet : List (List Step)) (n : ℕ) → length sheet ≡ n → ((i : ℕ) → get_or zero i 0 ≡ 0)
    → length zero ≡ sheet_bytes sheet → Put zero s 0 8 1 → Put s t 8 7 n → Puts t u 15 (places_fields sheet) → FileOf sheet u
sheet-file zero s t u sheet n is zeros size edition places rest =
    puts-packed zeros size
    (puts_then {fs = item 8 1 ∷ item 7 (length sheet) ∷ []}
    (puts_then {fs = item 8 1 ∷ []} (puts_one edition) (puts_one (subst (Put s t 8 7) (sym is) places)))
    rest)

-- without room nothing is written
no_room : (N : Network) (q : Query) (out : List ℕ) (sheet : List (List Step)) → OurSheet N q sheet → (given : ℕ → PlanAnswer) → Right N q given
    → length out < sheet_bytes sheet → Answered N q out out (Err Room)
no_room N q out sheet ours given right h =
    let full = lt-leb _ _ h in
    record { sheet = sheet; ours = ours; given = given; right = right; answer_is = rw full; output_is = rw full refl }

-- with room the file stands at the front
room : (N : Network) (q : Query) (out bytes : List ℕ) (sheet : List (List Step)) → OurSheet N q sheet → (given : ℕ → PlanAnswer) → Right N q given
    → FileOf sheet bytes → (n : ℕ) → n ≡ sheet_bytes sheet → n ≤ length out → Answered N q out (bytes ++ drop n out) (given n)
room N q out bytes sheet ours given right is n size h =
    let fits = le-leb (sheet_bytes sheet) (length out) (omega arith) in
    record {
      sheet = sheet;
      ours = ours;
      given = given;
      right = right;
      answer_is = rw (fits, size);
      output_is = rw fits (bytes, is, ap (λ (k : ℕ). bytes ++ drop k out) (size ∙ sym is.size));
    }

module _ (file : SoundFile) (a : Asked) (cells : List ℕ) (k : Tabled file.net.now file.size a cells) where
  pub rows : Table cells (width (query_of a)) file.size.places
  rows = record { few = few_places file.net.now file.size file.sound; narrow = omega (arith, k.servable.last); all = k.room }

  ours : OurSheet (theory_in file.net.now) (query_of a) (sheet_in cells (width (query_of a)) a.earliest.0 file.size.places)
  ours =
      let n = sym (places-are file.net.now file.size file.sound) in
      subst (λ (p : ℕ). OurSheet (theory_in file.net.now) (query_of a) (sheet_in cells (width (query_of a)) a.earliest.0 p)) n
      (our-sheet (theory_in file.net.now) (query_of a) k.servable.asked cells
      (subst (λ (p : ℕ). p * width (query_of a) ≤ length cells) (sym n) k.room) k.table)

  right-none : cell_at (query_of a) cells a.end a.latest.0 ≡ no_plan → Right (theory_in file.net.now) (query_of a) none_filed
  right-none e = none (none-feasible (theory_in file.net.now) (query_of a) k.servable.asked (cell_at (query_of a) cells) k.table e)

  right-some : cell_at (query_of a) cells a.end a.latest.0 ≢ no_plan → Right (theory_in file.net.now) (query_of a) plan_filed
  unfolding Attained
  right-some n =
      let w = (table-least (theory_in file.net.now) (query_of a) k.servable.asked (cell_at (query_of a) cells) k.table a.end a.latest.0
      (at-end (theory_in file.net.now) (query_of a) k.servable.asked)).attained n in
      some w.0 w.1

  module _ (out : List ℕ) (n : ℕ) (w : Weighed cells (width (query_of a)) file.size.places n) where
    -- 9
    pub too_long : length out < n → Answered (theory_in file.net.now) (query_of a) out out (Err Room)
    too_long h = at (ℕ_discrete (cell_at (query_of a) cells a.end a.latest.0) no_plan)
      where
        at : Dec (cell_at (query_of a) cells a.end a.latest.0 ≡ no_plan) → Answered (theory_in file.net.now) (query_of a) out out (Err Room)
        at (yes e) = no_room (theory_in file.net.now) (query_of a) out _ ours none_filed (right-none e) (omega (arith, w.weight a.earliest.0))
        at (no e) = no_room (theory_in file.net.now) (query_of a) out _ ours plan_filed (right-some e) (omega (arith, w.weight a.earliest.0))

    module _ (h : n ≤ length out) (bytes : List ℕ)
        (is : FileOf (sheet_in cells (width (query_of a)) a.earliest.0 file.size.places) bytes) where
      -- 10
      pub no-plan : cell_at (query_of a) cells a.end a.latest.0 ≡ no_plan → Answered (theory_in file.net.now) (query_of a) out (bytes ++ drop n out) (none_filed n)
      no-plan e = room (theory_in file.net.now) (query_of a) out bytes _ ours none_filed (right-none e) is n (w.weight a.earliest.0) h

      -- 0
      pub done : cell_at (query_of a) cells a.end a.latest.0 ≢ no_plan → Answered (theory_in file.net.now) (query_of a) out (bytes ++ drop n out) (plan_filed n)
      done e = room (theory_in file.net.now) (query_of a) out bytes _ ours plan_filed (right-some e) is n (w.weight a.earliest.0) h
