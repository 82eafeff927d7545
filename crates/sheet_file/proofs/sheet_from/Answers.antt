-- `sheet_file::sheet_from`: the places that were read, and then the others.
use Rattle.source.specs.Source.{file_of}
use Rattle.sheet_file.specs.SheetFile.{top, places, sheet_of}
use Rattle.sheet_file.specs.InPlace.{Indexed}
use mathlib.Core.Bool.{true}
use Rattle.sheet_file.specs.Window.{of_window}
use Rattle.network.specs.Reading.{found}
use Rattle.sheet_file.proofs.Laws.{tested-true}
use Rattle.sheet_file.proofs.Found.{partly_none, partly_more, partly-nothing, partly-all, judged-places, judged-tail, sheet-is, placed}
use native.Mathlib.Omega.{arith}
use mathlib.Core.Path.{◌≡◌, refl, sym, ◌∙◌}
use lib.ListN.{length-set}
use Rattle.sheet_file.proofs.sheet_from.Goals.{After-ends}
use Rattle.sheet_file.proofs.sheet_from.Goals as goal

pub loop-k-init : goal.loop-k-init
loop-k-init c =
    let a = c.args in
    (c.requires, omega arith, refl, partly_none a.sheet.now (of_window a.window) a.places _)

pub returns-in_err-place : goal.returns-in_err-place
returns-in_err-place c =
    let a = c.args in
    let l = c.loop-k in
    let head = tested-true c.top_sound.result (top a.places (file_of a.sheet.now) 0) tt 15 c.if-not-top_sound.false c.top_sound.ensures in
    rw c.from_residual.ensures
    (judged-places a.sheet.now a.window a.places head
    (partly-nothing a.sheet.now (of_window a.window) a.places l.k l.place l.index l.invariant.3 c.loop-k-test.true c.in_err-place.ensures))

pub loop-k-preserved : goal.loop-k-preserved
loop-k-preserved c =
    let a = c.args in
    let l = c.loop-k in
    let q = of_window a.window in
    let place = c.in_ok-place in (
      omega arith,
      omega (arith, place.ensures.2),
      simp length-set l.invariant.2,
      partly_more a.sheet.now q a.places l.k l.place l.index l.invariant.3 place.place c.loop-k-test.true (omega arith) place.ensures.0,
    )

-- all places are read
head : (c : After-ends) → top c.args.places (file_of c.args.sheet.now) 0 ≡ found tt 15
head c = tested-true c.top_sound.result (top c.args.places (file_of c.args.sheet.now) 0) tt 15 c.if-not-top_sound.false c.top_sound.ensures

all : (c : After-ends) → places c.args.places (of_window c.args.window) (file_of c.args.sheet.now) 15 ≡ found c.loop-k.invariant.3.before c.loop-k.place
all c =
    let a = c.args in
    let l = c.loop-k in
    partly-all a.sheet.now (of_window a.window) a.places l.k l.place l.index l.invariant.3 (omega arith)

indexed : (c : After-ends) → Indexed c.args.sheet.now c.args.places c.loop-k.index c.loop-k.invariant.3.before
indexed c = let same : c.loop-k.k ≡ c.args.places = omega arith in rw (← same) c.loop-k.invariant.3.indexed

pub returns-then-not-ends : goal.returns-then-not-ends
returns-then-not-ends c =
    let a = c.args in
    let l = c.loop-k in
    let p = (goal.at.returns-then-not-ends c).After-ends in
    judged-tail a.sheet.now a.window a.places (head p) l.invariant.3.before l.place (all p) (sym c.ends.ensures ∙ c.if-not-ends.true)

-- the sheet that the file stands for
sheet : (c : After-ends) → c.ends.result ≡ true
    → sheet_of c.args.places (of_window c.args.window) c.args.sheet.now ≡ found c.loop-k.invariant.3.before c.loop-k.place
sheet c e = sheet-is c.args.sheet.now c.args.window c.args.places (head c) c.loop-k.invariant.3.before c.loop-k.place (all c) (sym c.ends.ensures ∙ e)

pub invariant_of-result : goal.invariant_of-result
invariant_of-result c =
    let a = c.args in
    let l = c.loop-k in
    let p = (goal.at.invariant_of-result c).After-ends in
    record { placed = placed a.places (of_window a.window) a.sheet.now l.invariant.3.before l.place l.index c.requires (sheet p c.if-not-ends.false) (indexed p) }

pub returns : goal.returns
returns c =
    let p = (goal.at.returns c).After-ends in
    rw (sheet p c.if-not-ends.false) (record { bytes = refl; places = refl; window = refl; indexed = indexed p })
