use borrow.Author.Rules.{rules}
use Rattle.std.specs.Prelude.{Some, None, Err}
use Rattle.answer.specs.declared.Refusal.{Refusal}
use Rattle.leg.specs.declared.Window.{Window}
use Rattle.leg.specs.Price.{price_of}
use Rattle.plan.specs.Network.{Cents}
use Rattle.plan.specs.Sheet.{Step, value, value_at, Obeys, TightFor}
use Rattle.plan_file.specs.PlanFile.{query_of}
use Rattle.sheet_file.specs.InPlace.{Indexed}
use Rattle.sheet_file.specs.Window.{of_window}
use Rattle.rule_b.proofs.Turn.{is_true, is_false}
use Rattle.rule_b.specs.Rule.{Is}
use Rattle.chart.specs.Net.{net_in, theory_in}
use Rattle.chart.proofs.Net.{read}
use Rattle.gate.specs.Gate.{GateAnswer, OfSheet}
use Rattle.gate.specs.Parts.{sheet_at, Fits, Ruled, steps_in}
use Rattle.gate.proofs.Sheets.{place-is, ruled-obeys, obeys-ruled, tight-same}
use Rattle.gate.proofs.Answers.{judged-at, FoundSheet, found-sheet, sheet-none, sheet-broken, sheet-loose, sheet-done}
use Prim.Native.Nat.{ℕ, ◌<◌}
use native.Mathlib.Omega.{arith}
use mathlib.Core.Path.{◌≡◌, refl, sym, ◌∙◌, ap, subst}
use mathlib.Core.Bool.{Bool, true}
use mathlib.Core.Option.{Option}
use mathlib.Core.List.{List}
use Rattle.gate.proofs.judge_sheet.Goals.{In_ok-judged, After-tight}
use Rattle.gate.proofs.judge_sheet.Goals as goal

-- the sheet that was found
this-sheet : (c : In_ok-judged) → FoundSheet c.args.tariff.now.net.now c.args.sheet.now c.window.result (query_of c.args.plan.now.query) c.in_ok-judged.judged
this-sheet c =
    let a = c.args in
    let q = query_of a.plan.now.query in
    let w = c.window.result in
    found-sheet a.tariff.now.net.now a.sheet.now w q c.in_ok-judged.judged
    (judged-at a.tariff.now.net.now a.sheet.now a.tariff.now.size.places w q c.sheet_from.result (Some c.in_ok-judged.judged) c.in_ok-judged.ensures.ok_part
    (read a.tariff.now).places (ap of_window c.window.ensures) c.sheet_from.ensures)

-- its window is the query's
first : (c : In_ok-judged) → c.in_ok-judged.judged.window.earliest.0 ≡ (query_of c.args.plan.now.query).earliest
first c = ap (λ (w : Window). w.earliest.0) ((this-sheet c).handed.window ∙ c.window.ensures)

last : (c : In_ok-judged) → c.in_ok-judged.judged.window.latest.0 ≡ (query_of c.args.plan.now.query).latest
last c = ap (λ (w : Window). w.latest.0) ((this-sheet c).handed.window ∙ c.window.ensures)

indexed : (c : In_ok-judged) → Indexed c.in_ok-judged.judged.sheet.now (net_in c.args.tariff.now.net.now).places c.in_ok-judged.judged.index (this-sheet c).sheet
indexed c =
    let h = (this-sheet c).handed in
    subst (λ (s : List ℕ). Indexed s (net_in c.args.tariff.now.net.now).places c.in_ok-judged.judged.index (this-sheet c).sheet) (sym h.bytes) h.indexed

-- and it is one for this network
fits : (c : In_ok-judged) → Fits c.args.tariff.now c.in_ok-judged.judged
fits c = record { places = (this-sheet c).handed.places ∙ sym (read c.args.tariff.now).places; end = omega (arith, last c, c.requires.known.latest) }

-- the end is a place of it
end_low : (c : In_ok-judged) → c.args.plan.now.query.end < c.in_ok-judged.judged.places
end_low c = omega (arith, c.requires.known.end, (this-sheet c).handed.places)

-- the test of its tightness, in the definition's words
this-tight : (c : After-tight)
    → Is c.tight.result (value (steps_in c.in_ok-judged.judged (query_of c.args.plan.now.query).end) c.in_ok-judged.judged.window.latest.0 ≡ price_of c.args.plan.now.stated)
this-tight c =
    let r = c.in_ok-judged.judged in
    let place = c.place in
    let cost = price_of c.args.plan.now.stated in
    subst (λ (m : ℕ). Is c.tight.result (value (steps_in r c.args.plan.now.query.end) m ≡ cost)) (ap (λ (w : Window). w.latest.0) place.ensures.1)
    (subst (λ (ss : List Step). Is c.tight.result (value ss place.result.window.latest.0 ≡ cost))
    (place-is place.result r c.args.plan.now.query.end c.args.plan.now.query.end place.ensures.0 place.ensures.2 refl) c.tight.ensures)

pub returns-in_err-judged : goal.returns-in_err-judged
returns-in_err-judged c =
    let a = c.args in
    let q = query_of a.plan.now.query in
    let w = c.window.result in
    let said : c.from_residual.result ≡ Err Refusal.SheetFile = search rules in
    subst (λ (r : GateAnswer). OfSheet r (theory_in a.tariff.now.net.now) q (price_of a.plan.now.stated) (sheet_at a.tariff.now.net.now a.sheet.now q)) (sym said)
    (sheet-none (theory_in a.tariff.now.net.now) q (price_of a.plan.now.stated) a.sheet.now (net_in a.tariff.now.net.now).places w (sheet_at a.tariff.now.net.now a.sheet.now q)
    (judged-at a.tariff.now.net.now a.sheet.now a.tariff.now.size.places w q c.sheet_from.result None c.in_err-judged.ensures.ok_part
    (read a.tariff.now).places (ap of_window c.window.ensures) c.sheet_from.ensures))

pub obeys-requires : goal.obeys-requires
obeys-requires c =
    let p = (goal.at.obeys-requires c).In_ok-judged in
    (fits p, omega (arith, c.requires.known.start, (read c.args.tariff.now).places), omega (arith, first p, c.requires.known.earliest))

pub returns-then-not-obeys : goal.returns-then-not-obeys
returns-then-not-obeys c =
    let a = c.args in
    let t = a.tariff.now in
    let q = query_of a.plan.now.query in
    let r = c.in_ok-judged.judged in
    let p = (goal.at.returns-then-not-obeys c).In_ok-judged in
    let f = this-sheet p in
    let no-rules = is_false c.obeys.result (Ruled t.net.now r t.size.legs q.start) c.if-not-obeys.true c.obeys.ensures in
    sheet-broken (theory_in t.net.now) q (price_of a.plan.now.stated) (sheet_at t.net.now a.sheet.now q) f.sheet f.end f.is
    (λ o. no-rules (obeys-ruled t q f.sheet r c.requires (indexed p) (first p) (last p) f.steps o))

pub place-requires : goal.place-requires
place-requires c = end_low (goal.at.place-requires c).In_ok-judged

-- a sheet that passed the test of the rules obeys them
rules-hold : (c : In_ok-judged) (r : Bool) → r ≡ true → Is r (Ruled c.args.tariff.now.net.now c.in_ok-judged.judged c.args.tariff.now.size.legs (query_of c.args.plan.now.query).start)
    → Obeys (theory_in c.args.tariff.now.net.now) (query_of c.args.plan.now.query) (value_at (this-sheet c).sheet)
rules-hold c r passed is =
    let t = c.args.tariff.now in
    let q = query_of c.args.plan.now.query in
    let sheet = c.in_ok-judged.judged in
    ruled-obeys t q (this-sheet c).sheet sheet c.requires (indexed c) (first c) (last c) (this-sheet c).steps (is_true r (Ruled t.net.now sheet t.size.legs q.start) passed is)

-- and the value that the test of its tightness goes by is the end's at latest
same-tight : (c : In_ok-judged) (cost : Option Cents)
    → (value (steps_in c.in_ok-judged.judged (query_of c.args.plan.now.query).end) c.in_ok-judged.judged.window.latest.0 ≡ cost → TightFor (query_of c.args.plan.now.query) (value_at (this-sheet c).sheet) cost)
    × (TightFor (query_of c.args.plan.now.query) (value_at (this-sheet c).sheet) cost → value (steps_in c.in_ok-judged.judged (query_of c.args.plan.now.query).end) c.in_ok-judged.judged.window.latest.0 ≡ cost)
same-tight c cost =
    tight-same c.args.tariff.now (query_of c.args.plan.now.query) (this-sheet c).sheet c.in_ok-judged.judged c.requires (indexed c) (first c) (last c) (this-sheet c).steps cost

pub returns-then-not-tight : goal.returns-then-not-tight
returns-then-not-tight c =
    let a = c.args in
    let q = query_of a.plan.now.query in
    let r = c.in_ok-judged.judged in
    let net = a.tariff.now.net.now in
    let cost = price_of a.plan.now.stated in
    let p = (goal.at.returns-then-not-tight c).In_ok-judged in
    let f = this-sheet p in
    let loose = is_false c.tight.result (value (steps_in r q.end) r.window.latest.0 ≡ cost) c.if-not-tight.true (this-tight (goal.at.returns-then-not-tight c).After-tight) in
    sheet-loose (theory_in net) q cost (sheet_at net a.sheet.now q) f.sheet f.end f.is (rules-hold p c.obeys.result c.if-not-obeys.false c.obeys.ensures) (λ t. loose ((same-tight p cost).1 t))

pub returns : goal.returns
returns c =
    let a = c.args in
    let q = query_of a.plan.now.query in
    let r = c.in_ok-judged.judged in
    let net = a.tariff.now.net.now in
    let cost = price_of a.plan.now.stated in
    let p = (goal.at.returns c).In_ok-judged in
    let f = this-sheet p in
    let tight = is_true c.tight.result (value (steps_in r q.end) r.window.latest.0 ≡ cost) c.if-not-tight.false (this-tight (goal.at.returns c).After-tight) in
    sheet-done (theory_in net) q cost (sheet_at net a.sheet.now q) f.sheet f.end f.is (rules-hold p c.obeys.result c.if-not-obeys.false c.obeys.ensures) ((same-tight p cost).0 tight)
