-- What a page holds once an input was judged.
use Rattle.std.specs.Prelude.{ℕ, ◌≤◌, ◌≡◌, List, Result, Ok, Err, length, take}
use Rattle.answer.specs.declared.Refusal.{Refusal}
use Rattle.answer.specs.Numbers.{number_of}
use Rattle.text.specs.declared.Page.{Page}
use Rattle.report.specs.Report.{answer_text}

-- the page's text keeps a promise; with a refusal nothing is written, and the refusal's line would keep it
abbrev pub Fills : (List ℕ → Type 0) → Page → Page → Result Unit Refusal → Type 0
Fills Promise old new (Ok done) = Promise (take new.at new.out.now) × (new.at ≤ length new.out.now) × (new.out.ghost_name ≡ old.out.ghost_name)
Fills Promise old new (Err why) = Promise (answer_text (number_of why)) × (new.at ≡ old.at) × (length new.out.now ≡ length old.out.now)
    × (new.out.ghost_name ≡ old.out.ghost_name)
