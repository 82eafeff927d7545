-- `table::fill`: tariff, chains, outset and sweep together.
use lib.ListN.{replicate}
use Rattle.table.proofs.Filling.{start_fits, start-low, fill_begins, fill_done, outset-long}
use mathlib.Core.Path.{◌≡◌, refl, ◌∙◌}
use Rattle.table.proofs.fill.Goals as goal

pub returns : goal.returns
returns c =
    let a = c.args in
    let long = c.sweep.auto.cells ∙ c.outset.auto.cells in
    let same : c.of-tariff.result.net.now ≡ a.file.net.now = cc in
    fill_done a.file a.start a.window a.cells.now c.requires c.sweep.new.cells c.sweep.new.low long (rw same at c.sweep.ensures)

pub outset-requires : goal.outset-requires
outset-requires c =
    let a = c.args in (
      start_fits a.file a.start a.window a.cells.now c.requires c.width.result c.width.ensures,
      start-low a.file a.start a.window a.cells.now c.requires,
    )

pub sweep-requires : goal.sweep-requires
sweep-requires c =
    let a = c.args in
    let o = c.outset in
    let f = c.requires in
    let same : c.of-tariff.result.net.now ≡ a.file.net.now = cc in (
      outset-long a.start c.width.result a.cells.now o.new.cells (replicate 64 0) o.new.low o.ensures refl,
      rw same (fill_begins a.file a.start a.window a.cells.now f c.width.result o.new.cells (replicate 64 0) o.new.low c.width.ensures refl o.ensures),
    )
