use Rattle.std.proofs.Common.{◌∙◌, sym}
use Rattle.passthrough_dtb.specs.PrivateCounts.{AreCells}
use Rattle.passthrough_dtb.proofs.CountLemmas.{said_above, kept}
use Rattle.passthrough_dtb.proofs.KnownNodes.{one_known}
use Rattle.passthrough_dtb.proofs.counts.cells_once.Goals as goal

pub returns-in-Some-get-clause-cells : goal.returns-in-Some-get-clause-cells
returns-in-Some-get-clause-cells c =
    sym (said_above c.args.tree.now c.args.node c.in-Some.above c.in-Some.ensures.place)
    ∙ (kept c.args.tree.now c.in-Some.above c.in-Some-get.cells.now _ c.in-Some-get.ensures.value (c.requires.counts c.in-Some.above)).said

pub returns-in-Some-get-clause-within : goal.returns-in-Some-get-clause-within
returns-in-Some-get-clause-within c = (kept c.args.tree.now c.in-Some.above c.in-Some-get.cells.now _ c.in-Some-get.ensures.value (c.requires.counts c.in-Some.above)).within

pub returns-clause-counts : goal.returns-clause-counts
returns-clause-counts c =
    one_known (AreCells c.args.tree.now) c.args.counts.now c.insert.new.self c.in-Some.above c.cells_of-cells.result c.requires.counts c.in_ok-insert.ensures.updates (record {
      said = said_above c.args.tree.now c.args.node c.in-Some.above c.in-Some.ensures.place ∙ c.cells_of-cells.ensures.cells;
      within = c.cells_of-cells.ensures.within;
    })
