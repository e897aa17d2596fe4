use Rattle.std.proofs.Common.{◌∙◌, sym, arith}
use Rattle.fdt_tree.specs.Document.{properties_of}
use Rattle.overlaid_trees.proofs.CopyLemmas.{moved-fits}
use Rattle.overlaid_trees.proofs.copies.moved_phandle.Goals as goal

pub overflow_add-result : goal.overflow_add-result
overflow_add-result c =
    let ps = properties_of c.args.source.now c.args.node in
    let fits = moved-fits c.args.by c.in-Some.phandle ps (sym c.in-Some.is ∙ c.u32_at.ensures) (c.requires.can_move c.args.node c.requires.live) in omega (arith, fits)
