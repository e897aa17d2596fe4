use Rattle.std.proofs.Common.{sym, ap, ◌∙◌, length}
use Rattle.fdt_tree.specs.Assembled.{face}
use Rattle.fdt_tree.proofs.Links.{or_of, reads}
use Rattle.fdt_tree.proofs.tree.Tree.prop_count.Goals as goal

pub returns : goal.returns
returns c =
    let f = reads _ _ _ _ _ _ _ c.self.invariant c.self.view_is c.node.view_is c.requires c.index.ensures in f.counted ∙ ap length (sym (or_of face (λ z. z.1) _ _ _ f.says))
