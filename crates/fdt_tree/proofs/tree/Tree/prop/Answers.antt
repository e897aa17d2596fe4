use Rattle.std.proofs.Common.{ap, ◌∙◌}
use Rattle.fdt_tree.specs.Tree.{property_of}
use Rattle.fdt_tree.proofs.Links.{reads}
use Rattle.fdt_tree.proofs.Additions.{all_of, live_of}
use Rattle.fdt_tree.proofs.tree.Tree.prop.Goals as goal

pub find_from-requires-clause-live : goal.find_from-requires-clause-live
find_from-requires-clause-live c =
    let f = reads _ _ _ _ _ _ _ c.self.invariant c.self.view_is c.node.view_is c.requires c.index.ensures in live_of _ _ _ _ _ f c.as_slice.ensures.value

pub returns : goal.returns
returns c =
    let f = reads _ _ _ _ _ _ _ c.self.invariant c.self.view_is c.node.view_is c.requires c.index.ensures in c.find_from.ensures ∙ ap (λ ps. property_of ps c.args.name.now) (all_of _ _ _ _ _ f c.as_slice.ensures.value)
