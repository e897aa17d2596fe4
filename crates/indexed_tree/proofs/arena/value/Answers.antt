use Rattle.std.proofs.Common.{◌∙◌, ap, sym}
use Rattle.fdt_tree.specs.Tree.{property_of}
use Rattle.indexed_tree.specs.declared.entry.Entry.{Entry}
use Rattle.indexed_tree.specs.PrivateArena.{held}
use Rattle.indexed_tree.proofs.Settings.{properties-at}
use Rattle.indexed_tree.proofs.arena.value.Goals as goal

pub returns : goal.returns
returns c =
    c.get.ensures ∙ (ap (λ (e : Entry). property_of e.properties c.args.name.now) (sym c.index-entries-node.is) ∙ ap (λ ps. property_of ps c.args.name.now) (sym (properties-at (held c.args.entries.now) c.args.entries.now c.args.node c.index-entries-node.result c.requires.held c.requires.live c.index-entries-node.is)))
