use Rattle.fdt_tree.specs.Document.{properties_of}
use Rattle.overlaid_trees.specs.Words.{with_all_moved}
use Rattle.overlaid_trees.proofs.ShiftLemmas.{named-of, changed-some}
use Rattle.overlaid_trees.proofs.local_words.move_in_copy.Goals as goal

pub set_prop-requires-clause-property_name : goal.set_prop-requires-clause-property_name
set_prop-requires-clause-property_name c =
    named-of (properties_of c.args.tree.now c.args.node) c.args.name.now c.in-Some.value.now (c.names.ensures.properties c.args.node c.requires) c.in-Some.ensures

pub returns-clause-ok : goal.returns-clause-ok
returns-clause-ok c =
    changed-some c.args.tree.now c.set_prop.new.self c.args.node c.args.name.now c.in-Some.value.now c.in_ok-made.made c.as_slice.result.now (with_all_moved c.args.by c.args.offsets.now) c.in-Some.ensures c.in_ok-made.ensures.ok c.as_slice.ensures c.in_ok-set_prop.ensures.ok
