use Rattle.std.proofs.Common.{◌≡◌, Some}
use Rattle.std.specs.Prelude.{codes}
use Rattle.fdt_tree.specs.Document.{name_of, properties_of, children_of}
use Rattle.overlaid_trees.specs.Values.{first_child}
use Rattle.overlaid_trees.specs.PrivateGrown.{tree_of}
use Rattle.overlaid_trees.proofs.FragmentLemmas.{content-none, content-some, child-none, child-ok, child-refused}
use Rattle.overlaid_trees.proofs.fragments.merge_child.Goals as goal

pub returns-in-None-clause-ok : goal.returns-in-None-clause-ok
returns-in-None-clause-ok c =
    let d = c.args.overlay.now in
    child-none c.args.tree.now.tree (name_of d c.args.child) (properties_of d c.args.child) (children_of d c.args.child) (content-none d c.args.child (codes "__overlay__") c.in-None.ensures.place)

pub returns-in-Some-clause-ok : goal.returns-in-Some-clause-ok
returns-in-Some-clause-ok c =
    let d = c.args.overlay.now in
    let there : first_child (codes "__overlay__") (children_of d c.args.child) ≡ Some (tree_of d c.in-Some.content) = content-some d c.args.child c.in-Some.content (codes "__overlay__") c.numbering.ensures c.requires c.in-Some.ensures.live c.in-Some.ensures.place in
    child-ok c.merge_fragment.result c.args.tree.now.tree c.merge_fragment.new.tree.tree (name_of d c.args.child) (properties_of d c.args.child) (children_of d c.args.child) (tree_of d c.in-Some.content) there c.merge_fragment.ensures.ok

pub returns-in-Some-clause-refused : goal.returns-in-Some-clause-refused
returns-in-Some-clause-refused c =
    let d = c.args.overlay.now in
    let there : first_child (codes "__overlay__") (children_of d c.args.child) ≡ Some (tree_of d c.in-Some.content) = content-some d c.args.child c.in-Some.content (codes "__overlay__") c.numbering.ensures c.requires c.in-Some.ensures.live c.in-Some.ensures.place in
    child-refused c.merge_fragment.result c.args.tree.now.tree (name_of d c.args.child) (properties_of d c.args.child) (children_of d c.args.child) (tree_of d c.in-Some.content) there c.merge_fragment.ensures.refused
