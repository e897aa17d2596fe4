use Rattle.std.proofs.Common.{◌≡◌, ◌∙◌, sym, subst, length, arith}
use Rattle.std.proofs.lemmas.List.{nil_from_length}
use Rattle.std.proofs.lemmas.Grind.{common_steps}
use Rattle.fdt_nodes.specs.Nodes.{children}
use Rattle.fdt_nodes.specs.Held.{node_of, Are}
use Rattle.fdt_nodes.proofs.ChildMapLemmas.{adding_more, adding_all}
use Rattle.fdt_nodes.proofs.path_index.children_by_name.Goals as goal

pub loop-child-preserved : goal.loop-child-preserved
loop-child-preserved c =
    adding_more c.args.tree.now _ _ _ _ c.insert.new.self c.in-Some.child c.in_ok-to_vec.field-0 c.loop-child.invariant c.in-Some.ensures.items (c.in_ok-to_vec.ensures.items_if_clones_equal (λ x y e. e) ∙ c.name.ensures) c.in_ok-insert.ensures.updates

pub returns : goal.returns
returns c =
    let empty : length c.loop-child.rest.items ≡ 0 = grind (arith, common_steps) in
    adding_all c.args.tree.now c.args.node _ _ c.loop-child.named c.numbering.ensures c.requires
    (subst (Are c.args.tree.now (children (node_of c.args.tree.now c.args.node))) (sym c.into_vec-rest.ensures) c.in_ok-children.ensures) (nil_from_length c.loop-child.rest.items empty) c.loop-child.invariant
