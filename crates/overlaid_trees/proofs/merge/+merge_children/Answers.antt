use Rattle.std.proofs.Common.{◌≢◌, ◌<◌, [], sym, subst, length, arith}
use Rattle.std.specs.Prelude.{IsTrue}
use Rattle.fdt_tree.specs.Tree.{Bytes, is_node_name}
use Rattle.fdt_tree.specs.Document.{place_of, name_of, properties_of, children_of}
use Rattle.overlaid_trees.specs.PrivateGrown.{IsOpened}
use Rattle.fdt_nodes.proofs.ChildWalks.{first-below, next-below, further, held}
use Rattle.overlaid_trees.proofs.MergeLemmas.{Changes-child-merged, IsMerged-start, IsMerged-next, IsMerged-end}
use Rattle.overlaid_trees.proofs.merge.+merge_children.Goals as goal

pub loop-next-init : goal.loop-next-init
loop-next-init t c = record {
  live = c.first_child-next.ensures.live;
  below = first-below c.args.overlay.now (place_of c.args.overlay.now c.args.node) c.first_child-next.result c.first_child-next.ensures.place;
  later = c.first_child-next.ensures.later;
  target = c.requires.target_live;
  merged = IsMerged-start c.args.overlay.now c.args.node c.first_child-next.result c.args.tree.now c.args.target c.numbering.ensures c.requires.live c.first_child-next.ensures.place;
}

pub loop-next-preserved : goal.loop-next-preserved
loop-next-preserved t c =
    let s = c.args.overlay.now in
    let child = c.in-Some.child in
    let live : child < length s.places = held (λ n. n < length s.places) c.loop-next.next child c.in-Some.is c.loop-next.invariant.live in
    let one = Changes-child-merged c.loop-next.tree c.open_child.new.tree c.set_properties.new.tree c.merge_children.new.tree c.args.target c.in_ok-into.into (name_of s child) (properties_of s child) (children_of s child) c.numbering-in-Some.ensures c.loop-next.invariant.target (subst (λ (n : Bytes). IsOpened c.loop-next.tree c.open_child.new.tree c.args.target n c.in_ok-into.into) c.name.ensures c.in_ok-into.ensures) c.in_ok-set_properties.ensures c.in_ok-merge_children.ensures in
    let merged = IsMerged-next s c.args.node child c.loop-next.next c.next_sibling-next.result c.args.tree.now c.loop-next.tree c.merge_children.new.tree c.args.target c.numbering.ensures live c.requires.target_live c.in-Some.is c.next_sibling-next.ensures.place one c.loop-next.invariant.merged in
    record {
      live = c.next_sibling-next.ensures.live;
      below = next-below s (place_of s child) c.next_sibling-next.result c.next_sibling-next.ensures.place;
      later = further c.loop-next.next c.args.node child c.next_sibling-next.result c.in-Some.is c.loop-next.invariant.later c.next_sibling-next.ensures.later;
      target = omega (arith, merged.changes.longer, c.requires.target_live);
      merged = merged;
    }

pub returns : goal.returns
returns t c =
    IsMerged-end c.args.overlay.now c.args.node c.loop-next.next c.args.tree.now c.loop-next.tree c.args.target c.in_default.is c.loop-next.invariant.merged

pub open_child-requires-clause-node_name : goal.open_child-requires-clause-node_name
open_child-requires-clause-node_name t c =
    let s = c.args.overlay.now in
    let child = c.in-Some.child in
    let live : child < length s.places = held (λ n. n < length s.places) c.loop-next.next child c.in-Some.is c.loop-next.invariant.live in
    let below : place_of s child ≢ [] = held (λ n. place_of s n ≢ []) c.loop-next.next child c.in-Some.is c.loop-next.invariant.below in
    subst (λ n. IsTrue (is_node_name n)) (sym c.name.ensures) (c.names.ensures.nodes child live below)

pub set_properties-requires-clause-target_live : goal.set_properties-requires-clause-target_live
set_properties-requires-clause-target_live t c = c.in_ok-into.ensures.live
