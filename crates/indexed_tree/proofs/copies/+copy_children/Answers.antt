use Rattle.std.proofs.Common.{◌≢◌, [], ◌<◌, length}
use Rattle.fdt_tree.specs.Document.{place_of}
use Rattle.fdt_nodes.proofs.ChildWalks.{first-below, next-below, further, held}
use Rattle.indexed_tree.proofs.CopyLemmas.{IsCopied-start, IsCopied-next, IsCopied-end}
use Rattle.tree_parts.proofs.Growing.{Grows-live}
use Rattle.indexed_tree.proofs.copies.+copy_children.Goals as goal

pub loop-next-init : goal.loop-next-init
loop-next-init t c = record {
  live = c.first_child-next.ensures.live;
  below = first-below c.args.source.now (place_of c.args.source.now c.args.node) c.first_child-next.result c.first_child-next.ensures.place;
  later = c.first_child-next.ensures.later;
  parent = c.requires.parent_live;
  copied = IsCopied-start c.args.source.now c.args.node c.first_child-next.result c.args.tree.now c.args.parent c.numbering.ensures c.requires.live c.first_child-next.ensures.place;
}

pub loop-next-preserved : goal.loop-next-preserved
loop-next-preserved t c =
    let live : c.in-Some.child < length c.args.source.now.places = held (λ n. n < length c.args.source.now.places) c.loop-next.next c.in-Some.child c.in-Some.is c.loop-next.invariant.live in
    let copied = IsCopied-next c.args.source.now c.args.node c.in-Some.child c.loop-next.next c.next_sibling-next.result c.args.tree.now c.loop-next.tree c.copy_node.new.tree c.copy_children.new.tree c.args.parent c.in_ok-copy.copy c.numbering.ensures c.numbering-in-Some.ensures live c.requires.parent_live c.loop-next.invariant.parent c.in-Some.is c.next_sibling-next.ensures.place c.in_ok-copy.ensures.ok c.in_ok-copy.ensures.newest c.in_ok-copy_children.ensures c.loop-next.invariant.copied in
    record {
      live = c.next_sibling-next.ensures.live;
      below = next-below c.args.source.now (place_of c.args.source.now c.in-Some.child) c.next_sibling-next.result c.next_sibling-next.ensures.place;
      later = further c.loop-next.next c.args.node c.in-Some.child c.next_sibling-next.result c.in-Some.is c.loop-next.invariant.later c.next_sibling-next.ensures.later;
      parent = Grows-live c.args.tree.now c.copy_children.new.tree c.args.parent copied.before c.args.parent copied.copies c.requires.parent_live;
      copied = copied;
    }

pub returns : goal.returns
returns t c =
    IsCopied-end c.args.source.now c.args.node c.loop-next.next c.args.tree.now c.loop-next.tree c.args.parent c.in_default.is c.loop-next.invariant.copied

pub copy_node-requires-clause-below : goal.copy_node-requires-clause-below
copy_node-requires-clause-below t c = held (λ n. place_of c.args.source.now n ≢ []) c.loop-next.next c.in-Some.child c.in-Some.is c.loop-next.invariant.below
