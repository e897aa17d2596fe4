use Rattle.std.proofs.Common.{◌≡◌, ◌≢◌, [], ◌<◌, length, Some, None, subst, arith}
use Rattle.std.specs.Prelude.{ℕ, Option, IfSome}
use Rattle.guest_fdt.specs.Copies.{cleaned_in}
use Rattle.fdt_tree.specs.Document.{place_of}
use Rattle.fdt_nodes.proofs.ChildWalks.{first-below, next-below}
use Rattle.guest_fdt.proofs.Copying.{IsCopied-start, IsCopied-next, IsCopied-end}
use Rattle.tree_parts.proofs.Growing.{Grows-live}
use Rattle.guest_fdt.proofs.copies.+copy_children.Goals as goal

pub loop-next-init : goal.loop-next-init
loop-next-init t c = record {
  live = c.first_child-next.ensures.live;
  below = first-below c.args.source.now (place_of c.args.source.now c.args.node) c.first_child-next.result c.first_child-next.ensures.place;
  later = c.first_child-next.ensures.later;
  parent = c.requires.parent_live;
  copied = IsCopied-start c.args.source.now c.args.node c.first_child-next.result c.args.tree.now c.args.parent c.numbering.ensures c.requires.live c.first_child-next.ensures.place;
}

further : (here : Option ℕ) (node child : ℕ) (next : Option ℕ) → here ≡ Some child → IfSome here (λ n. node < n) → IfSome next (λ n. child < n) → IfSome next (λ n. node < n)
further None node child next is low high = absurd (cc)
further (Some n) node child None is low high = tt
further (Some n) node child (Some m) is low high = let same : n ≡ child = cc in omega arith

held : (P : ℕ → Type 0) (here : Option ℕ) (child : ℕ) → here ≡ Some child → IfSome here P → P child
held P None child is h = absurd (cc)
held P (Some n) child is h = let same : n ≡ child = cc in subst P same h

pub loop-next-preserved : goal.loop-next-preserved
loop-next-preserved t c =
    let live : c.in-Some.child < length c.args.source.now.places = held (λ n. n < length c.args.source.now.places) c.loop-next.next c.in-Some.child c.in-Some.is c.loop-next.invariant.live in
    let copied = IsCopied-next c.args.source.now c.args.node c.in-Some.child c.loop-next.next c.next_sibling-next.result c.args.tree.now c.loop-next.tree c.copy_node.new.tree c.copy_children.new.tree c.args.parent c.in_ok-copy.copy c.numbering.ensures c.numbering-in-Some.ensures live c.requires.parent_live c.loop-next.invariant.parent c.in-Some.is c.next_sibling-next.ensures.place c.in_ok-copy.ensures.ok c.in_ok-copy.ensures.newest c.in_ok-copy_children.ensures c.loop-next.invariant.copied in
    record {
      live = c.next_sibling-next.ensures.live;
      below = next-below c.args.source.now (place_of c.args.source.now c.in-Some.child) c.next_sibling-next.result c.next_sibling-next.ensures.place;
      later = further c.loop-next.next c.args.node c.in-Some.child c.next_sibling-next.result c.in-Some.is c.loop-next.invariant.later c.next_sibling-next.ensures.later;
      parent = Grows-live c.args.tree.now c.copy_children.new.tree c.args.parent (cleaned_in copied.before) c.args.parent copied.copies c.requires.parent_live;
      copied = copied;
    }

pub returns : goal.returns
returns t c =
    IsCopied-end c.args.source.now c.args.node c.loop-next.next c.args.tree.now c.loop-next.tree c.args.parent c.in_default.is c.loop-next.invariant.copied

pub copy_node-requires-clause-below : goal.copy_node-requires-clause-below
copy_node-requires-clause-below t c = held (λ n. place_of c.args.source.now n ≢ []) c.loop-next.next c.in-Some.child c.in-Some.is c.loop-next.invariant.below
