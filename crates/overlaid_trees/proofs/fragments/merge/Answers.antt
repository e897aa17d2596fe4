use Rattle.std.proofs.Common.{rules, ◌≡◌, ◌<◌, length, inl, inr, refl, Err}
use Rattle.fdt_nodes.proofs.ChildWalks.{held}
use Rattle.overlaid_trees.proofs.FragmentLemmas.{IsLeft-start, IsLeft-next, IsLeft-stop}
use Rattle.overlaid_trees.proofs.fragments.merge.Goals as goal

pub loop-next-init : goal.loop-next-init
loop-next-init c = record {
  live = c.first_child-next.ensures.live;
  left = IsLeft-start c.args.base.tree c.args.base.tree c.args.overlay.now c.root.result c.first_child-next.result c.numbering.ensures c.root.ensures.live c.root.ensures.place c.first_child-next.ensures.place refl;
}

pub loop-next-preserved : goal.loop-next-preserved
loop-next-preserved c =
    let d = c.args.overlay.now in
    let child = c.in-Some.child in
    let live : child < length d.places = held (λ n. n < length d.places) c.loop-next.next child c.in-Some.is c.loop-next.invariant.live in
    record {
      live = c.next_sibling-next.ensures.live;
      left = IsLeft-next c.args.base.tree d child c.loop-next.next c.next_sibling-next.result c.loop-next.made.tree c.numbering.ensures live c.in-Some.is c.next_sibling-next.ensures.place c.loop-next.invariant.left c.merge_child.new.tree.tree c.in_ok-merge_child.ensures.ok;
    }

pub returns-in_err-merge_child-clause-refused : goal.returns-in_err-merge_child-clause-refused
returns-in_err-merge_child-clause-refused c =
    let d = c.args.overlay.now in
    let child = c.in-Some.child in
    let live : child < length d.places = held (λ n. n < length d.places) c.loop-next.next child c.in-Some.is c.loop-next.invariant.live in
    let handed : c.from_residual.result ≡ Err (c.in_err-merge_child.field-0.0) = search rules in
    rw handed elim c.in_err-merge_child.ensures.refused [
      | inl memory ↦ inl memory
      | inr one ↦ inr (IsLeft-stop c.args.base.tree d child c.loop-next.next c.next_sibling-next.result c.loop-next.made.tree c.numbering.ensures live c.in-Some.is c.next_sibling-next.ensures.place c.loop-next.invariant.left (c.in_err-merge_child.field-0.0) one)
    ]
