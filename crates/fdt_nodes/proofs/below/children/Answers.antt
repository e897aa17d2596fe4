use Rattle.fdt_nodes.proofs.Turns.{children_all, children_more, children_fewer, children_none}
use Rattle.fdt_nodes.proofs.below.children.Goals as goal

pub loop-next-init : goal.loop-next-init
loop-next-init c = children_all c.args.tree.now c.args.node _ _ c.numbering.ensures c.requires c.first_child-next.ensures.place c.first_child-next.ensures.live c.new-children.ensures

pub next_sibling-next-requires : goal.next_sibling-next-requires
next_sibling-next-requires c = c.loop-next.invariant.next c.in-Some.child c.in-Some.is

pub loop-next-smaller : goal.loop-next-smaller
loop-next-smaller c =
    children_fewer c.args.tree.now _ _ c.loop-next.next _ c.in-Some.child c.loop-next.invariant c.in-Some.is
    (record { live = c.next_sibling-next.ensures.live; place = c.next_sibling-next.ensures.place })

pub loop-next-preserved : goal.loop-next-preserved
loop-next-preserved c =
    children_more c.args.tree.now _ _ _ c.loop-next.next _ c.in-Some.child c.loop-next.invariant c.in-Some.is c.in_ok-push.ensures.ok
    (record { live = c.next_sibling-next.ensures.live; place = c.next_sibling-next.ensures.place })

pub returns : goal.returns
returns c = children_none c.args.tree.now _ _ c.loop-next.next c.in_default.is c.loop-next.invariant
