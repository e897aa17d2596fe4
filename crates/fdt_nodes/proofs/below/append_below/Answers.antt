use Rattle.std.proofs.Common.{subst}
use Rattle.std.specs.Prelude.{All}
use Rattle.fdt_tree.specs.Visits.{IsLive}
use Rattle.fdt_nodes.proofs.BelowLemmas.{BelowLeft, below_start, below_more, below_same, below_end}
use Rattle.fdt_nodes.proofs.below.append_below.Goals as goal

pub loop-visit-init : goal.loop-visit-init
loop-visit-init c =
    let d = c.args.tree.now in
    let walk = c.into_iter-visit-iterator.result in
    below_start d c.args.node _ walk c.numbering.ensures c.requires (cc (c.below-visit-items.ensures.visits, c.into_iter-visit-iterator.ensures.into_iter_gives)) (subst (λ xs. All (IsLive d) xs) (cc c.into_iter-visit-iterator.ensures.into_iter_gives) c.below-visit-items.ensures.live)

pub loop-visit-preserved-in-Continue-1 : goal.loop-visit-preserved-in-Continue-1
loop-visit-preserved-in-Continue-1 c =
    let d = c.args.tree.now in
    let left = c.next.new.self in
    below_more d c.args.node _ _ _ c.in-Some.visit c.in-Some-entered.child left (subst (λ xs. BelowLeft d c.args.node c.args.found.now c.loop-visit.found xs) c.in-Some.ensures.steps c.loop-visit.invariant) c.in-Some-entered.ensures c.in_ok-push.ensures.ok

pub loop-visit-preserved : goal.loop-visit-preserved
loop-visit-preserved c =
    let d = c.args.tree.now in
    let left = c.next.new.self in
    below_same d c.args.node _ _ c.in-Some.visit left (subst (λ xs. BelowLeft d c.args.node c.args.found.now c.loop-visit.found xs) c.in-Some.ensures.steps c.loop-visit.invariant) (cc (c.entered.ensures, c.in_default.is))

pub returns-clause-nodes : goal.returns-clause-nodes
returns-clause-nodes c = below_end c.args.tree.now c.args.node _ _ c.loop-visit.visit-iterator c.in-None.ensures.steps.0 c.loop-visit.invariant

pub returns-clause-live : goal.returns-clause-live
returns-clause-live c = c.loop-visit.invariant.live
