use Rattle.std.proofs.Common.{◌∙◌, ◌<◌, sym, length}
use Rattle.fdt_nodes.proofs.ChildWalks.{further, held}
use Rattle.overlaid_trees.proofs.DepthLemmas.{IsMeasured-start, IsMeasured-none, IsMeasured-deep, IsMeasured-next, IsMeasured-end}
use Rattle.overlaid_trees.proofs.depths.+fits.Goals as goal
use Rattle.overlaid_trees.proofs.depths.+fits.Goals.{then-room-eq0-via-then-room-eq0, then-room-eq0-via-else-room-eq0+then-not-fits}

pub loop-next-init : goal.loop-next-init
loop-next-init t c = record {
  live = c.first_child-next.ensures.live;
  later = c.first_child-next.ensures.later;
  measured = IsMeasured-start c.args.tree.now c.args.node c.args.room c.first_child-next.result c.numbering.ensures c.requires c.first_child-next.ensures.place;
}

pub returns-then-room-eq0 : goal.returns-then-room-eq0
returns-then-room-eq0 t c =
    let d = c.args.tree.now in
    let child = c.in-Some.child in
    let live : child < length d.places = held (λ n. n < length d.places) c.loop-next.next child c.in-Some.is c.loop-next.invariant.live in
    elim c.then-room-eq0.branch [
      | then-room-eq0-via-then-room-eq0 w ↦ sym (IsMeasured-none d c.args.node child c.args.room c.loop-next.next c.next_sibling-next.result c.numbering.ensures live c.in-Some.is c.next_sibling-next.ensures.place c.loop-next.invariant.measured w.if-room-eq0.true)
      | then-room-eq0-via-else-room-eq0+then-not-fits w ↦ sym (IsMeasured-deep d c.args.node child c.args.room c.loop-next.next c.next_sibling-next.result c.numbering.ensures live c.in-Some.is c.next_sibling-next.ensures.place c.loop-next.invariant.measured w.if-room-eq0.false (sym w.fits.ensures ∙ w.if-not-fits.true))
    ]

pub loop-next-preserved : goal.loop-next-preserved
loop-next-preserved t c =
    let d = c.args.tree.now in
    let child = c.in-Some.child in
    let live : child < length d.places = held (λ n. n < length d.places) c.loop-next.next child c.in-Some.is c.loop-next.invariant.live in
    record {
      live = c.next_sibling-next.ensures.live;
      later = further c.loop-next.next c.args.node child c.next_sibling-next.result c.in-Some.is c.loop-next.invariant.later c.next_sibling-next.ensures.later;
      measured = IsMeasured-next d c.args.node child c.args.room c.loop-next.next c.next_sibling-next.result c.numbering.ensures live c.in-Some.is c.next_sibling-next.ensures.place c.loop-next.invariant.measured c.if-room-eq0.false (sym c.fits.ensures ∙ c.if-not-fits.false);
    }

pub returns : goal.returns
returns t c = sym (IsMeasured-end c.args.tree.now c.args.node c.args.room c.loop-next.next c.in_default.is c.loop-next.invariant.measured)
