use Rattle.std.proofs.Common.{suc, Some, sym, ap, subst}
use Rattle.fdt_tree.specs.PrivateTurns.{opened_after, IsTurn}
use Rattle.fdt_tree.specs.declared.walk.Step.TheVariants.{Left}
use Rattle.fdt_tree.specs.declared.walk.Turn.{Turn}
use Rattle.fdt_tree.specs.declared.walk.Visit.TheVariants.{Leave}
use Rattle.fdt_tree.proofs.Walking.{sibling-next, parent-next, end-next, sibling-beside, parent-higher}
use Rattle.fdt_tree.proofs.walk.turn_past.Goals as goal

pub returns-in-Some-clause-turn : goal.returns-in-Some-clause-turn
returns-in-Some-clause-turn c =
    let d = c.args.tree.now in
    subst (λ (turn : Turn). IsTurn d c.args.node Left turn) (sym c.entering.ensures) (record {
      first = sibling-next d c.args.node c.in-Some.sibling c.requires.numbered c.requires.live c.in-Some.ensures.live (cc c.in-Some.ensures.place);
      visit = c.in-Some.ensures.live;
      live = c.in-Some.ensures.live;
      opened = ap (λ n. Some (suc n)) (sym (sibling-beside d c.args.node c.in-Some.sibling (cc c.in-Some.ensures.place)));
    })

pub returns-in-Some-parent-clause-turn : goal.returns-in-Some-parent-clause-turn
returns-in-Some-parent-clause-turn c =
    let d = c.args.tree.now in
    subst (λ (turn : Turn). IsTurn d c.args.node Left turn) (sym c.leaving.ensures) (record {
      first = parent-next d c.args.node c.in-Some-parent.above c.requires.numbered c.requires.live (cc c.in_default.ensures.place) (cc c.in-Some-parent.ensures.place);
      visit = tt;
      live = c.in-Some-parent.ensures.live;
      opened = ap (opened_after Leave) (parent-higher d c.args.node c.in-Some-parent.above (cc c.in-Some-parent.ensures.place));
    })

pub returns-in-None-clause-end : goal.returns-in-None-clause-end
returns-in-None-clause-end c = end-next c.args.tree.now c.args.node (cc c.in-None.ensures.place)
