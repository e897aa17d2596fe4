use Rattle.std.proofs.Common.{suc, Some, refl, sym, ap, subst}
use Rattle.fdt_tree.specs.PrivateTurns.{IsTurn}
use Rattle.fdt_tree.specs.declared.walk.Step.TheVariants.{Entered}
use Rattle.fdt_tree.specs.declared.walk.Turn.{Turn}
use Rattle.fdt_tree.proofs.Walking.{child-next, no-child-next, child-deeper}
use Rattle.fdt_tree.proofs.walk.turn_inside.Goals as goal

pub returns-in-Some : goal.returns-in-Some
returns-in-Some c =
    let d = c.args.tree.now in
    subst (λ (turn : Turn). IsTurn d c.args.node Entered turn) (sym c.entering.ensures) (record {
      first = child-next d c.args.node c.in-Some.child c.requires.numbered c.requires.live c.in-Some.ensures.live (cc c.in-Some.ensures.place);
      visit = c.in-Some.ensures.live;
      live = c.in-Some.ensures.live;
      opened = ap (λ n. Some (suc n)) (sym (child-deeper d c.args.node c.in-Some.child (cc c.in-Some.ensures.place)));
    })

pub returns-in-None : goal.returns-in-None
returns-in-None c =
    let d = c.args.tree.now in
    subst (λ (turn : Turn). IsTurn d c.args.node Entered turn) (sym c.leaving.ensures) (record {
      first = no-child-next d c.args.node c.requires.numbered c.requires.live (cc c.in-None.ensures.place);
      visit = tt;
      live = c.requires.live;
      opened = refl;
    })
