use Rattle.std.proofs.Common.{Some, length, sym, ap, ◌∙◌, arith}
use Rattle.fdt_tree.proofs.Chains.{walk, get-first, get-later}
use Rattle.fdt_tree.proofs.slots.slot_after.Goals as goal

pub returns-then-left-eq0 : goal.returns-then-left-eq0
returns-then-left-eq0 c =
    let w = walk _ _ _ _ c.requires.chained c.in-Some.is c.loop-next.invariant.live c.index-slots-number.is in sym c.loop-next.invariant.same ∙ (get-first _ _ _ _ w.0 c.if-left-eq0.true ∙ (ap (λ z. Some (z, c.index-slots-number.result.value)) (sym c.as_slice.ensures) ∙ ap (λ z. Some (c.as_slice.result.now, z)) (sym c.as_slice-then-left-eq0.ensures)))

pub loop-next-smaller : goal.loop-next-smaller
loop-next-smaller c =
    let w = walk _ _ _ _ c.requires.chained c.in-Some.is c.loop-next.invariant.live c.index-slots-number.is in omega (arith, ap length w.0)

pub loop-next-preserved : goal.loop-next-preserved
loop-next-preserved c =
    let w = walk _ _ _ _ c.requires.chained c.in-Some.is c.loop-next.invariant.live c.index-slots-number.is in record {
      live = w.1;
      within = omega (arith, ap length w.0, c.loop-next.invariant.within, c.if-left-eq0.false);
      same = sym (get-later _ _ _ _ w.0 c.if-left-eq0.false) ∙ c.loop-next.invariant.same;
    }
