use Rattle.std.proofs.Common.{◌≡◌, Some, true, false, length, sym, ap, ◌∙◌, arith}
use Rattle.std.specs.Prelude.{bytes_eq}
use Rattle.fdt_tree.proofs.Chains.{walk, named_first, named_later}
use Rattle.fdt_tree.proofs.slots.find_from.Goals as goal

pub returns-then-eq : goal.returns-then-eq
returns-then-eq c =
    let w = walk _ _ _ _ c.requires.chained c.in-Some.is c.loop-next.invariant.live c.index-slots-number.is in let same : bytes_eq c.index-slots-number.result.name c.args.name.now ≡ true = ap (λ z. bytes_eq z c.args.name.now) (sym c.as_slice.ensures) ∙ (sym c.eq.ensures ∙ c.if-eq.true) in ap Some c.as_slice-then-eq.ensures ∙ (sym (named_first _ _ _ _ w.0 same) ∙ c.loop-next.invariant.same)

pub loop-next-smaller : goal.loop-next-smaller
loop-next-smaller c =
    let w = walk _ _ _ _ c.requires.chained c.in-Some.is c.loop-next.invariant.live c.index-slots-number.is in omega (arith, ap length w.0)

pub loop-next-preserved : goal.loop-next-preserved
loop-next-preserved c =
    let w = walk _ _ _ _ c.requires.chained c.in-Some.is c.loop-next.invariant.live c.index-slots-number.is in let other : bytes_eq c.index-slots-number.result.name c.args.name.now ≡ false = ap (λ z. bytes_eq z c.args.name.now) (sym c.as_slice.ensures) ∙ (sym c.eq.ensures ∙ c.if-eq.false) in record {
      live = w.1;
      same = sym (named_later _ _ _ _ w.0 other) ∙ c.loop-next.invariant.same;
    }
