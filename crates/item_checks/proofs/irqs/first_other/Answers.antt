use Rattle.std.proofs.Common.{◌≡◌, ◌+◌, true, false, Bool, get_or, drop, Some, sym, ap, ◌∙◌}
use Rattle.std.specs.Prelude.{option_map}
use Rattle.std.proofs.lemmas.List.{drop_more, drop_all}
use Rattle.item_checks.specs.declared.state.Taker.{Taker}
use Rattle.item_checks.specs.Standing.{is_other, first_other}
use Rattle.item_checks.proofs.RegionLemmas.{found, missed}
use Rattle.item_checks.proofs.irqs.first_other.Goals as goal

pub returns-then-is_other : goal.returns-then-is_other
returns-then-is_other c =
    let d : Taker = c.taker-item.result in
    let es = c.args.takers.now in
    let i = c.loop-taker.taker-index in
    let test : Taker → Bool = is_other c.args.number c.args.guest in
    let same : d ≡ get_or es i d = c.taker-item.is in
    let here : test (get_or es i d) ≡ true = ap test (sym same) ∙ sym c.is_other.ensures ∙ c.if-is_other.true in
    ap (λ (one : Taker). Some one.item) same ∙ ap (option_map (λ (one : Taker). one.item)) (sym (found test (get_or es i d) (drop (i + 1) es) here)) ∙ ap (first_other c.args.number c.args.guest) (sym (drop_more es i d c.loop-taker-test.true)) ∙ c.loop-taker.invariant

pub loop-taker-preserved : goal.loop-taker-preserved
loop-taker-preserved c =
    let d : Taker = c.taker-item.result in
    let es = c.args.takers.now in
    let i = c.loop-taker.taker-index in
    let test : Taker → Bool = is_other c.args.number c.args.guest in
    let same : d ≡ get_or es i d = c.taker-item.is in
    let here : test (get_or es i d) ≡ false = ap test (sym same) ∙ sym c.is_other.ensures ∙ c.if-is_other.false in
    ap (option_map (λ (one : Taker). one.item)) (sym (missed test (get_or es i d) (drop (i + 1) es) here)) ∙ ap (first_other c.args.number c.args.guest) (sym (drop_more es i d c.loop-taker-test.true)) ∙ c.loop-taker.invariant

pub returns : goal.returns
returns c =
    ap (first_other c.args.number c.args.guest) (sym (drop_all c.loop-taker.taker-index c.args.takers.now c.loop-taker-test.false)) ∙ c.loop-taker.invariant
