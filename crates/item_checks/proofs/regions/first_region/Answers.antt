use Rattle.std.proofs.Common.{◌≡◌, ◌+◌, true, false, Bool, get_or, drop, Some, sym, ap, ◌∙◌}
use Rattle.std.specs.List.{find}
use Rattle.std.proofs.lemmas.List.{drop_more, drop_all}
use Rattle.item_checks.specs.declared.state.Region.{Region}
use Rattle.item_checks.specs.PrivateStanding.{is_sought}
use Rattle.item_checks.proofs.RegionLemmas.{found, missed}
use Rattle.item_checks.proofs.regions.first_region.Goals as goal

pub returns-then-is_sought : goal.returns-then-is_sought
returns-then-is_sought c =
    let d : Region = c.region-item.result in
    let es = c.args.regions.now in
    let i = c.loop-region.region-index in
    let test : Region → Bool = is_sought c.args.id.now c.args.guest c.args.in_any c.args.owners in
    let same : d ≡ get_or es i d = c.region-item.is in
    let here : test (get_or es i d) ≡ true = ap test (sym same) ∙ sym c.is_sought.ensures ∙ c.if-is_sought.true in
    ap Some same ∙ sym (found test (get_or es i d) (drop (i + 1) es) here) ∙ ap (find test) (sym (drop_more es i d c.loop-region-test.true)) ∙ c.loop-region.invariant

pub loop-region-preserved : goal.loop-region-preserved
loop-region-preserved c =
    let d : Region = c.region-item.result in
    let es = c.args.regions.now in
    let i = c.loop-region.region-index in
    let test : Region → Bool = is_sought c.args.id.now c.args.guest c.args.in_any c.args.owners in
    let same : d ≡ get_or es i d = c.region-item.is in
    let here : test (get_or es i d) ≡ false = ap test (sym same) ∙ sym c.is_sought.ensures ∙ c.if-is_sought.false in
    sym (missed test (get_or es i d) (drop (i + 1) es) here) ∙ ap (find test) (sym (drop_more es i d c.loop-region-test.true)) ∙ c.loop-region.invariant

pub returns : goal.returns
returns c =
    ap (find (is_sought c.args.id.now c.args.guest c.args.in_any c.args.owners)) (sym (drop_all c.loop-region.region-index c.args.regions.now c.loop-region-test.false)) ∙ c.loop-region.invariant
