use Rattle.std.proofs.Common.{◌≡◌, ◌+◌, ◌<◌, ◌≤◌, List, [], ◌∷◌, ◌++◌, length, map, sym, ap, subst, ◌∙◌}
use Rattle.std.proofs.lemmas.List.{length-map, take_all}
use Rattle.described.specs.declared.item.Described.{Described}
use Rattle.item_checks.specs.Taken.{Passed, passing, all_passed}
use Rattle.domain_plan.specs.Regions.{placed_item}
use Rattle.item_checks.specs.Standing.{entry_of}
use Rattle.domain_plan.specs.PrivateGiving.{Gives}
use Rattle.domain_plan.proofs.GivingLemmas.{get_map}
use Rattle.item_checks.proofs.LoopLemmas.{all_passed-none, passed_to, passed_to-more}
use Rattle.domain_plan.proofs.giving.give_items.Goals as goal

pub loop-described-init : goal.loop-described-init
loop-described-init c number drawn before is gives = subst (λ (passed : List Passed). Gives number drawn passed c.args.given.now) (sym (all_passed-none before)) gives

pub loop-described-preserved : goal.loop-described-preserved
loop-described-preserved c number drawn before is gives =
    let items : List Described = map (placed_item c.args.runs.now) c.args.items.now in
    let i = c.loop-described.described-index in
    let d : Described = placed_item c.args.runs.now c.described-item.result in
    let low : i < length items = subst (λ n. i < n) (sym (length-map c.args.items.now (placed_item c.args.runs.now))) c.loop-described-test.true in
    let passed : List Passed = passed_to c.args.owner before items i in
    let more : Gives number drawn (passed ++ passing passed (entry_of c.args.owner d) ∷ []) c.give_placed.new.given = c.in_ok-give_placed.ensures number drawn passed is (c.loop-described.invariant number drawn before is gives) in
    let same : passed ++ passing passed (entry_of c.args.owner d) ∷ [] ≡ passed_to c.args.owner before items (i + 1) =
    ap (λ (one : Described). passed ++ passing passed (entry_of c.args.owner one) ∷ []) (get_map (placed_item c.args.runs.now) c.args.items.now i c.described-item.result c.loop-described-test.true c.described-item.is)
    ∙ sym (passed_to-more c.args.owner before items i d low) in
    subst (λ (all : List Passed). Gives number drawn all c.give_placed.new.given) same more
