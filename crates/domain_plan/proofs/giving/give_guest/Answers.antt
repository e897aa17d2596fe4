use Rattle.std.proofs.Common.{◌≡◌, Bool, List, ◌++◌, map, Some, refl, ap, subst, ◌∙◌}
use Rattle.described.specs.declared.item.Described.{Described}
use Rattle.item_checks.specs.declared.state.Owner.{Owner}
use Rattle.item_checks.specs.Entries.{of_guest, items_of, is_read}
use Rattle.item_checks.specs.Taken.{Passed, all_passed}
use Rattle.item_checks.specs.Standing.{entry_of}
use Rattle.domain_plan.specs.PrivateGiving.{Gives}
use Rattle.domain_plan.specs.Regions.{placed_item}
use Rattle.domain_plan.proofs.GivingLemmas.{four_passed, four_mapped}
use Rattle.domain_plan.proofs.giving.give_guest.Goals as goal

pub returns : goal.returns
returns c drawn before gives =
    let owner : Owner = record { guest = Some c.args.number; partial_read = c.is_read.result } in
    let place : List Described → List Described = map (placed_item c.args.runs.now) in
    let one = c.as_slice.result.now in
    let two = c.partial_items.result.now in
    let three = c.as_slice-2.result.now in
    let four = c.as_slice-3.result.now in
    let a : List Passed = all_passed before (map (entry_of owner) (place one)) in
    let b : List Passed = all_passed a (map (entry_of owner) (place two)) in
    let d : List Passed = all_passed b (map (entry_of owner) (place three)) in
    let second = c.in_ok-give_items.ensures c.args.number drawn before refl gives in
    let third = c.in_ok-give_items-2.ensures c.args.number drawn a refl second in
    let fourth = c.in_ok-give_items-3.ensures c.args.number drawn b refl third in
    let last = c.in_ok-give_items-4.ensures c.args.number drawn d refl fourth in
    let joined : place one ++ place two ++ place three ++ place four ≡ place (one ++ two ++ three ++ four) = four_mapped (placed_item c.args.runs.now) one two three four in
    let lists : one ++ two ++ three ++ four ≡ items_of c.args.guest.now = rw (c.as_slice.ensures, c.partial_items.ensures, c.as_slice-2.ensures, c.as_slice-3.ensures) refl in
    subst (λ (passed : List Passed). Gives c.args.number drawn passed c.give_items-4.new.given)
    (four_passed owner before (place one) (place two) (place three) (place four)
    ∙ ap (λ (read : Bool). all_passed before (of_guest c.args.number read (place one ++ place two ++ place three ++ place four))) c.is_read.ensures
    ∙ ap (λ (items : List Described). all_passed before (of_guest c.args.number (is_read c.args.guest.now.partial) items)) (joined ∙ ap place lists))
    last
