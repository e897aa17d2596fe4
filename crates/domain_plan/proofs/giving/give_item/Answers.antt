use Rattle.std.proofs.Common.{ℕ, [], ◌∷◌, ◌++◌, Option, sym, subst, ◌∙◌}
use Rattle.domain_plan.specs.declared.giving.Given.{Given}
use Rattle.item_checks.specs.Taken.{passing}
use Rattle.item_checks.specs.Standing.{Stands, entry_of}
use Rattle.domain_plan.proofs.GivingLemmas.{gives_more}
use Rattle.domain_plan.proofs.giving.give_item.Goals as goal

pub returns : goal.returns
returns c number drawn before is gives =
    let stands : Stands c.args.owner.guest before c.args.given.now.state = subst (λ (guest : Option ℕ). Stands guest before c.args.given.now.state) (sym is) gives.stands in
    let next : Stands c.args.owner.guest (before ++ passing before (entry_of c.args.owner c.args.described.now) ∷ []) c.add-2.new.self =
    c.in_ok-add-2.ensures before stands (c.in_ok-takes.ensures.claims c.args.owner before stands) (c.in_ok-takes.ensures.pages c.args.owner before stands) in
    let new : Given = record { state = c.add-2.new.self; ranges = c.push_maps.new.ranges; said = c.add.new.self } in
    gives_more c.args.owner number drawn before c.args.described.now c.as_slice.result.now c.args.given.now new is gives
    (subst (λ (guest : Option ℕ). Stands guest (before ++ passing before (entry_of c.args.owner c.args.described.now) ∷ []) c.add-2.new.self) is next)
    (c.as_slice.ensures.value ∙ c.in_ok-takes.ensures.pages c.args.owner before stands)
    c.in_ok-push_maps.ensures c.in_ok-add.ensures
