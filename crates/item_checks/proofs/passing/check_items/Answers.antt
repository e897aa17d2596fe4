use Rattle.std.proofs.Common.{◌≡◌, ◌+◌, Some, None, Err, rules, List, [], ◌∷◌, ◌++◌, get_or, refl, sym, ap, subst, ◌∙◌}
use Rattle.described.specs.declared.item.Described.{Described}
use Rattle.described.specs.declared.item.Item.{Item}
use Rattle.item_checks.specs.Taken.{Passed, passing, all_passed}
use Rattle.item_checks.specs.Refusals.{why}
use Rattle.item_checks.specs.Standing.{Stands, entry_of}
use Rattle.item_checks.proofs.LoopLemmas.{all_passed-none, passed_to, passed_to-more, refused_from-here, refused_from-later, refused_from-end}
use Rattle.item_checks.proofs.passing.check_items.Goals as goal

pub loop-described-init : goal.loop-described-init
unfolding all_passed
loop-described-init c = record {
  stands = λ before stands. subst (λ (passed : List Passed). Stands c.args.owner.guest passed c.args.state.now) (sym (all_passed-none before)) stands;
  clear = λ before stands. refl;
}

pub returns-in_err-check_item-clause-refused : goal.returns-in_err-check_item-clause-refused
returns-in_err-check_item-clause-refused c =
    let handed : c.from_residual.result ≡ Err (c.in_err-check_item.field-0.0) = search rules in
    let items = c.args.items.now in
    let i = c.loop-described.described-index in
    let d : Described = c.described-item.result in
    let here : d ≡ get_or items i d = c.described-item.is in
    rw handed (λ before stands item reason is.
    let passed : List Passed = passed_to c.args.owner before items i in
    let told = c.in_err-check_item.ensures.refused passed (c.loop-described.invariant.stands before stands) item reason is in
    let some : why c.args.host.now passed (entry_of c.args.owner (get_or items i d)) ≡ Some reason =
    ap (λ (one : Described). why c.args.host.now passed (entry_of c.args.owner one)) (sym here) ∙ told.1 in
    let name : (get_or items i d).item ≡ item = ap (λ (one : Described). one.item) (sym here) ∙ sym told.0 in
    c.loop-described.invariant.clear before stands ∙ refused_from-here c.args.host.now c.args.owner before items i d reason c.loop-described-test.true some
    ∙ ap (λ (one : Item). Some (one, reason)) name)

pub loop-described-preserved : goal.loop-described-preserved
loop-described-preserved c =
    let items = c.args.items.now in
    let i = c.loop-described.described-index in
    let d : Described = c.described-item.result in
    let here : d ≡ get_or items i d = c.described-item.is in
    record {
      stands = λ before stands.
          let passed : List Passed = passed_to c.args.owner before items i in
          let more : Stands c.args.owner.guest (passed ++ passing passed (entry_of c.args.owner d) ∷ []) c.check_item.new.state = c.in_ok-check_item.ensures.passed passed (c.loop-described.invariant.stands before stands) in
          let same : passed ++ passing passed (entry_of c.args.owner d) ∷ [] ≡ passed_to c.args.owner before items (i + 1) =
          ap (λ (one : Described). passed ++ passing passed (entry_of c.args.owner one) ∷ []) here ∙ sym (passed_to-more c.args.owner before items i d c.loop-described-test.true) in
          subst (λ (all : List Passed). Stands c.args.owner.guest all c.check_item.new.state) same more;
      clear = λ before stands.
          let passed : List Passed = passed_to c.args.owner before items i in
          let none : why c.args.host.now passed (entry_of c.args.owner (get_or items i d)) ≡ None =
          ap (λ (one : Described). why c.args.host.now passed (entry_of c.args.owner one)) (sym here) ∙ c.in_ok-check_item.ensures.clear passed (c.loop-described.invariant.stands before stands) in
          c.loop-described.invariant.clear before stands ∙ refused_from-later c.args.host.now c.args.owner before items i d c.loop-described-test.true none;
    }

pub returns-clause-clear : goal.returns-clause-clear
returns-clause-clear c before stands =
    c.loop-described.invariant.clear before stands ∙ refused_from-end c.args.host.now c.args.owner before c.args.items.now c.loop-described.described-index c.loop-described-test.false
