-- Checks in a row.
use Rattle.std.proofs.Common.{◌≡◌, ℕ, List, ◌++◌, Option, Some, None, Result, Ok, Err, sym, ap, subst, ◌∙◌, OnOk, IfErr}
use Rattle.std.specs.Option.{option_or}
use Rattle.texts.specs.declared.ranges.FrameRange.{FrameRange}
use Rattle.described.specs.declared.item.Item.{Item}
use Rattle.described.specs.declared.why.Why.{Why}
use Rattle.domain_bindings.specs.declared.host.Host.{Host}
use Rattle.item_checks.specs.declared.faults.PlanFault.{PlanFault}
use Rattle.item_checks.specs.declared.faults.PlanFault.TheVariants as faults
use Rattle.item_checks.specs.declared.state.State.{State}
use Rattle.item_checks.specs.Entries.{Entry}
use Rattle.item_checks.specs.Taken.{Passed, all_passed}
use Rattle.item_checks.specs.Refusals.{Refusal, first_refused}
use Rattle.item_checks.specs.Standing.{Stands}
use Rattle.item_checks.specs.PrivateStanding.{Checked}
use Rattle.item_checks.proofs.LoopLemmas.{all_passed-append, first_refused-append}

-- the clauses of a check as one
pub checked_from : {A : Type 0} (host : Host) (guest : Option ℕ) (before : List Passed) (entries : List Entry) (old new : State) (r : Result A PlanFault) →
    OnOk r ((passed : List Passed) → Stands guest passed old → Stands guest (all_passed passed entries) new) → OnOk r ((passed : List Passed) → Stands guest passed old → first_refused host passed entries ≡ None) →
    IfErr r (λ fault. (passed : List Passed) → Stands guest passed old → (item : Item) → (reason : Why) → fault ≡ faults.Refused item reason → first_refused host passed entries ≡ Some (item, reason)) →
    Stands guest before old → Checked host guest before entries r new
checked_from host guest before entries old new (Ok done) passed clear refused stands = (passed before stands, clear before stands)
checked_from host guest before entries old new (Err fault) passed clear refused stands = λ item reason is. refused before stands item reason is

-- a check that passed, and then another
pub then_checked : {A : Type 0} (host : Host) (guest : Option ℕ) (before : List Passed) (xs ys : List Entry) (r : Result A PlanFault) (new : State) → first_refused host before xs ≡ None → Checked host guest (all_passed before xs) ys r new →
    Checked host guest before (xs ++ ys) r new
then_checked host guest before xs ys (Ok done) new none later = (
  subst (λ (passed : List Passed). Stands guest passed new) (sym (all_passed-append before xs ys)) later.0,
  first_refused-append host before xs ys ∙ ap (λ (o : Option Refusal). option_or o (first_refused host (all_passed before xs) ys)) none ∙ later.1,
)
then_checked host guest before xs ys (Err fault) new none later = λ item reason is.
    first_refused-append host before xs ys ∙ ap (λ (o : Option Refusal). option_or o (first_refused host (all_passed before xs) ys)) none ∙ later item reason is

-- a check that named an item ends all
pub stopped : (host : Host) (guest : Option ℕ) (before : List Passed) (xs ys : List Entry) (fault : PlanFault) (s new : State) → Checked {A = Unit {0}} host guest before xs (Err fault) s → Checked {A = Unit {0}} host guest before (xs ++ ys) (Err fault) new
stopped host guest before xs ys fault s new named = λ item reason is.
    first_refused-append host before xs ys ∙ ap (λ (o : Option Refusal). option_or o (first_refused host (all_passed before xs) ys)) (named item reason is)
