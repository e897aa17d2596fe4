use Rattle.std.proofs.Common.{◌≡◌, List, [], ◌++◌, map, Option, Some, None, Err, rules, refl, sym, ap, subst, ◌∙◌}
use Rattle.std.specs.Option.{option_or}
use Rattle.texts.specs.declared.ranges.FrameRange.{FrameRange}
use Rattle.domain_bindings.specs.declared.host.Host.{Host}
use Rattle.described.specs.declared.loaded.Loaded.{Loaded}
use Rattle.item_checks.specs.declared.guests.Guest.{Guest}
use Rattle.item_checks.specs.Entries.{Entry, of_host, load_item, guest_entries, joined}
use Rattle.item_checks.specs.Taken.{Passed, all_passed}
use Rattle.item_checks.specs.Refusals.{Refusal, first_refused}
use Rattle.item_checks.specs.Standing.{Stands}
use Rattle.item_checks.specs.PrivateStanding.{AreOfHost}
use Rattle.item_checks.proofs.LoopLemmas.{all_passed-append, first_refused-append}
use Rattle.item_checks.proofs.GuestSteps.{fresh_host}
use Rattle.item_checks.proofs.checking.check_all.Goals as goal

-- what stands before the guests' items
front : Host → List Loaded → List Entry
front host loads = of_host host.items ++ of_host (map load_item loads) ++ of_host host.modules

front_of_host : (host : Host) (loads : List Loaded) → AreOfHost (all_passed [] (front host loads))
unfolding front
front_of_host host loads =
    let items = of_host host.items in
    let files = of_host (map load_item loads) in
    let modules = of_host host.modules in
    let none : AreOfHost [] = λ number. refl in
    let first : AreOfHost (all_passed [] items) = fresh_host host.items [] none in
    let second : AreOfHost (all_passed (all_passed [] items) files) = fresh_host (map load_item loads) (all_passed [] items) first in
    let third : AreOfHost (all_passed (all_passed (all_passed [] items) files) modules) = fresh_host host.modules (all_passed (all_passed [] items) files) second in
    subst AreOfHost (ap (λ (passed : List Passed). all_passed passed modules) (sym (all_passed-append [] items files)) ∙ sym (all_passed-append [] (items ++ files) modules)) third

then_guests : (host : Host) (loads : List Loaded) (guests : List Guest) (o : Option Refusal) → first_refused host [] (front host loads) ≡ None → first_refused host (all_passed [] (front host loads)) (guest_entries 0 guests) ≡ o →
    first_refused host [] (joined host loads guests) ≡ o
unfolding front
then_guests host loads guests o none later =
    first_refused-append host [] (front host loads) (guest_entries 0 guests)
    ∙ ap (λ (one : Option Refusal). option_or one (first_refused host (all_passed [] (front host loads)) (guest_entries 0 guests))) none ∙ later

before_guests : (host : Host) (loads : List Loaded) (guests : List Guest) (refusal : Refusal) → first_refused host [] (front host loads) ≡ Some refusal → first_refused host [] (joined host loads guests) ≡ Some refusal
unfolding front
before_guests host loads guests refusal some =
    first_refused-append host [] (front host loads) (guest_entries 0 guests)
    ∙ ap (λ (one : Option Refusal). option_or one (first_refused host (all_passed [] (front host loads)) (guest_entries 0 guests))) some

pub returns-in_err-check_host-clause-refused : goal.returns-in_err-check_host-clause-refused
unfolding front
returns-in_err-check_host-clause-refused c =
    let handed : c.from_residual.result ≡ Err (c.in_err-check_host.field-0.0) = search rules in
    rw handed (λ item reason is. before_guests c.args.host.now c.args.loads.now c.args.guests.now (item, reason) (c.in_err-check_host.ensures item reason is))

pub returns-in_err-check_guests-clause-refused : goal.returns-in_err-check_guests-clause-refused
unfolding front
returns-in_err-check_guests-clause-refused c =
    let handed : c.from_residual-in_err-check_guests.result ≡ Err (c.in_err-check_guests.field-0.0) = search rules in
    rw handed (λ item reason is. then_guests c.args.host.now c.args.loads.now c.args.guests.now (Some (item, reason)) c.in_ok-check_host.ensures.1
    (rw (sym c.as_slice.ensures) (c.in_err-check_guests.ensures.refused (all_passed [] (front c.args.host.now c.args.loads.now)) c.in_ok-check_host.ensures.0 (front_of_host c.args.host.now c.args.loads.now) item reason is)))

pub returns-clause-passed : goal.returns-clause-passed
unfolding front
returns-clause-passed c =
    let passed = c.in_ok-check_guests.ensures.passed (all_passed [] (front c.args.host.now c.args.loads.now)) c.in_ok-check_host.ensures.0 (front_of_host c.args.host.now c.args.loads.now) in (
      passed.0,
      subst (λ (all : List Passed). Stands passed.0 all c.check_guests.new.state)
          (ap (λ (guests : List Guest). all_passed (all_passed [] (front c.args.host.now c.args.loads.now)) (guest_entries 0 guests)) c.as_slice.ensures ∙ sym (all_passed-append [] (front c.args.host.now c.args.loads.now) (guest_entries 0 c.args.guests.now))) passed.1,
    )

pub returns-clause-clear : goal.returns-clause-clear
unfolding front
returns-clause-clear c =
    then_guests c.args.host.now c.args.loads.now c.args.guests.now None c.in_ok-check_host.ensures.1
    (rw (sym c.as_slice.ensures) (c.in_ok-check_guests.ensures.clear (all_passed [] (front c.args.host.now c.args.loads.now)) c.in_ok-check_host.ensures.0 (front_of_host c.args.host.now c.args.loads.now)))
