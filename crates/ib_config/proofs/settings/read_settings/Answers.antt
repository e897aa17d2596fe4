use Rattle.std.proofs.Common.{rules, ◌≡◌, ◌∙◌, Err, None, refl}
use Rattle.texts.specs.Consecutive.{numbers}
use Rattle.ib_config.specs.PrivateGroups.{base_of, dom0_of, settings_in_groups}
use Rattle.ib_config.specs.PrivateScan.{held}
use Rattle.ib_config.specs.Settings.{settings_of, guest_settings, each}
use Rattle.ib_config.specs.Variables as table
use Rattle.ib_config.specs.Variables.{value_of}
use Rattle.ib_config.proofs.GroupLemmas.{settings_grouped}
use Rattle.ib_config.proofs.GuestLemmas.{hand_on}
use Rattle.ib_config.proofs.settings.read_settings.Goals as goal

pub returns-in_err-base-clause-value : goal.returns-in_err-base-clause-value
unfolding settings_in_groups
returns-in_err-base-clause-value c =
    let handed : c.from_residual.result ≡ Err (c.in_err-base.field-0.0) = search rules in
    rw handed (hand_on (c.in_err-base.field-0.0) (base_of (held c.args.assigned.now)) (settings_of (held c.args.assigned.now)) (λ e bad. settings_grouped (held c.args.assigned.now) ∙ rw bad refl) c.in_err-base.ensures)

pub returns-in_err-dom0-clause-value : goal.returns-in_err-dom0-clause-value
unfolding settings_in_groups
returns-in_err-dom0-clause-value c =
    let handed : c.from_residual-in_err-dom0.result ≡ Err (c.in_err-dom0.field-0.0) = search rules in
    rw handed (hand_on (c.in_err-dom0.field-0.0) (dom0_of (held c.args.assigned.now)) (settings_of (held c.args.assigned.now)) (λ e bad. settings_grouped (held c.args.assigned.now) ∙ rw (c.in_ok-base.ensures, bad) refl) c.in_err-dom0.ensures)

pub returns-in_err-count-clause-value : goal.returns-in_err-count-clause-value
unfolding settings_in_groups
returns-in_err-count-clause-value c =
    let handed : c.from_residual-in_err-count.result ≡ Err (c.in_err-count.field-0.0) = search rules in
    rw handed (hand_on (c.in_err-count.field-0.0) (value_of (held c.args.assigned.now) table.NUM_DOMUS None) (settings_of (held c.args.assigned.now)) (λ e bad. settings_grouped (held c.args.assigned.now) ∙ rw (c.in_ok-base.ensures, c.in_ok-dom0.ensures, bad) refl) c.in_err-count.ensures.value)

pub returns-in_err-guests-clause-value : goal.returns-in_err-guests-clause-value
unfolding settings_in_groups
returns-in_err-guests-clause-value c =
    let handed : c.from_residual-in_err-guests.result ≡ Err (c.in_err-guests.field-0.0) = search rules in
    rw handed (hand_on (c.in_err-guests.field-0.0) (each (guest_settings (held c.args.assigned.now) c.in_ok-count.count) (numbers 0 c.in_ok-count.count)) (settings_of (held c.args.assigned.now)) (λ e bad. settings_grouped (held c.args.assigned.now) ∙ rw (c.in_ok-base.ensures, c.in_ok-dom0.ensures, c.in_ok-count.ensures.value, bad) refl) c.in_err-guests.ensures.value)

pub returns-clause-value : goal.returns-clause-value
unfolding settings_in_groups
returns-clause-value c = settings_grouped (held c.args.assigned.now) ∙ rw (c.in_ok-base.ensures, c.in_ok-dom0.ensures, c.in_ok-count.ensures.value, c.in_ok-guests.ensures.value, c.in_ok-unused.ensures) refl
