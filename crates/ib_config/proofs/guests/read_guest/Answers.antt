use Rattle.std.proofs.Common.{rules, ◌≡◌, ◌∙◌, Err, Some, refl}
use Rattle.ib_config.specs.PrivateGroups.{boot_of, machine_of, host_parts_of, guest_in_groups}
use Rattle.ib_config.specs.PrivateScan.{held}
use Rattle.ib_config.specs.Settings.{guest_settings, ports_at}
use Rattle.ib_config.specs.Variables as table
use Rattle.ib_config.specs.Variables.{value_of}
use Rattle.ib_config.proofs.GroupLemmas.{guest_grouped}
use Rattle.ib_config.proofs.GuestLemmas.{hand_on}
use Rattle.ib_config.proofs.guests.read_guest.Goals as goal

pub returns-in_err-boot : goal.returns-in_err-boot
unfolding guest_in_groups
returns-in_err-boot c =
    let handed : c.from_residual.result ≡ Err (c.in_err-boot.field-0.0) = search rules in
    rw handed (hand_on (c.in_err-boot.field-0.0) (boot_of (held c.args.assigned.now) c.args.guest) (guest_settings (held c.args.assigned.now) c.args.count c.args.guest) (λ e bad. guest_grouped (held c.args.assigned.now) c.args.count c.args.guest ∙ rw bad refl) c.in_err-boot.ensures)

pub returns-in_err-machine : goal.returns-in_err-machine
unfolding guest_in_groups
returns-in_err-machine c =
    let handed : c.from_residual-in_err-machine.result ≡ Err (c.in_err-machine.field-0.0) = search rules in
    rw handed (hand_on (c.in_err-machine.field-0.0) (machine_of (held c.args.assigned.now) c.args.guest) (guest_settings (held c.args.assigned.now) c.args.count c.args.guest) (λ e bad. guest_grouped (held c.args.assigned.now) c.args.count c.args.guest ∙ rw (c.in_ok-boot.ensures, bad) refl) c.in_err-machine.ensures)

pub returns-in_err-parts : goal.returns-in_err-parts
unfolding guest_in_groups
returns-in_err-parts c =
    let handed : c.from_residual-in_err-parts.result ≡ Err (c.in_err-parts.field-0.0) = search rules in
    rw handed (hand_on (c.in_err-parts.field-0.0) (host_parts_of (held c.args.assigned.now) c.args.guest) (guest_settings (held c.args.assigned.now) c.args.count c.args.guest) (λ e bad. guest_grouped (held c.args.assigned.now) c.args.count c.args.guest ∙ rw (c.in_ok-boot.ensures, c.in_ok-machine.ensures, bad) refl) c.in_err-parts.ensures)

pub returns-in_err-shared_mem : goal.returns-in_err-shared_mem
unfolding guest_in_groups
returns-in_err-shared_mem c =
    let handed : c.from_residual-in_err-shared_mem.result ≡ Err (c.in_err-shared_mem.field-0.0) = search rules in
    rw handed (hand_on (c.in_err-shared_mem.field-0.0) (value_of (held c.args.assigned.now) table.DOMU_SHARED_MEM (Some c.args.guest)) (guest_settings (held c.args.assigned.now) c.args.count c.args.guest) (λ e bad. guest_grouped (held c.args.assigned.now) c.args.count c.args.guest ∙ rw (c.in_ok-boot.ensures, c.in_ok-machine.ensures, c.in_ok-parts.ensures, bad) refl) c.in_err-shared_mem.ensures)

pub returns-in_err-evtchns : goal.returns-in_err-evtchns
unfolding guest_in_groups
returns-in_err-evtchns c =
    let handed : c.from_residual-in_err-evtchns.result ≡ Err (c.in_err-evtchns.field-0.0) = search rules in
    rw handed (hand_on (c.in_err-evtchns.field-0.0) (value_of (held c.args.assigned.now) (table.DOMU_EVTCHNS (ports_at (held c.args.assigned.now)) c.args.count) (Some c.args.guest)) (guest_settings (held c.args.assigned.now) c.args.count c.args.guest) (λ e bad. guest_grouped (held c.args.assigned.now) c.args.count c.args.guest ∙ rw (c.in_ok-boot.ensures, c.in_ok-machine.ensures, c.in_ok-parts.ensures, c.in_ok-shared_mem.ensures, bad) refl) c.in_err-evtchns.ensures)

pub returns : goal.returns
unfolding guest_in_groups
returns c = guest_grouped (held c.args.assigned.now) c.args.count c.args.guest ∙ rw (c.in_ok-boot.ensures, c.in_ok-machine.ensures, c.in_ok-parts.ensures, c.in_ok-shared_mem.ensures, c.in_ok-evtchns.ensures) refl
