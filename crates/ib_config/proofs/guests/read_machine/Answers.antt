use Rattle.std.proofs.Common.{rules, ◌≡◌, Err, Some, refl}
use Rattle.ib_config.specs.PrivateGroups.{machine_of}
use Rattle.ib_config.specs.PrivateScan.{held}
use Rattle.ib_config.specs.Settings.{is_static}
use Rattle.ib_config.specs.Variables as table
use Rattle.ib_config.specs.Variables.{value_of}
use Rattle.ib_config.proofs.GuestLemmas.{hand_on}
use Rattle.ib_config.proofs.guests.read_machine.Goals as goal

pub returns-in_err-mem_mib : goal.returns-in_err-mem_mib
unfolding machine_of
returns-in_err-mem_mib c =
    let handed : c.from_residual.result ≡ Err (c.in_err-mem_mib.field-0.0) = search rules in
    rw handed (hand_on (c.in_err-mem_mib.field-0.0) (value_of (held c.args.assigned.now) (table.DOMU_MEM (is_static (held c.args.assigned.now) c.args.guest)) (Some c.args.guest)) (machine_of (held c.args.assigned.now) c.args.guest) (λ e bad. rw bad refl) c.in_err-mem_mib.ensures)

pub returns-in_err-vcpus : goal.returns-in_err-vcpus
unfolding machine_of
returns-in_err-vcpus c =
    let handed : c.from_residual-in_err-vcpus.result ≡ Err (c.in_err-vcpus.field-0.0) = search rules in
    rw handed (hand_on (c.in_err-vcpus.field-0.0) (value_of (held c.args.assigned.now) table.DOMU_VCPUS (Some c.args.guest)) (machine_of (held c.args.assigned.now) c.args.guest) (λ e bad. rw (c.in_ok-mem_mib.ensures, bad) refl) c.in_err-vcpus.ensures)

pub returns-in_err-vpl011 : goal.returns-in_err-vpl011
unfolding machine_of
returns-in_err-vpl011 c =
    let handed : c.from_residual-in_err-vpl011.result ≡ Err (c.in_err-vpl011.field-0.0) = search rules in
    rw handed (hand_on (c.in_err-vpl011.field-0.0) (value_of (held c.args.assigned.now) table.DOMU_VPL011 (Some c.args.guest)) (machine_of (held c.args.assigned.now) c.args.guest) (λ e bad. rw (c.in_ok-mem_mib.ensures, c.in_ok-vcpus.ensures, bad) refl) c.in_err-vpl011.ensures)

pub returns : goal.returns
unfolding machine_of
returns c = rw (c.in_ok-mem_mib.ensures, c.in_ok-vcpus.ensures, c.in_ok-vpl011.ensures) refl
