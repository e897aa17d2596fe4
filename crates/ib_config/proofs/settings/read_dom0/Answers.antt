use Rattle.std.proofs.Common.{rules, ◌≡◌, Err, None, refl}
use Rattle.ib_config.specs.PrivateGroups.{dom0_of}
use Rattle.ib_config.specs.PrivateScan.{held}
use Rattle.ib_config.specs.Variables as table
use Rattle.ib_config.specs.Variables.{value_of}
use Rattle.ib_config.proofs.GuestLemmas.{hand_on}
use Rattle.ib_config.proofs.settings.read_dom0.Goals as goal

pub returns-in_err-kernel : goal.returns-in_err-kernel
unfolding dom0_of
returns-in_err-kernel c =
    let handed : c.from_residual.result ≡ Err (c.in_err-kernel.field-0.0) = search rules in
    rw handed (hand_on (c.in_err-kernel.field-0.0) (value_of (held c.args.assigned.now) table.DOM0_KERNEL None) (dom0_of (held c.args.assigned.now)) (λ e bad. rw bad refl) c.in_err-kernel.ensures)

pub returns-in_err-ramdisk : goal.returns-in_err-ramdisk
unfolding dom0_of
returns-in_err-ramdisk c =
    let handed : c.from_residual-in_err-ramdisk.result ≡ Err (c.in_err-ramdisk.field-0.0) = search rules in
    rw handed (hand_on (c.in_err-ramdisk.field-0.0) (value_of (held c.args.assigned.now) table.DOM0_RAMDISK None) (dom0_of (held c.args.assigned.now)) (λ e bad. rw (c.in_ok-kernel.ensures, bad) refl) c.in_err-ramdisk.ensures)

pub returns-in_err-cmd : goal.returns-in_err-cmd
unfolding dom0_of
returns-in_err-cmd c =
    let handed : c.from_residual-in_err-cmd.result ≡ Err (c.in_err-cmd.field-0.0) = search rules in
    rw handed (hand_on (c.in_err-cmd.field-0.0) (value_of (held c.args.assigned.now) table.DOM0_CMD None) (dom0_of (held c.args.assigned.now)) (λ e bad. rw (c.in_ok-kernel.ensures, c.in_ok-ramdisk.ensures, bad) refl) c.in_err-cmd.ensures)

pub returns : goal.returns
unfolding dom0_of
returns c = rw (c.in_ok-kernel.ensures, c.in_ok-ramdisk.ensures, c.in_ok-cmd.ensures) refl
