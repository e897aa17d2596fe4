use Rattle.std.proofs.Common.{rules, ◌≡◌, Err, None, refl}
use Rattle.ib_config.specs.PrivateGroups.{base_of}
use Rattle.ib_config.specs.PrivateScan.{held}
use Rattle.ib_config.specs.Variables as table
use Rattle.ib_config.specs.Variables.{value_of}
use Rattle.ib_config.proofs.GuestLemmas.{hand_on}
use Rattle.ib_config.proofs.settings.read_base.Goals as goal

pub returns-in_err-memory_start : goal.returns-in_err-memory_start
unfolding base_of
returns-in_err-memory_start c =
    let handed : c.from_residual.result ≡ Err (c.in_err-memory_start.field-0.0) = search rules in
    rw handed (hand_on (c.in_err-memory_start.field-0.0) (value_of (held c.args.assigned.now) table.MEMORY_START None) (base_of (held c.args.assigned.now)) (λ e bad. rw bad refl) c.in_err-memory_start.ensures)

pub returns-in_err-memory_end : goal.returns-in_err-memory_end
unfolding base_of
returns-in_err-memory_end c =
    let handed : c.from_residual-in_err-memory_end.result ≡ Err (c.in_err-memory_end.field-0.0) = search rules in
    rw handed (hand_on (c.in_err-memory_end.field-0.0) (value_of (held c.args.assigned.now) table.MEMORY_END None) (base_of (held c.args.assigned.now)) (λ e bad. rw (c.in_ok-memory_start.ensures, bad) refl) c.in_err-memory_end.ensures)

pub returns-in_err-device_tree : goal.returns-in_err-device_tree
unfolding base_of
returns-in_err-device_tree c =
    let handed : c.from_residual-in_err-device_tree.result ≡ Err (c.in_err-device_tree.field-0.0) = search rules in
    rw handed (hand_on (c.in_err-device_tree.field-0.0) (value_of (held c.args.assigned.now) table.DEVICE_TREE None) (base_of (held c.args.assigned.now)) (λ e bad. rw (c.in_ok-memory_start.ensures, c.in_ok-memory_end.ensures, bad) refl) c.in_err-device_tree.ensures)

pub returns-in_err-xen : goal.returns-in_err-xen
unfolding base_of
returns-in_err-xen c =
    let handed : c.from_residual-in_err-xen.result ≡ Err (c.in_err-xen.field-0.0) = search rules in
    rw handed (hand_on (c.in_err-xen.field-0.0) (value_of (held c.args.assigned.now) table.XEN None) (base_of (held c.args.assigned.now)) (λ e bad. rw (c.in_ok-memory_start.ensures, c.in_ok-memory_end.ensures, c.in_ok-device_tree.ensures, bad) refl) c.in_err-xen.ensures)

pub returns-in_err-xen_cmd : goal.returns-in_err-xen_cmd
unfolding base_of
returns-in_err-xen_cmd c =
    let handed : c.from_residual-in_err-xen_cmd.result ≡ Err (c.in_err-xen_cmd.field-0.0) = search rules in
    rw handed (hand_on (c.in_err-xen_cmd.field-0.0) (value_of (held c.args.assigned.now) table.XEN_CMD None) (base_of (held c.args.assigned.now)) (λ e bad. rw (c.in_ok-memory_start.ensures, c.in_ok-memory_end.ensures, c.in_ok-device_tree.ensures, c.in_ok-xen.ensures, bad) refl) c.in_err-xen_cmd.ensures)

pub returns : goal.returns
unfolding base_of
returns c = rw (c.in_ok-memory_start.ensures, c.in_ok-memory_end.ensures, c.in_ok-device_tree.ensures, c.in_ok-xen.ensures, c.in_ok-xen_cmd.ensures) refl
