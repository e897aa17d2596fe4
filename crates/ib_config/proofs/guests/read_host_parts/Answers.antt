use Rattle.std.proofs.Common.{rules, ◌≡◌, Err, Some, refl}
use Rattle.ib_config.specs.PrivateGroups.{host_parts_of}
use Rattle.ib_config.specs.PrivateScan.{held}
use Rattle.ib_config.specs.Settings.{is_static, direct_value}
use Rattle.ib_config.specs.Variables as table
use Rattle.ib_config.specs.Variables.{value_of}
use Rattle.ib_config.proofs.GuestLemmas.{hand_on}
use Rattle.ib_config.proofs.guests.read_host_parts.Goals as goal

pub returns-in_err-static_mem : goal.returns-in_err-static_mem
unfolding host_parts_of
returns-in_err-static_mem c =
    let handed : c.from_residual.result ≡ Err (c.in_err-static_mem.field-0.0) = search rules in
    rw handed (hand_on (c.in_err-static_mem.field-0.0) (value_of (held c.args.assigned.now) table.DOMU_STATIC_MEM (Some c.args.guest)) (host_parts_of (held c.args.assigned.now) c.args.guest) (λ e bad. rw bad refl) c.in_err-static_mem.ensures)

pub returns-in_err-direct_map : goal.returns-in_err-direct_map
unfolding host_parts_of
returns-in_err-direct_map c =
    let handed : c.from_residual-in_err-direct_map.result ≡ Err (c.in_err-direct_map.field-0.0) = search rules in
    rw handed (hand_on (c.in_err-direct_map.field-0.0) (direct_value (held c.args.assigned.now) (is_static (held c.args.assigned.now) c.args.guest) c.args.guest) (host_parts_of (held c.args.assigned.now) c.args.guest) (λ e bad. rw (c.in_ok-static_mem.ensures, bad) refl) c.in_err-direct_map.ensures)

pub returns-in_err-passthrough_dtb : goal.returns-in_err-passthrough_dtb
unfolding host_parts_of
returns-in_err-passthrough_dtb c =
    let handed : c.from_residual-in_err-passthrough_dtb.result ≡ Err (c.in_err-passthrough_dtb.field-0.0) = search rules in
    rw handed (hand_on (c.in_err-passthrough_dtb.field-0.0) (value_of (held c.args.assigned.now) table.DOMU_PASSTHROUGH_DTB (Some c.args.guest)) (host_parts_of (held c.args.assigned.now) c.args.guest) (λ e bad. rw (c.in_ok-static_mem.ensures, c.in_ok-direct_map.ensures, bad) refl) c.in_err-passthrough_dtb.ensures)

pub returns : goal.returns
unfolding host_parts_of
returns c = rw (c.in_ok-static_mem.ensures, c.in_ok-direct_map.ensures, c.in_ok-passthrough_dtb.ensures) refl
