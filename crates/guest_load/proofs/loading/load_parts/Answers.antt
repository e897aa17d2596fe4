use Rattle.std.proofs.Common.{rules, ◌≡◌, Err}
use Rattle.run_steps.proofs.Due.{own_due}
use Rattle.guest_load.specs.PrivateMeant.{meant_parts}
use Rattle.guest_load.proofs.LoadingLemmas.{too_long, no_room}
use Rattle.guest_load.proofs.loading.load_parts.Goals as goal

pub returns-in_err-bytes-clause-stopped : goal.returns-in_err-bytes-clause-stopped
returns-in_err-bytes-clause-stopped c =
    let handed : c.from_residual.result ≡ Err (c.in_err-bytes.field-0.0) = search rules in
    rw handed
    (own_due _ _ (too_long c.args.out.now (meant_parts c.args.parts) c.place_ramdisk-place.result c.place_ramdisk-place.ensures.there) (c.in_err-bytes.field-0.0) c.in_err-bytes.ensures.stopped)

pub returns-in_ok-make_no_room_message-in-Err-clause-stopped : goal.returns-in_ok-make_no_room_message-in-Err-clause-stopped
returns-in_ok-make_no_room_message-in-Err-clause-stopped c =
    no_room c.args.out.now (meant_parts c.args.parts) c.place_ramdisk-place.result c.place_ramdisk-place.ensures.there
    c.in_ok-bytes.bytes c.in_ok-bytes.ensures.written c.in_ok-bytes.ensures.fits c.in-Err.field-0.0 (rw (c.as_slice.ensures) at c.in-Err.ensures.refused) _ c.in_ok-make_no_room_message-in-Err.ensures
