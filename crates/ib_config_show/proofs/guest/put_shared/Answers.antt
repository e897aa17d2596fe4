use Rattle.std.proofs.Common.{◌∙◌, refl, slice_get, string_bytes}
use Rattle.std.specs.Option.{option_copied}
use Rattle.ib_config_show.proofs.PartLemmas.{shared_added}
use Rattle.ib_config_show.proofs.guest.put_shared.Goals as goal

pub returns : goal.returns
returns c = shared_added c.args.guest (slice_get c.args.config.now.guests c.args.guest) (option_copied c.passthrough_dtb.result) c.shared_mem.result.now c.evtchns.result.now
    (string_bytes c.args.out.now) (string_bytes c.put_optional.new.out) (string_bytes c.put_list.new.out) (string_bytes c.put_list-2.new.out)
    c.passthrough_dtb.ensures c.shared_mem.ensures c.evtchns.ensures
    (c.in_ok-put_optional.ensures)
    (c.in_ok-put_list.ensures ∙ rw c.as_slice.ensures refl)
    (c.in_ok-put_list-2.ensures ∙ rw c.as_slice-2.ensures refl)
