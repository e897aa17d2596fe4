use Rattle.std.proofs.Common.{◌∙◌, refl, slice_get, string_bytes}
use Rattle.ib_config_show.proofs.PartLemmas.{static_added}
use Rattle.ib_config_show.proofs.guest.put_static.Goals as goal

pub returns : goal.returns
returns c = static_added c.args.guest (slice_get c.args.config.now.guests c.args.guest) c.static_mem.result.now c.direct_map.result
    (string_bytes c.args.out.now) (string_bytes c.put_list.new.out) (string_bytes c.put_direct.new.out)
    c.static_mem.ensures c.direct_map.ensures
    (c.in_ok-put_list.ensures ∙ rw c.as_slice-ranges.ensures refl)
    (c.in_ok-put_direct.ensures ∙ rw c.as_slice-ranges.ensures refl)
