use Rattle.std.proofs.Common.{◌∙◌, refl, slice_get, string_bytes}
use Rattle.std.specs.Option.{option_copied}
use Rattle.ib_config_show.proofs.PartLemmas.{kernel_added}
use Rattle.ib_config_show.proofs.guest.put_kernel.Goals as goal

pub returns : goal.returns
returns c = kernel_added c.args.guest (slice_get c.args.config.now.guests c.args.guest) c.kernel.result.now (option_copied c.ramdisk.result) (option_copied c.cmd.result)
    (string_bytes c.args.out.now) (string_bytes c.put_text.new.out) (string_bytes c.put_optional.new.out) (string_bytes c.put_optional-2.new.out)
    c.kernel.ensures c.ramdisk.ensures c.cmd.ensures
    (c.in_ok-put_text.ensures ∙ rw c.as_str.ensures refl)
    (c.in_ok-put_optional.ensures)
    (c.in_ok-put_optional-2.ensures)
