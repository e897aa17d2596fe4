use Rattle.std.proofs.Common.{◌∙◌, slice_get}
use Rattle.std.specs.Option.{option_copied}
use Rattle.ib_script.proofs.GuestLemmas.{is_some_copied, modules_added}
use Rattle.ib_script.proofs.guests.put_modules.Goals as goal

pub returns : goal.returns
returns c =
    modules_added c.args.guest (slice_get c.args.config.now.guests c.args.guest) (option_copied c.cmd-cmd.result) (option_copied c.ramdisk.result) (option_copied c.passthrough_dtb.result)
    c.is_some-ramdisk.result c.is_some-partial.result c.args.places.now c.args.out.now c.put_kernel.new.out c.put_other_modules.new.out c.cmd-cmd.ensures c.ramdisk.ensures c.passthrough_dtb.ensures
    (c.is_some-ramdisk.ensures ∙ is_some_copied c.ramdisk.result) (c.is_some-partial.ensures ∙ is_some_copied c.passthrough_dtb.result)
    (rw (← c.requires.path, ← c.place_at-kernel.ensures) c.in_ok-put_kernel.ensures) (rw (← c.requires.path) c.in_ok-put_other_modules.ensures)
