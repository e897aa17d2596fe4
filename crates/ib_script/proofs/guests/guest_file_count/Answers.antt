use Rattle.std.proofs.Common.{◌+◌, ◌∙◌, slice_get}
use Rattle.std.specs.Option.{option_copied}
use Rattle.ib_script.proofs.GuestLemmas.{is_some_copied, count_is}
use Rattle.ib_script.proofs.guests.guest_file_count.Goals as goal

pub returns-clause-value : goal.returns-clause-value
returns-clause-value c =
    count_is (slice_get c.args.config.now.guests c.args.guest) (option_copied c.ramdisk.result) (option_copied c.passthrough_dtb.result) c.is_some-ramdisk.result c.is_some-partial.result
    (1 + c.one_if.result + c.one_if-2.result) c.ramdisk.ensures c.passthrough_dtb.ensures (c.is_some-ramdisk.ensures ∙ is_some_copied c.ramdisk.result)
    (c.is_some-partial.ensures ∙ is_some_copied c.passthrough_dtb.result) (rw (c.one_if.ensures.value, c.one_if-2.ensures.value))
