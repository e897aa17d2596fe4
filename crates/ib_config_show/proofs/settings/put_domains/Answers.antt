use Rattle.std.proofs.Common.{◌∙◌, refl, string_bytes}
use Rattle.ib_config_show.proofs.PartLemmas.{domains_added}
use Rattle.ib_config_show.proofs.settings.put_domains.Goals as goal

pub returns : goal.returns
returns c = domains_added c.args.config.now
    (string_bytes c.args.out.now) (string_bytes c.put_optional.new.out) (string_bytes c.put_optional-2.new.out) (string_bytes c.put_optional-3.new.out) (string_bytes c.put_number.new.out)
    (c.in_ok-put_optional.ensures ∙ rw c.dom0_kernel.ensures refl)
    (c.in_ok-put_optional-2.ensures ∙ rw c.dom0_ramdisk.ensures refl)
    (c.in_ok-put_optional-3.ensures ∙ rw c.dom0_cmd.ensures refl)
    (c.in_ok-put_number.ensures ∙ rw c.guests.ensures.count refl)
