use Rattle.std.proofs.Common.{◌∙◌, refl, string_bytes}
use Rattle.ib_config_show.proofs.PartLemmas.{host_added}
use Rattle.ib_config_show.proofs.settings.put_host.Goals as goal

pub returns : goal.returns
returns c = host_added c.args.config.now
    (string_bytes c.args.out.now) (string_bytes c.put_address.new.out) (string_bytes c.put_address-2.new.out) (string_bytes c.put_text.new.out) (string_bytes c.put_text-2.new.out) (string_bytes c.put_text-3.new.out)
    (c.in_ok-put_address.ensures ∙ rw c.memory_start.ensures refl)
    (c.in_ok-put_address-2.ensures ∙ rw c.memory_end.ensures refl)
    (c.in_ok-put_text.ensures ∙ rw (c.as_str.ensures, c.device_tree.ensures) refl)
    (c.in_ok-put_text-2.ensures ∙ rw (c.as_str-2.ensures, c.xen.ensures) refl)
    (c.in_ok-put_text-3.ensures ∙ rw (c.as_str-3.ensures, c.xen_cmd.ensures) refl)
