use Rattle.std.proofs.Common.{append_assoc}
use Rattle.ib_script.specs.Script.{dom0_commands}
use Rattle.ib_script.proofs.modules.put_dom0.Goals as goal

pub returns : goal.returns
unfolding dom0_commands
returns c = rw (c.in_ok-put_dom0_ramdisk.ensures, c.in_ok-put_optional_word.ensures, c.in_ok-put_dom0_kernel.ensures, c.one_if.ensures.value) (simp append_assoc)
