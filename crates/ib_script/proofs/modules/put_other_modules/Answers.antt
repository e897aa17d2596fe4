use Rattle.std.proofs.Common.{append_assoc}
use Rattle.ib_script.specs.Guests.{other_modules}
use Rattle.ib_script.proofs.modules.put_other_modules.Goals as goal

pub returns : goal.returns
unfolding other_modules
returns c = rw (c.in_ok-put_partial.ensures, c.in_ok-put_ramdisk.ensures, c.one_if.ensures.value) (simp append_assoc)
