-- What is said about faults, as the definition gives it.
use Rattle.std.proofs.Common.{◌≡◌, refl}
use Rattle.std.specs.Prelude.{codes}
use Rattle.std.specs.Fmt.{digits}
use Rattle.ib_config.specs.Line.{is_blank, is_letter, is_digit, is_name_byte}
use Rattle.ib_config.specs.declared.fault.ConfigFault.TheVariants.{NotPlain, Unsupported}
use Rattle.config_files.specs.Configs.{fault_message}

-- a name that is not supported stands behind the number of its line
named : fault_message (codes "boot.cfg") (codes "XEN=\"xen\"\n\n# heap\r\n\n  STATIC_HEAP=\"0x1000 0x2000\"\n") (Unsupported 5) ≡ codes "boot.cfg: Unsupported at 5 STATIC_HEAP"
unfolding digits is_blank is_letter is_digit is_name_byte
named = refl

-- any other fault is shown by its line alone
unnamed : fault_message (codes "-") (codes "XEN=\"$x\"\n") (NotPlain 1) ≡ codes "-: NotPlain at 1"
unfolding digits
unnamed = refl
