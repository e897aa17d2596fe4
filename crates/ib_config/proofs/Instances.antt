-- Small configurations, as the definitions read them.
use Rattle.std.proofs.Common.{◌≡◌, ℕ, List, [], ◌∷◌, ◌++◌, refl, Some, None, Ok, Err, true, false}
use Rattle.std.specs.Prelude.{codes}
use Rattle.std.specs.Str.{is_utf8, chars}
use Rattle.std.specs.Fmt.{digits}
use Rattle.ib_config.specs.Line.{is_tail, is_plain, is_bare, is_name_byte, is_name_start, is_letter, is_blank, is_digit, says_nothing, has_name, has_index, is_unsupported, line_fault, assignment_of, assignments_of}
use Rattle.ib_config.specs.Variables.{value_of}
use Rattle.texts.specs.Consecutive.{numbers}
use Rattle.ib_config.specs.Settings.{config_of, settings_of, guest_settings, is_one_of}
use Rattle.ib_config.specs.declared.fault.ConfigFault.TheVariants.{NotUtf8, BadName, BadIndex, OpenQuote, NotPlain, Unsupported, Missing, BadValue, TooMany}

plain_line : line_fault 1 (codes "  DOMU_MEM[07]='12 3' \t# a note") ≡ None
unfolding line_fault is_utf8 chars lib.Utf8.encode is_tail is_plain is_bare is_name_byte is_name_start is_letter is_blank is_digit says_nothing has_name has_index is_unsupported
plain_line = refl

read_line : assignment_of (codes "  DOMU_MEM[07]='12 3' \t# a note") ≡ Some (record { key = record { name = codes "DOMU_MEM"; index = Some 7 }; text = codes "12 3" })
unfolding assignment_of is_tail is_plain is_bare is_name_byte is_name_start is_letter is_blank is_digit says_nothing has_name has_index is_unsupported
read_line = refl

bad_name : line_fault 3 (codes "9A=1") ≡ Some (BadName 3)
unfolding line_fault is_utf8 chars lib.Utf8.encode is_tail is_plain is_bare is_name_byte is_name_start is_letter is_blank is_digit says_nothing has_name has_index is_unsupported
bad_name = refl

bad_index : line_fault 3 (codes "A[12345]=1") ≡ Some (BadIndex 3)
unfolding line_fault is_utf8 chars lib.Utf8.encode is_tail is_plain is_bare is_name_byte is_name_start is_letter is_blank is_digit says_nothing has_name has_index is_unsupported
bad_index = refl

open_quote : line_fault 3 (codes "A='1") ≡ Some (OpenQuote 3)
unfolding line_fault is_utf8 chars lib.Utf8.encode is_tail is_plain is_bare is_name_byte is_name_start is_letter is_blank is_digit says_nothing has_name has_index is_unsupported
open_quote = refl

-- a comment wants a blank before it
no_blank : line_fault 3 (codes "A='1'#x") ≡ Some (NotPlain 3)
unfolding line_fault is_utf8 chars lib.Utf8.encode is_tail is_plain is_bare is_name_byte is_name_start is_letter is_blank is_digit says_nothing has_name has_index is_unsupported
no_blank = refl

not_plain : line_fault 5 (codes "XEN_CMD=\"$X\"") ≡ Some (NotPlain 5)
unfolding line_fault is_utf8 chars lib.Utf8.encode is_tail is_plain is_bare is_name_byte is_name_start is_letter is_blank is_digit says_nothing has_name has_index is_unsupported
not_plain = refl

unsupported : line_fault 2 (codes "CPUPOOL[0]=1") ≡ Some (Unsupported 2)
unfolding line_fault is_utf8 chars lib.Utf8.encode is_tail is_plain is_bare is_name_byte is_name_start is_letter is_blank is_digit says_nothing has_name has_index is_unsupported
unsupported = refl

not_utf8 : line_fault 2 (35 ∷ 255 ∷ []) ≡ Some (NotUtf8 2)
unfolding line_fault is_utf8 chars lib.Utf8.encode is_tail is_plain is_bare is_name_byte is_name_start is_letter is_blank is_digit says_nothing has_name has_index is_unsupported
not_utf8 = refl

-- An empty file.
empty_file : config_of [] ≡ Err (Missing (codes "MEMORY_START") 0)
unfolding config_of numbers is_one_of settings_of assignments_of value_of line_fault is_utf8 chars lib.Utf8.encode assignment_of is_tail is_plain is_bare is_name_byte is_name_start is_letter is_blank is_digit says_nothing has_name has_index is_unsupported
empty_file = refl

-- The worked configuration, from its first lines to its last.
abbrev common_lines : List ℕ
common_lines = codes "MEMORY_START=\"0x0\"\nMEMORY_END=\"0x80000000\"\nDEVICE_TREE=\"mpsoc.dtb\"\nXEN=\"xen\"\nXEN_CMD=\"console=dtuart dtuart=serial0\"\n"

abbrev guest_lines : List ℕ
guest_lines = codes "DOMU_KERNEL[0]=\"Image-0\"\nDOMU_RAMDISK[0]=\"rd-0.cpio\"\nDOMU_CMD[0]=\"console=ttyAMA0\"\nDOMU_MEM[0]=1024\nDOMU_PASSTHROUGH_DTB[0]=\"uart.dtb\"\nDOMU_KERNEL[1]=\"Image-1\"\nDOMU_RAMDISK[1]=\"rd-1.cpio\"\nDOMU_MEM[1]=1024\nUBOOT_SOURCE=\"boot.source\"\n"

-- with no guest each guest's name is unused, in the order of the lines
no_guests : config_of (common_lines ++ codes "NUM_DOMUS=0\n" ++ guest_lines) ≡ Ok (record {
  memory_start = 0;
  memory_end = 0x80000000;
  device_tree = codes "mpsoc.dtb";
  xen = codes "xen";
  xen_cmd = codes "console=dtuart dtuart=serial0";
  dom0_kernel = None;
  dom0_ramdisk = None;
  dom0_cmd = None;
  guests = [];
  unused = codes "DOMU_KERNEL[0]" ∷ codes "DOMU_RAMDISK[0]" ∷ codes "DOMU_CMD[0]" ∷ codes "DOMU_MEM[0]" ∷ codes "DOMU_PASSTHROUGH_DTB[0]"
      ∷ codes "DOMU_KERNEL[1]" ∷ codes "DOMU_RAMDISK[1]" ∷ codes "DOMU_MEM[1]" ∷ codes "UBOOT_SOURCE" ∷ [];
})
unfolding config_of numbers is_one_of settings_of assignments_of value_of line_fault is_utf8 chars lib.Utf8.encode assignment_of digits is_tail is_plain is_bare is_name_byte is_name_start is_letter is_blank is_digit says_nothing has_name has_index is_unsupported
no_guests = refl

two_guests : config_of (common_lines ++ codes "NUM_DOMUS=2\n" ++ guest_lines) ≡ Ok (record {
  memory_start = 0;
  memory_end = 0x80000000;
  device_tree = codes "mpsoc.dtb";
  xen = codes "xen";
  xen_cmd = codes "console=dtuart dtuart=serial0";
  dom0_kernel = None;
  dom0_ramdisk = None;
  dom0_cmd = None;
  guests = record {
    kernel = codes "Image-0";
    ramdisk = Some (codes "rd-0.cpio");
    cmd = Some (codes "console=ttyAMA0");
    mem_mib = Some 1024;
    vcpus = 1;
    vpl011 = true;
    static_mem = [];
    direct_map = false;
    passthrough_dtb = Some (codes "uart.dtb");
    shared_mem = [];
    evtchns = [];
  }
      ∷ record {
        kernel = codes "Image-1";
        ramdisk = Some (codes "rd-1.cpio");
        cmd = None;
        mem_mib = Some 1024;
        vcpus = 1;
        vpl011 = true;
        static_mem = [];
        direct_map = false;
        passthrough_dtb = None;
        shared_mem = [];
        evtchns = [];
      } ∷ [];
  unused = codes "UBOOT_SOURCE" ∷ [];
})
unfolding config_of numbers is_one_of settings_of guest_settings assignments_of value_of line_fault is_utf8 chars lib.Utf8.encode assignment_of digits is_tail is_plain is_bare is_name_byte is_name_start is_letter is_blank is_digit says_nothing has_name has_index is_unsupported
two_guests = refl

seventeen : config_of (common_lines ++ codes "NUM_DOMUS=17\n" ++ guest_lines) ≡ Err (TooMany 17)
unfolding config_of numbers is_one_of settings_of assignments_of value_of line_fault is_utf8 chars lib.Utf8.encode assignment_of is_tail is_plain is_bare is_name_byte is_name_start is_letter is_blank is_digit says_nothing has_name has_index is_unsupported
seventeen = refl

-- ports of two guests that name each other, and a third that names a port which is not there
bad_peer : config_of (common_lines ++ codes "NUM_DOMUS=2\nDOMU_KERNEL[0]=k\nDOMU_KERNEL[1]=k\nDOMU_EVTCHNS[0]='1 1 5'\nDOMU_EVTCHNS[1]='6 0 1'\n") ≡ Err (BadValue (codes "DOMU_EVTCHNS") 0)
unfolding config_of numbers is_one_of settings_of guest_settings assignments_of value_of line_fault is_utf8 chars lib.Utf8.encode assignment_of is_tail is_plain is_bare is_name_byte is_name_start is_letter is_blank is_digit says_nothing has_name has_index is_unsupported
bad_peer = refl
