-- Worked scripts, as the definitions have them.
use Rattle.std.proofs.Common.{◌≡◌, ℕ, List, [], ◌∷◌, refl, Some, None, Ok, Err, true, false}
use Rattle.std.specs.Prelude.{codes}
use Rattle.std.specs.List.{concat}
use Rattle.std.specs.Fmt.{digits}
use Rattle.ib_config.specs.declared.guests.Guest.{Guest}
use Rattle.ib_config.specs.declared.settings.Settings.{Settings}
use Rattle.ib_placement.specs.declared.places.FilePlace.{FilePlace}
use Rattle.ib_script.specs.Guests.{guest_path, node_commands, machine_commands, static_properties, static_commands, enhanced_commands, kernel_commands, other_modules, shared_commands, channel_commands, port_commands, domain_commands, module_commands, link_commands, guest_commands}
use Rattle.ib_script.specs.Phandles.{groups_before, first_phandle, peer_phandle}
use Rattle.ib_script.specs.Properties.{below, numbered, two_and_two, module_at}
use Rattle.ib_script.specs.Script.{tree_commands, chosen_commands, dom0_commands, domains_commands, start_commands, script_of, made_of}
use Rattle.ib_script.specs.Text.{piece_word, words_of_command, line_of_command, text_of}
use Rattle.ib_script.specs.declared.command.Command.TheVariants.{Resize, Set, SetEnv}
use Rattle.ib_script.specs.declared.command.Piece.TheVariants.{Cells, Bytes, Word}
use Rattle.ib_script.specs.declared.make.LoadKind.TheVariants.{Tftp, Sd, Usb, Scsi}
use Rattle.ib_script.specs.declared.make.MakeFault.TheVariants.{NoPhandle}

-- a file's place
abbrev place : List ℕ → ℕ → ℕ → FilePlace
place name address size = record { name = name; address = address; size = size }

-- settings by their Xen command line, dom0 and guests
abbrev settings : List ℕ → List Guest → Settings
settings xen_cmd guests = record {
  memory_start = 0;
  memory_end = 0x80000000;
  device_tree = codes "board.dtb";
  xen = codes "xen";
  xen_cmd = xen_cmd;
  dom0_kernel = None;
  dom0_ramdisk = None;
  dom0_cmd = None;
  guests = guests;
  unused = [];
}

-- a guest of 1 GiB with a ramdisk
abbrev guest : List ℕ → List ℕ → Guest
guest kernel ramdisk = record {
  kernel = kernel;
  ramdisk = Some ramdisk;
  cmd = None;
  mem_mib = Some 1024;
  vcpus = 1;
  vpl011 = true;
  static_mem = [];
  direct_map = false;
  passthrough_dtb = None;
  shared_mem = [];
  evtchns = [];
}

-- two guests, of which the first has a command line and a partial tree
abbrev two_guests : Settings
two_guests = settings (codes "console=dtuart dtuart=serial0")
    (record (guest (codes "Image-0") (codes "rd-0.cpio")) { cmd = Some (codes "console=ttyAMA0"); passthrough_dtb = Some (codes "uart.dtb") } ∷ guest (codes "Image-1") (codes "rd-1.cpio") ∷ [])

abbrev their_places : List FilePlace
their_places = place (codes "xen") 0x200000 0x110000 ∷ place (codes "Image-0") 0x400000 0x1800000 ∷ place (codes "rd-0.cpio") 0x1c00000 0x300000
    ∷ place (codes "uart.dtb") 0x2000000 0x209 ∷ place (codes "Image-1") 0x2200000 0x1700000 ∷ place (codes "rd-1.cpio") 0x3a00000 0x280000
    ∷ place (codes "mpsoc.dtb") 0x3e00000 4000 ∷ []

two_guests_printed : text_of (script_of two_guests their_places (record { chosen = true; highest = 1 }) Tftp) ≡ concat (
    codes "tftpb 0x200000 xen\n"
    ∷ codes "tftpb 0x400000 Image-0\n"
    ∷ codes "tftpb 0x1c00000 rd-0.cpio\n"
    ∷ codes "tftpb 0x2000000 uart.dtb\n"
    ∷ codes "tftpb 0x2200000 Image-1\n"
    ∷ codes "tftpb 0x3a00000 rd-1.cpio\n"
    ∷ codes "tftpb 0x3e00000 mpsoc.dtb\n"
    ∷ codes "fdt addr 0x3e00000\n"
    ∷ codes "fdt resize 0x80000\n"
    ∷ codes "fdt set /chosen \\#address-cells <0x2>\n"
    ∷ codes "fdt set /chosen \\#size-cells <0x2>\n"
    ∷ codes "fdt set /chosen xen,xen-bootargs \"console=dtuart dtuart=serial0\"\n"
    ∷ codes "fdt mknod /chosen domU0\n"
    ∷ codes "fdt set /chosen/domU0 compatible \"xen,domain\"\n"
    ∷ codes "fdt set /chosen/domU0 \\#address-cells <0x2>\n"
    ∷ codes "fdt set /chosen/domU0 \\#size-cells <0x2>\n"
    ∷ codes "fdt set /chosen/domU0 memory <0x0 0x100000>\n"
    ∷ codes "fdt set /chosen/domU0 cpus <0x1>\n"
    ∷ codes "fdt set /chosen/domU0 vpl011\n"
    ∷ codes "fdt mknod /chosen/domU0 kernel\n"
    ∷ codes "fdt set /chosen/domU0/kernel compatible \"multiboot,kernel\" \"multiboot,module\"\n"
    ∷ codes "fdt set /chosen/domU0/kernel reg <0x0 0x400000 0x0 0x1800000>\n"
    ∷ codes "fdt set /chosen/domU0/kernel bootargs \"console=ttyAMA0\"\n"
    ∷ codes "fdt mknod /chosen/domU0 ramdisk\n"
    ∷ codes "fdt set /chosen/domU0/ramdisk compatible \"multiboot,ramdisk\" \"multiboot,module\"\n"
    ∷ codes "fdt set /chosen/domU0/ramdisk reg <0x0 0x1c00000 0x0 0x300000>\n"
    ∷ codes "fdt mknod /chosen/domU0 passthrough\n"
    ∷ codes "fdt set /chosen/domU0/passthrough compatible \"multiboot,device-tree\" \"multiboot,module\"\n"
    ∷ codes "fdt set /chosen/domU0/passthrough reg <0x0 0x2000000 0x0 0x209>\n"
    ∷ codes "fdt mknod /chosen domU1\n"
    ∷ codes "fdt set /chosen/domU1 compatible \"xen,domain\"\n"
    ∷ codes "fdt set /chosen/domU1 \\#address-cells <0x2>\n"
    ∷ codes "fdt set /chosen/domU1 \\#size-cells <0x2>\n"
    ∷ codes "fdt set /chosen/domU1 memory <0x0 0x100000>\n"
    ∷ codes "fdt set /chosen/domU1 cpus <0x1>\n"
    ∷ codes "fdt set /chosen/domU1 vpl011\n"
    ∷ codes "fdt mknod /chosen/domU1 kernel\n"
    ∷ codes "fdt set /chosen/domU1/kernel compatible \"multiboot,kernel\" \"multiboot,module\"\n"
    ∷ codes "fdt set /chosen/domU1/kernel reg <0x0 0x2200000 0x0 0x1700000>\n"
    ∷ codes "fdt mknod /chosen/domU1 ramdisk\n"
    ∷ codes "fdt set /chosen/domU1/ramdisk compatible \"multiboot,ramdisk\" \"multiboot,module\"\n"
    ∷ codes "fdt set /chosen/domU1/ramdisk reg <0x0 0x3a00000 0x0 0x280000>\n"
    ∷ codes "setenv fdt_high 0xffffffffffffffff\n"
    ∷ codes "booti 0x200000 - 0x3e00000\n" ∷ [])
unfolding text_of line_of_command words_of_command piece_word digits script_of tree_commands chosen_commands dom0_commands domains_commands start_commands guest_path node_commands machine_commands static_properties static_commands enhanced_commands kernel_commands other_modules shared_commands channel_commands port_commands domain_commands module_commands link_commands guest_commands groups_before first_phandle peer_phandle below numbered two_and_two module_at
two_guests_printed = refl

-- dom0 with a kernel, a ramdisk and a command line, where the host's tree has no `/chosen`
abbrev dom0 : Settings
dom0 = record (settings (codes "console=dtuart") []) { dom0_kernel = Some (codes "Image"); dom0_ramdisk = Some (codes "rd"); dom0_cmd = Some (codes "console=hvc0") }

dom0_printed : text_of (script_of dom0
    (place (codes "xen") 0x200000 0x110000 ∷ place (codes "Image") 0x400000 0x1800000 ∷ place (codes "rd") 0x1c00000 0x300000 ∷ place (codes "board.dtb") 0x2000000 0x1000 ∷ [])
    (record { chosen = false; highest = 0 }) Sd) ≡ concat (
    codes "load mmc 0:1 0x200000 xen\n"
    ∷ codes "load mmc 0:1 0x400000 Image\n"
    ∷ codes "load mmc 0:1 0x1c00000 rd\n"
    ∷ codes "load mmc 0:1 0x2000000 board.dtb\n"
    ∷ codes "fdt addr 0x2000000\n"
    ∷ codes "fdt resize 0x80000\n"
    ∷ codes "fdt mknod / chosen\n"
    ∷ codes "fdt set /chosen \\#address-cells <0x2>\n"
    ∷ codes "fdt set /chosen \\#size-cells <0x2>\n"
    ∷ codes "fdt set /chosen xen,xen-bootargs \"console=dtuart\"\n"
    ∷ codes "fdt mknod /chosen dom0\n"
    ∷ codes "fdt set /chosen/dom0 compatible \"multiboot,kernel\" \"multiboot,module\"\n"
    ∷ codes "fdt set /chosen/dom0 reg <0x0 0x400000 0x0 0x1800000>\n"
    ∷ codes "fdt set /chosen xen,dom0-bootargs \"console=hvc0\"\n"
    ∷ codes "fdt mknod /chosen dom0-ramdisk\n"
    ∷ codes "fdt set /chosen/dom0-ramdisk compatible \"multiboot,ramdisk\" \"multiboot,module\"\n"
    ∷ codes "fdt set /chosen/dom0-ramdisk reg <0x0 0x1c00000 0x0 0x300000>\n"
    ∷ codes "setenv fdt_high 0xffffffffffffffff\n"
    ∷ codes "booti 0x200000 - 0x2000000\n" ∷ [])
unfolding text_of line_of_command words_of_command piece_word digits script_of tree_commands chosen_commands dom0_commands domains_commands start_commands guest_path node_commands machine_commands static_properties static_commands enhanced_commands kernel_commands other_modules shared_commands channel_commands port_commands domain_commands module_commands link_commands guest_commands groups_before first_phandle peer_phandle below numbered two_and_two module_at
dom0_printed = refl

-- a guest with static memory and a shared region, and two event channels between it and another
abbrev linked : Settings
linked = settings [] (record {
  kernel = codes "a";
  ramdisk = None;
  cmd = None;
  mem_mib = None;
  vcpus = 1;
  vpl011 = false;
  static_mem = record { base = 0x40000000; size = 0x20000000 } ∷ record { base = 0x100000000; size = 0x8000000 } ∷ [];
  direct_map = true;
  passthrough_dtb = None;
  shared_mem = record { id = codes "buffer"; host = 0x70000000; guest = 0x170000000; size = 0x200000 } ∷ [];
  evtchns = record { port = 1; peer = 1; peer_port = 5 } ∷ record { port = 2; peer = 1; peer_port = 6 } ∷ [];
}
    ∷ record {
      kernel = codes "b";
      ramdisk = None;
      cmd = None;
      mem_mib = Some 1048576;
      vcpus = 16;
      vpl011 = true;
      static_mem = [];
      direct_map = false;
      passthrough_dtb = None;
      shared_mem = [];
      evtchns = record { port = 6; peer = 0; peer_port = 2 } ∷ record { port = 5; peer = 0; peer_port = 1 } ∷ [];
    } ∷ [])

abbrev linked_places : List FilePlace
linked_places = place (codes "xen") 0x200000 0x1000 ∷ place (codes "a") 0x400000 0x1000 ∷ place (codes "b") 0x600000 0x1000 ∷ place (codes "board.dtb") 0x800000 0x1000 ∷ []

linked_printed : text_of (script_of linked linked_places (record { chosen = true; highest = 0x20 }) Usb) ≡ concat (
    codes "load usb 0:1 0x200000 xen\n"
    ∷ codes "load usb 0:1 0x400000 a\n"
    ∷ codes "load usb 0:1 0x600000 b\n"
    ∷ codes "load usb 0:1 0x800000 board.dtb\n"
    ∷ codes "fdt addr 0x800000\n"
    ∷ codes "fdt resize 0x80000\n"
    ∷ codes "fdt set /chosen \\#address-cells <0x2>\n"
    ∷ codes "fdt set /chosen \\#size-cells <0x2>\n"
    ∷ codes "fdt set /chosen xen,xen-bootargs \"\"\n"
    ∷ codes "fdt mknod /chosen domU0\n"
    ∷ codes "fdt set /chosen/domU0 compatible \"xen,domain\"\n"
    ∷ codes "fdt set /chosen/domU0 \\#address-cells <0x2>\n"
    ∷ codes "fdt set /chosen/domU0 \\#size-cells <0x2>\n"
    ∷ codes "fdt set /chosen/domU0 cpus <0x1>\n"
    ∷ codes "fdt set /chosen/domU0 \\#xen,static-mem-address-cells <0x2>\n"
    ∷ codes "fdt set /chosen/domU0 \\#xen,static-mem-size-cells <0x2>\n"
    ∷ codes "fdt set /chosen/domU0 xen,static-mem <0x0 0x40000000 0x0 0x20000000 0x1 0x0 0x0 0x8000000>\n"
    ∷ codes "fdt set /chosen/domU0 direct-map\n"
    ∷ codes "fdt set /chosen/domU0 xen,enhanced \"no-xenstore\"\n"
    ∷ codes "fdt mknod /chosen/domU0 kernel\n"
    ∷ codes "fdt set /chosen/domU0/kernel compatible \"multiboot,kernel\" \"multiboot,module\"\n"
    ∷ codes "fdt set /chosen/domU0/kernel reg <0x0 0x400000 0x0 0x1000>\n"
    ∷ codes "fdt mknod /chosen/domU0 shm0\n"
    ∷ codes "fdt set /chosen/domU0/shm0 compatible \"xen,domain-shared-memory-v1\"\n"
    ∷ codes "fdt set /chosen/domU0/shm0 xen,shm-id \"buffer\"\n"
    ∷ codes "fdt set /chosen/domU0/shm0 xen,shared-mem <0x0 0x70000000 0x1 0x70000000 0x0 0x200000>\n"
    ∷ codes "fdt mknod /chosen/domU0 evtchn0\n"
    ∷ codes "fdt set /chosen/domU0/evtchn0 compatible \"xen,evtchn-v1\"\n"
    ∷ codes "fdt set /chosen/domU0/evtchn0 phandle <0x21>\n"
    ∷ codes "fdt set /chosen/domU0/evtchn0 xen,evtchn <0x1 0x24>\n"
    ∷ codes "fdt mknod /chosen/domU0 evtchn1\n"
    ∷ codes "fdt set /chosen/domU0/evtchn1 compatible \"xen,evtchn-v1\"\n"
    ∷ codes "fdt set /chosen/domU0/evtchn1 phandle <0x22>\n"
    ∷ codes "fdt set /chosen/domU0/evtchn1 xen,evtchn <0x2 0x23>\n"
    ∷ codes "fdt mknod /chosen domU1\n"
    ∷ codes "fdt set /chosen/domU1 compatible \"xen,domain\"\n"
    ∷ codes "fdt set /chosen/domU1 \\#address-cells <0x2>\n"
    ∷ codes "fdt set /chosen/domU1 \\#size-cells <0x2>\n"
    ∷ codes "fdt set /chosen/domU1 memory <0x0 0x40000000>\n"
    ∷ codes "fdt set /chosen/domU1 cpus <0x10>\n"
    ∷ codes "fdt set /chosen/domU1 vpl011\n"
    ∷ codes "fdt set /chosen/domU1 xen,enhanced \"no-xenstore\"\n"
    ∷ codes "fdt mknod /chosen/domU1 kernel\n"
    ∷ codes "fdt set /chosen/domU1/kernel compatible \"multiboot,kernel\" \"multiboot,module\"\n"
    ∷ codes "fdt set /chosen/domU1/kernel reg <0x0 0x600000 0x0 0x1000>\n"
    ∷ codes "fdt mknod /chosen/domU1 evtchn0\n"
    ∷ codes "fdt set /chosen/domU1/evtchn0 compatible \"xen,evtchn-v1\"\n"
    ∷ codes "fdt set /chosen/domU1/evtchn0 phandle <0x23>\n"
    ∷ codes "fdt set /chosen/domU1/evtchn0 xen,evtchn <0x6 0x22>\n"
    ∷ codes "fdt mknod /chosen/domU1 evtchn1\n"
    ∷ codes "fdt set /chosen/domU1/evtchn1 compatible \"xen,evtchn-v1\"\n"
    ∷ codes "fdt set /chosen/domU1/evtchn1 phandle <0x24>\n"
    ∷ codes "fdt set /chosen/domU1/evtchn1 xen,evtchn <0x5 0x21>\n"
    ∷ codes "setenv fdt_high 0xffffffffffffffff\n"
    ∷ codes "booti 0x200000 - 0x800000\n" ∷ [])
unfolding text_of line_of_command words_of_command piece_word digits script_of tree_commands chosen_commands dom0_commands domains_commands start_commands guest_path node_commands machine_commands static_properties static_commands enhanced_commands kernel_commands other_modules shared_commands channel_commands port_commands domain_commands module_commands link_commands guest_commands groups_before first_phandle peer_phandle below numbered two_and_two module_at
linked_printed = refl

-- four phandles fit behind 0xfffffffa, and not behind 0xfffffffb
last_phandle_fits : made_of linked linked_places (record { chosen = true; highest = 0xfffffffa }) Scsi ≡ Ok (script_of linked linked_places (record { chosen = true; highest = 0xfffffffa }) Scsi)
unfolding made_of groups_before
last_phandle_fits = refl

no_phandle : made_of linked linked_places (record { chosen = true; highest = 0xfffffffb }) Scsi ≡ Err (NoPhandle 0xfffffffb)
unfolding made_of groups_before
no_phandle = refl

-- the inequality counts alone: without event channels 0xfffffffe is taken, and 0xffffffff is not
none_wanted : made_of two_guests their_places (record { chosen = true; highest = 0xffffffff }) Scsi ≡ Err (NoPhandle 0xffffffff)
unfolding made_of groups_before
none_wanted = refl

-- values that no configuration has
others_printed : text_of (
    Set (codes "/#a") (codes "#b#") (Cells (10 ∷ 0 ∷ []) ∷ Cells [] ∷ Bytes (0 ∷ 0xab ∷ []) ∷ Bytes [] ∷ Word (codes "a #b") ∷ [])
    ∷ Set (codes "/") (codes "c#") []
    ∷ Resize 0
    ∷ SetEnv (codes "a") (codes "b c")
    ∷ SetEnv (codes "a") []
    ∷ []) ≡ concat (
    codes "fdt set /#a \\#b# <0xa 0x0> <> [00 ab] [] \"a #b\"\n"
    ∷ codes "fdt set / c#\n"
    ∷ codes "fdt resize 0x0\n"
    ∷ codes "setenv a b c\n"
    ∷ codes "setenv a\n" ∷ [])
unfolding text_of line_of_command words_of_command piece_word digits
others_printed = refl
