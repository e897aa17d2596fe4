-- Small configurations, as the rows read them.
use Rattle.std.proofs.Common.{◌≡◌, ℕ, Bool, List, [], ◌∷◌, refl, Some, None, true, false, map}
use Rattle.std.specs.Prelude.{Option, codes}
use Rattle.texts.specs.Consecutive.{numbers}
use Rattle.texts.specs.declared.ranges.BaseSize.{BaseSize}
use Rattle.ib_config.specs.declared.groups.PortGroup.{PortGroup}
use Rattle.ib_config.specs.declared.guests.Guest.{Guest}
use Rattle.ib_config.specs.declared.settings.Settings.{Settings}
use Rattle.ib_placement.specs.Placement.{files_of}
use Rattle.ib_config_lint.specs.Rows.{has_quote, begins_as_cells, is_long, has_colon, has_many_ranges, lacks_memory, crosses_bank, has_high_port, has_many_files}
use Rattle.ib_config_lint.specs.Warnings.{text_warnings, file_warnings, optional, host_warnings, dom0_warnings, count_warnings, kernel_warnings, memory_warnings, link_warnings, guests_warnings, warnings, is_remark}
use Rattle.ib_config_lint.specs.declared.warning.Trouble.TheVariants.{Quote, NoMemory, HighPort, CrossedBank, Server, ReversedGuests}
use Rattle.ib_config_lint.specs.declared.warning.Variable.TheVariants.{Xen, Dom0Cmd, NumDomus, DomuMem, DomuStaticMem, DomuEvtchns}

quote : (has_quote (codes "it's") ≡ true) × (has_quote (codes "its") ≡ false)
quote = (refl, refl)

cells : (begins_as_cells (codes "<1 2>") ≡ true) × (begins_as_cells (codes "[0a 0b]") ≡ true) × (begins_as_cells (codes "a <1 2>") ≡ false) × (begins_as_cells [] ≡ false)
cells = (refl, refl, refl, refl)

long_text : (is_long (numbers 0 1023) ≡ false) × (is_long (numbers 0 1024) ≡ true)
unfolding numbers
long_text = (refl, refl)

colon : (has_colon (codes "10.0.2.2:xen") ≡ true) × (has_colon (codes "boot/xen") ≡ false)
colon = (refl, refl)

-- a range of so many bytes
abbrev sized : ℕ → BaseSize
sized size = record { base = 0x800000000; size = size }

ranges : (has_many_ranges (map sized (numbers 0 62)) ≡ false) × (has_many_ranges (map sized (numbers 0 63)) ≡ true)
unfolding numbers
ranges = (refl, refl)

-- a guest with its memory and its event channels
abbrev guest : Option ℕ → Bool → List BaseSize → List PortGroup → Guest
guest mib direct static_mem evtchns = record {
  kernel = codes "Image";
  ramdisk = Some (codes "rd.cpio");
  cmd = Some (codes "console=ttyAMA0");
  mem_mib = mib;
  vcpus = 1;
  vpl011 = true;
  static_mem = static_mem;
  direct_map = direct;
  passthrough_dtb = Some (codes "uart.dtb");
  shared_mem = [];
  evtchns = evtchns;
}

heap_memory : (lacks_memory (guest None true (sized 0x1000 ∷ []) []) ≡ true) × (lacks_memory (guest (Some 1) true (sized 0x1000 ∷ []) []) ≡ false)
heap_memory = (refl, refl)

-- ranges that fill the bank to its end do not cross it, nor do those behind it, nor those of a guest that is direct-mapped
bank : (crosses_bank (guest None false (sized 0x80000000 ∷ sized 0x80000000 ∷ []) []) ≡ true)
    × (crosses_bank (guest None false (sized 0x80000000 ∷ sized 0x40000000 ∷ sized 0x80000000 ∷ []) []) ≡ false)
    × (crosses_bank (guest None false (sized 0xc0001000 ∷ []) []) ≡ true) × (crosses_bank (guest None true (sized 0xc0001000 ∷ []) []) ≡ false)
bank = (refl, refl, refl, refl)

ports : (has_high_port (record { port = 1023; peer = 0; peer_port = 1024 } ∷ []) ≡ false) × (has_high_port (record { port = 1024; peer = 0; peer_port = 1 } ∷ []) ≡ true)
ports = (refl, refl)

-- a host with guests
abbrev host : List ℕ → Option (List ℕ) → List Guest → Settings
host xen cmd guests = record {
  memory_start = 0;
  memory_end = 0x80000000;
  device_tree = codes "mpsoc.dtb";
  xen = xen;
  xen_cmd = codes "console=dtuart";
  dom0_kernel = None;
  dom0_ramdisk = None;
  dom0_cmd = cmd;
  guests = guests;
  unused = [];
}

-- ten guests of three files, Xen and the host tree are 32 files
files : (has_many_files (host (codes "xen") None (map (λ n. guest (Some 1) false [] []) (numbers 0 10))) ≡ false)
    × (has_many_files (host (codes "xen") None (map (λ n. guest (Some 1) false [] []) (numbers 0 11))) ≡ true)
unfolding numbers files_of
files = (refl, refl)

no_warning : warnings (host (codes "xen") (Some (codes "console=hvc0")) (guest (Some 256) true (sized 0xc0001000 ∷ []) (record { port = 1023; peer = 0; peer_port = 1023 } ∷ []) ∷ [])) ≡ []
unfolding text_warnings file_warnings optional host_warnings dom0_warnings count_warnings kernel_warnings memory_warnings link_warnings guests_warnings files_of
no_warning = refl

-- in the order of the variables, with a remark among them
several : warnings (host (codes "10.0.2.2:xen") (Some (codes "it's")) (guest None false (sized 0xc0001000 ∷ []) [] ∷ guest (Some 256) false [] (record { port = 1024; peer = 1; peer_port = 1024 } ∷ []) ∷ []))
    ≡ record { variable = Xen; trouble = Server } ∷ record { variable = Dom0Cmd; trouble = Quote } ∷ record { variable = NumDomus; trouble = ReversedGuests }
    ∷ record { variable = DomuMem 0; trouble = NoMemory } ∷ record { variable = DomuStaticMem 0; trouble = CrossedBank } ∷ record { variable = DomuEvtchns 1; trouble = HighPort } ∷ []
unfolding text_warnings file_warnings optional host_warnings dom0_warnings count_warnings kernel_warnings memory_warnings link_warnings guests_warnings files_of
several = refl

remark : is_remark (record { variable = NumDomus; trouble = ReversedGuests }) ≡ true
remark = refl
