-- A worked configuration of two guests, as the definitions place its files.
use Rattle.std.proofs.Common.{◌≡◌, ℕ, List, [], ◌∷◌, refl, Some, None, Ok, Err, true, false}
use Rattle.std.specs.Prelude.{codes}
use Rattle.ib_config.specs.declared.settings.Settings.{Settings}
use Rattle.ib_placement.specs.declared.places.FilePlace.{FilePlace}
use Rattle.ib_placement.specs.declared.places.PlaceFault.TheVariants.{PastEnd}
use Rattle.ib_placement.specs.Placement.{round_up, counted, places_of, files_of}

-- the configuration, by the end of its memory
abbrev worked : ℕ → Settings
worked memory_end = record {
  memory_start = 0;
  memory_end = memory_end;
  device_tree = codes "mpsoc.dtb";
  xen = codes "xen";
  xen_cmd = codes "console=dtuart dtuart=serial0";
  dom0_kernel = None;
  dom0_ramdisk = None;
  dom0_cmd = None;
  guests = record {
    kernel = codes "Image-0";
    ramdisk = Some (codes "rd-0.cpio");
    cmd = Some (codes "console=ttyAMA0");
    mem_mib = Some 1024;
    vcpus = 1;
    vpl011 = true;
    static_mem = [];
    direct_map = false;
    passthrough_dtb = Some (codes "uart.dtb");
    shared_mem = [];
    evtchns = [];
  }
      ∷ record {
        kernel = codes "Image-1";
        ramdisk = Some (codes "rd-1.cpio");
        cmd = None;
        mem_mib = Some 1024;
        vcpus = 1;
        vpl011 = true;
        static_mem = [];
        direct_map = false;
        passthrough_dtb = None;
        shared_mem = [];
        evtchns = [];
      } ∷ [];
  unused = codes "UBOOT_SOURCE" ∷ [];
}

abbrev sizes : List ℕ
sizes = 0x110000 ∷ 0x1800000 ∷ 0x300000 ∷ 0x209 ∷ 0x1700000 ∷ 0x280000 ∷ 4000 ∷ []

abbrev place_at : List ℕ → ℕ → ℕ → FilePlace
place_at name address size = record { name = name; address = address; size = size }

worked_places : places_of (worked 0x80000000) sizes ≡ Ok (place_at (codes "xen") 0x200000 0x110000 ∷ place_at (codes "Image-0") 0x400000 0x1800000
    ∷ place_at (codes "rd-0.cpio") 0x1c00000 0x300000 ∷ place_at (codes "uart.dtb") 0x2000000 0x209 ∷ place_at (codes "Image-1") 0x2200000 0x1700000
    ∷ place_at (codes "rd-1.cpio") 0x3a00000 0x280000 ∷ place_at (codes "mpsoc.dtb") 0x3e00000 4000 ∷ [])
unfolding places_of files_of
worked_places = refl

-- with less memory the first file that ends past it is refused, and with memory up to its end the next one is
less_memory : places_of (worked 0x3000000) sizes ≡ Err (PastEnd (codes "Image-1") 0x3900000)
unfolding places_of files_of
less_memory = refl

up_to_the_end : places_of (worked 0x3900000) sizes ≡ Err (PastEnd (codes "rd-1.cpio") 0x3c80000)
unfolding places_of files_of
up_to_the_end = refl

-- the device tree, of 4000 bytes, wants 0x80000 more
tree_past_end : places_of (worked 0x3e80f9f) sizes ≡ Err (PastEnd (codes "mpsoc.dtb") 0x3e80fa0)
unfolding places_of files_of
tree_past_end = refl

rounded : (round_up 0 ≡ 0) × (round_up 1 ≡ 0x200000) × (round_up 0x200000 ≡ 0x200000) × (round_up 0x200001 ≡ 0x400000)
rounded = (refl, refl, refl, refl)

counted_between : (counted 0 ≡ 1) × (counted 1 ≡ 1) × (counted 0x10000000000 ≡ 0x10000000000) × (counted 0x10000000001 ≡ 0x10000000000)
counted_between = (refl, refl, refl, refl)
