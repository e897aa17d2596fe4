-- Reading the variables in groups is reading them one after the other.
use Rattle.std.proofs.Common.{◌≡◌, ◌∙◌, ℕ, refl, List, Some, None, Ok, Err}
use Rattle.std.specs.Prelude.{Result, Option, Bool}
use Rattle.texts.specs.Consecutive.{numbers}
use Rattle.texts.specs.declared.ranges.BaseSize.{BaseSize}
use Rattle.ib_config.specs.PrivateGroups.{boot_of, machine_of, host_parts_of, guest_in_groups, base_of, dom0_of, settings_in_groups}
use Rattle.ib_config.specs.Settings.{◌>>=◌, each, guest_settings, settings_of, is_static, ports_at, direct_value, unused_names}
use Rattle.ib_config.specs.Variables as table
use Rattle.ib_config.specs.Variables.{Assigned, value_of}
use Rattle.ib_config.specs.declared.fault.ConfigFault.{ConfigFault}
use Rattle.ib_config.specs.declared.groups.PortGroup.{PortGroup}
use Rattle.ib_config.specs.declared.groups.ShmGroup.{ShmGroup}
use Rattle.ib_config.specs.declared.guests.Boot.{Boot}
use Rattle.ib_config.specs.declared.guests.Guest.{Guest}
use Rattle.ib_config.specs.declared.guests.HostParts.{HostParts}
use Rattle.ib_config.specs.declared.guests.Machine.{Machine}
use Rattle.ib_config.specs.declared.settings.Base.{Base}
use Rattle.ib_config.specs.declared.settings.Dom0.{Dom0}
use Rattle.ib_config.specs.declared.settings.Settings.{Settings}

-- three values, and what follows them
in_three : {A B C G R : Type 0} (a : Result A ConfigFault) (b : Result B ConfigFault) (c : Result C ConfigFault) (make : A → B → C → G) (next : G → Result R ConfigFault)
    → (a >>= λ x. b >>= λ y. c >>= λ z. next (make x y z)) ≡ ((a >>= λ x. b >>= λ y. c >>= λ z. Ok (make x y z)) >>= next)
in_three (Ok x) (Ok y) (Ok z) make next = refl
in_three (Ok x) (Ok y) (Err e) make next = refl
in_three (Ok x) (Err e) c make next = refl
in_three (Err e) b c make next = refl

-- five
in_five : {A B C D E G R : Type 0} (a : Result A ConfigFault) (b : Result B ConfigFault) (c : Result C ConfigFault) (d : Result D ConfigFault) (e : Result E ConfigFault)
    (make : A → B → C → D → E → G) (next : G → Result R ConfigFault)
    → (a >>= λ x. b >>= λ y. c >>= λ z. d >>= λ v. e >>= λ w. next (make x y z v w)) ≡ ((a >>= λ x. b >>= λ y. c >>= λ z. d >>= λ v. e >>= λ w. Ok (make x y z v w)) >>= next)
in_five (Ok x) (Ok y) c d e make next = in_three c d e (make x y) next
in_five (Ok x) (Err f) c d e make next = refl
in_five (Err f) b c d e make next = refl

-- the same value, and then alike
then_alike : {G R : Type 0} (r : Result G ConfigFault) (one other : G → Result R ConfigFault) → ((x : G) → one x ≡ other x) → (r >>= one) ≡ (r >>= other)
then_alike (Ok x) one other alike = alike x
then_alike (Err e) one other alike = refl

abbrev boot_with : List ℕ → Option (List ℕ) → Option (List ℕ) → Boot
boot_with kernel ramdisk cmd = record { kernel = kernel; ramdisk = ramdisk; cmd = cmd }

abbrev machine_with : Option ℕ → ℕ → Bool → Machine
machine_with mem_mib vcpus vpl011 = record { mem_mib = mem_mib; vcpus = vcpus; vpl011 = vpl011 }

abbrev parts_with : List BaseSize → Bool → Option (List ℕ) → HostParts
parts_with static_mem direct_map passthrough_dtb = record { static_mem = static_mem; direct_map = direct_map; passthrough_dtb = passthrough_dtb }

abbrev guest_with : Boot → Machine → HostParts → List ShmGroup → List PortGroup → Guest
guest_with boot machine parts shared_mem evtchns = record {
  kernel = boot.kernel;
  ramdisk = boot.ramdisk;
  cmd = boot.cmd;
  mem_mib = machine.mem_mib;
  vcpus = machine.vcpus;
  vpl011 = machine.vpl011;
  static_mem = parts.static_mem;
  direct_map = parts.direct_map;
  passthrough_dtb = parts.passthrough_dtb;
  shared_mem = shared_mem;
  evtchns = evtchns;
}

module _ (assigned : Assigned) where
  -- what follows the groups of a guest
  module _ (guests n : ℕ) where
    abbrev after_parts : Boot → Machine → HostParts → Result Guest ConfigFault
    after_parts boot machine parts = do
      shared_mem ← value_of assigned table.DOMU_SHARED_MEM (Some n)
      evtchns ← value_of assigned (table.DOMU_EVTCHNS (ports_at assigned) guests) (Some n)
      Ok (guest_with boot machine parts shared_mem evtchns)

    abbrev after_machine : Boot → Machine → Result Guest ConfigFault
    after_machine boot machine = do
      static_mem ← value_of assigned table.DOMU_STATIC_MEM (Some n)
      direct_map ← direct_value assigned (is_static assigned n) n
      passthrough_dtb ← value_of assigned table.DOMU_PASSTHROUGH_DTB (Some n)
      after_parts boot machine (parts_with static_mem direct_map passthrough_dtb)

    abbrev after_boot : Boot → Result Guest ConfigFault
    after_boot boot = do
      mem_mib ← value_of assigned (table.DOMU_MEM (is_static assigned n)) (Some n)
      vcpus ← value_of assigned table.DOMU_VCPUS (Some n)
      vpl011 ← value_of assigned table.DOMU_VPL011 (Some n)
      after_machine boot (machine_with mem_mib vcpus vpl011)

    parts_grouped : (boot : Boot) (machine : Machine) → after_machine boot machine ≡ (host_parts_of assigned n >>= after_parts boot machine)
    unfolding host_parts_of
    parts_grouped boot machine =
        in_three (value_of assigned table.DOMU_STATIC_MEM (Some n)) (direct_value assigned (is_static assigned n) n) (value_of assigned table.DOMU_PASSTHROUGH_DTB (Some n)) parts_with (after_parts boot machine)

    machine_grouped : (boot : Boot) → after_boot boot ≡ (machine_of assigned n >>= after_machine boot)
    unfolding machine_of
    machine_grouped boot =
        in_three (value_of assigned (table.DOMU_MEM (is_static assigned n)) (Some n)) (value_of assigned table.DOMU_VCPUS (Some n)) (value_of assigned table.DOMU_VPL011 (Some n)) machine_with (after_machine boot)

    boot_grouped : guest_settings assigned guests n ≡ (boot_of assigned n >>= after_boot)
    unfolding guest_settings boot_of
    boot_grouped = in_three (value_of assigned table.DOMU_KERNEL (Some n)) (value_of assigned table.DOMU_RAMDISK (Some n)) (value_of assigned table.DOMU_CMD (Some n)) boot_with after_boot

    pub guest_grouped : guest_settings assigned guests n ≡ guest_in_groups assigned guests n
    unfolding guest_in_groups
    guest_grouped =
        boot_grouped
        ∙ then_alike (boot_of assigned n) after_boot (λ boot. machine_of assigned n >>= λ machine. host_parts_of assigned n >>= after_parts boot machine)
        (λ boot. machine_grouped boot ∙ then_alike (machine_of assigned n) (after_machine boot) (λ machine. host_parts_of assigned n >>= after_parts boot machine) (parts_grouped boot))

  abbrev base_with : ℕ → ℕ → List ℕ → List ℕ → List ℕ → Base
  base_with memory_start memory_end device_tree xen xen_cmd =
      record { memory_start = memory_start; memory_end = memory_end; device_tree = device_tree; xen = xen; xen_cmd = xen_cmd }

  abbrev dom0_with : Option (List ℕ) → Option (List ℕ) → Option (List ℕ) → Dom0
  dom0_with kernel ramdisk cmd = record { kernel = kernel; ramdisk = ramdisk; cmd = cmd }

  abbrev after_dom0 : Base → Dom0 → Result Settings ConfigFault
  after_dom0 base dom0 = do
    count ← value_of assigned table.NUM_DOMUS None
    guests ← each (guest_settings assigned count) (numbers 0 count)
    Ok (record {
      memory_start = base.memory_start;
      memory_end = base.memory_end;
      device_tree = base.device_tree;
      xen = base.xen;
      xen_cmd = base.xen_cmd;
      dom0_kernel = dom0.kernel;
      dom0_ramdisk = dom0.ramdisk;
      dom0_cmd = dom0.cmd;
      guests = guests;
      unused = unused_names assigned count;
    })

  abbrev after_base : Base → Result Settings ConfigFault
  after_base base = do
    kernel ← value_of assigned table.DOM0_KERNEL None
    ramdisk ← value_of assigned table.DOM0_RAMDISK None
    cmd ← value_of assigned table.DOM0_CMD None
    after_dom0 base (dom0_with kernel ramdisk cmd)

  dom0_grouped : (base : Base) → after_base base ≡ (dom0_of assigned >>= after_dom0 base)
  unfolding dom0_of
  dom0_grouped base = in_three (value_of assigned table.DOM0_KERNEL None) (value_of assigned table.DOM0_RAMDISK None) (value_of assigned table.DOM0_CMD None) dom0_with (after_dom0 base)

  base_grouped : settings_of assigned ≡ (base_of assigned >>= after_base)
  unfolding settings_of base_of
  base_grouped =
      in_five (value_of assigned table.MEMORY_START None) (value_of assigned table.MEMORY_END None) (value_of assigned table.DEVICE_TREE None) (value_of assigned table.XEN None) (value_of assigned table.XEN_CMD None)
      base_with after_base

  pub settings_grouped : settings_of assigned ≡ settings_in_groups assigned
  unfolding settings_in_groups
  settings_grouped = base_grouped ∙ then_alike (base_of assigned) after_base (λ base. dom0_of assigned >>= after_dom0 base) dom0_grouped
