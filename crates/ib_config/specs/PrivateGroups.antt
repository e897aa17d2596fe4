-- The variables of a configuration in groups, as the code reads them: a group is a few variables in the order in which they are tested. Only private contracts and proofs use this file.
use Rattle.std.specs.Prelude.{ℕ, Some, None, Result, Ok}
use Rattle.texts.specs.Consecutive.{numbers}
use Rattle.ib_config.specs.Settings.{◌>>=◌, each, guest_settings, is_static, ports_at, direct_value, unused_names}
use Rattle.ib_config.specs.Variables as table
use Rattle.ib_config.specs.Variables.{Assigned, value_of}
use Rattle.ib_config.specs.declared.fault.ConfigFault.{ConfigFault}
use Rattle.ib_config.specs.declared.guests.Boot.{Boot}
use Rattle.ib_config.specs.declared.guests.Guest.{Guest}
use Rattle.ib_config.specs.declared.guests.HostParts.{HostParts}
use Rattle.ib_config.specs.declared.guests.Machine.{Machine}
use Rattle.ib_config.specs.declared.settings.Base.{Base}
use Rattle.ib_config.specs.declared.settings.Dom0.{Dom0}
use Rattle.ib_config.specs.declared.settings.Settings.{Settings}

-- what a guest boots
unfoldable pub boot_of : Assigned → ℕ → Result Boot ConfigFault
boot_of assigned n = do
  kernel ← value_of assigned table.DOMU_KERNEL (Some n)
  ramdisk ← value_of assigned table.DOMU_RAMDISK (Some n)
  cmd ← value_of assigned table.DOMU_CMD (Some n)
  Ok (record { kernel = kernel; ramdisk = ramdisk; cmd = cmd })

-- its memory, its processors and its console
unfoldable pub machine_of : Assigned → ℕ → Result Machine ConfigFault
machine_of assigned n = do
  mem_mib ← value_of assigned (table.DOMU_MEM (is_static assigned n)) (Some n)
  vcpus ← value_of assigned table.DOMU_VCPUS (Some n)
  vpl011 ← value_of assigned table.DOMU_VPL011 (Some n)
  Ok (record { mem_mib = mem_mib; vcpus = vcpus; vpl011 = vpl011 })

-- what it is given of the host
unfoldable pub host_parts_of : Assigned → ℕ → Result HostParts ConfigFault
host_parts_of assigned n = do
  static_mem ← value_of assigned table.DOMU_STATIC_MEM (Some n)
  direct_map ← direct_value assigned (is_static assigned n) n
  passthrough_dtb ← value_of assigned table.DOMU_PASSTHROUGH_DTB (Some n)
  Ok (record { static_mem = static_mem; direct_map = direct_map; passthrough_dtb = passthrough_dtb })

-- a guest, group after group
unfoldable pub guest_in_groups : Assigned → ℕ → ℕ → Result Guest ConfigFault
guest_in_groups assigned guests n = do
  boot ← boot_of assigned n
  machine ← machine_of assigned n
  parts ← host_parts_of assigned n
  shared_mem ← value_of assigned table.DOMU_SHARED_MEM (Some n)
  evtchns ← value_of assigned (table.DOMU_EVTCHNS (ports_at assigned) guests) (Some n)
  Ok (record {
    kernel = boot.kernel;
    ramdisk = boot.ramdisk;
    cmd = boot.cmd;
    mem_mib = machine.mem_mib;
    vcpus = machine.vcpus;
    vpl011 = machine.vpl011;
    static_mem = parts.static_mem;
    direct_map = parts.direct_map;
    passthrough_dtb = parts.passthrough_dtb;
    shared_mem = shared_mem;
    evtchns = evtchns;
  })

-- the memory that files are placed in, the host's tree, and Xen
unfoldable pub base_of : Assigned → Result Base ConfigFault
base_of assigned = do
  memory_start ← value_of assigned table.MEMORY_START None
  memory_end ← value_of assigned table.MEMORY_END None
  device_tree ← value_of assigned table.DEVICE_TREE None
  xen ← value_of assigned table.XEN None
  xen_cmd ← value_of assigned table.XEN_CMD None
  Ok (record { memory_start = memory_start; memory_end = memory_end; device_tree = device_tree; xen = xen; xen_cmd = xen_cmd })

-- dom0
unfoldable pub dom0_of : Assigned → Result Dom0 ConfigFault
dom0_of assigned = do
  kernel ← value_of assigned table.DOM0_KERNEL None
  ramdisk ← value_of assigned table.DOM0_RAMDISK None
  cmd ← value_of assigned table.DOM0_CMD None
  Ok (record { kernel = kernel; ramdisk = ramdisk; cmd = cmd })

-- the settings, group after group
unfoldable pub settings_in_groups : Assigned → Result Settings ConfigFault
settings_in_groups assigned = do
  base ← base_of assigned
  dom0 ← dom0_of assigned
  count ← value_of assigned table.NUM_DOMUS None
  guests ← each (guest_settings assigned count) (numbers 0 count)
  Ok (record {
    memory_start = base.memory_start;
    memory_end = base.memory_end;
    device_tree = base.device_tree;
    xen = base.xen;
    xen_cmd = base.xen_cmd;
    dom0_kernel = dom0.kernel;
    dom0_ramdisk = dom0.ramdisk;
    dom0_cmd = dom0.cmd;
    guests = guests;
    unused = unused_names assigned count;
  })
