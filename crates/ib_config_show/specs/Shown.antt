-- What a configuration says, as lines.
use Rattle.std.specs.Prelude.{ℕ, Bool, List, ◌∷◌, ◌++◌, Some, None, codes, decimal, length, map, option_map, []}
use Rattle.std.specs.List.{flat_map, enumerate_from}
use Rattle.texts.specs.declared.ranges.BaseSize.{BaseSize}
use Rattle.ib_config.specs.declared.guests.Guest.{Guest}
use Rattle.ib_config.specs.declared.settings.Settings.{Settings}
use Rattle.ib_config_show.specs.Lines.{line, optional_line, groups_line, switch, unused_line}
use Rattle.ib_config_show.specs.Words.{hex, range_words, shm_words, port_words}

-- the files and the command line of guest n
unfoldable pub kernel_lines : ℕ → Guest → List ℕ
kernel_lines n guest =
    line (codes "DOMU_KERNEL") (Some n) guest.kernel
    ++ optional_line (codes "DOMU_RAMDISK") (Some n) guest.ramdisk
    ++ optional_line (codes "DOMU_CMD") (Some n) guest.cmd

-- the memory, in MiB, the vCPUs and the console of guest n
unfoldable pub machine_lines : ℕ → Guest → List ℕ
machine_lines n guest =
    optional_line (codes "DOMU_MEM") (Some n) (option_map decimal guest.mem_mib)
    ++ line (codes "DOMU_VCPUS") (Some n) (decimal guest.vcpus)
    ++ line (codes "DOMU_VPL011") (Some n) (switch guest.vpl011)

-- whether guest n is mapped directly, which is said with static memory alone
unfoldable pub direct_line : ℕ → List BaseSize → Bool → List ℕ
direct_line n [] direct = []
direct_line n (range ∷ ranges) direct = line (codes "DOMU_DIRECT_MAP") (Some n) (switch direct)

-- the static memory of guest n
unfoldable pub static_lines : ℕ → Guest → List ℕ
static_lines n guest = groups_line (codes "DOMU_STATIC_MEM") (Some n) (map range_words guest.static_mem) ++ direct_line n guest.static_mem guest.direct_map

-- what guest n has of the host's devices and shares with others
unfoldable pub shared_lines : ℕ → Guest → List ℕ
shared_lines n guest =
    optional_line (codes "DOMU_PASSTHROUGH_DTB") (Some n) guest.passthrough_dtb
    ++ groups_line (codes "DOMU_SHARED_MEM") (Some n) (map shm_words guest.shared_mem)
    ++ groups_line (codes "DOMU_EVTCHNS") (Some n) (map port_words guest.evtchns)

-- all lines of guest n
unfoldable pub guest_lines : ℕ → Guest → List ℕ
guest_lines n guest =
    kernel_lines n guest ++ machine_lines n guest ++ static_lines n guest ++ shared_lines n guest

-- the lines of each guest, numbered from first on
unfoldable pub guests_lines : ℕ → List Guest → List ℕ
guests_lines first guests = flat_map (λ numbered. guest_lines numbered.0 numbered.1) (enumerate_from first guests)

-- the host's memory, its device tree and Xen
unfoldable pub host_lines : Settings → List ℕ
host_lines settings =
    line (codes "MEMORY_START") None (hex settings.memory_start)
    ++ line (codes "MEMORY_END") None (hex settings.memory_end)
    ++ line (codes "DEVICE_TREE") None settings.device_tree
    ++ line (codes "XEN") None settings.xen
    ++ line (codes "XEN_CMD") None settings.xen_cmd

-- dom0 and how many guests there are
unfoldable pub domain_lines : Settings → List ℕ
domain_lines settings =
    optional_line (codes "DOM0_KERNEL") None settings.dom0_kernel
    ++ optional_line (codes "DOM0_RAMDISK") None settings.dom0_ramdisk
    ++ optional_line (codes "DOM0_CMD") None settings.dom0_cmd
    ++ line (codes "NUM_DOMUS") None (decimal (length settings.guests))

-- all that a configuration says: its variables in the order in which they are tested, and the names that have no effect
abbrev pub config_lines : Settings → List ℕ
config_lines settings = host_lines settings ++ domain_lines settings ++ guests_lines 0 settings.guests ++ flat_map unused_line settings.unused
