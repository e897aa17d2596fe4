-- The nodes of guests (Xen, docs/misc/arm/device-tree/booting.txt, "Creating Multiple Domains directly from Xen").
use Rattle.std.specs.Prelude.{ℕ, ◌+◌, ◌*◌, Bool, not, is_some, List, [], ◌∷◌, ◌++◌, length, drop, Option, codes}
use Rattle.std.specs.List.{flat_map, enumerate_from}
use Rattle.texts.specs.declared.ranges.BaseSize.{BaseSize}
use Rattle.ib_config.specs.Runs.{is_empty}
use Rattle.ib_config.specs.declared.groups.PortGroup.{PortGroup}
use Rattle.ib_config.specs.declared.groups.ShmGroup.{ShmGroup}
use Rattle.ib_config.specs.declared.guests.Guest.{Guest}
use Rattle.ib_placement.specs.Placement.{guest_files}
use Rattle.ib_placement.specs.declared.places.FilePlace.{FilePlace}
use Rattle.ib_script.specs.Phandles.{first_phandle, peer_phandle}
use Rattle.ib_script.specs.Properties.{two_cells, cells, word, below, numbered, on, on_some, two_and_two, module_at, place_at, one_if}
use Rattle.ib_script.specs.declared.command.Command.{Command}
use Rattle.ib_script.specs.declared.command.Command.TheVariants.{Mknod, Set}

-- the path of guest n
unfoldable pub guest_path : ℕ → List ℕ
guest_path n = below (codes "/chosen") (numbered (codes "domU") n)

-- the node of guest n
unfoldable pub node_commands : ℕ → List Command
node_commands n = Mknod (codes "/chosen") (numbered (codes "domU") n) ∷ Set (guest_path n) (codes "compatible") (word (codes "xen,domain")) ∷ two_and_two (guest_path n)

-- the memory of a guest in KiB, its vCPUs, and its console where it has one
unfoldable pub machine_commands : List ℕ → Option ℕ → ℕ → Bool → List Command
machine_commands path mib vcpus vpl011 =
    on_some mib (λ mib. Set path (codes "memory") (cells (two_cells (mib * 1024))) ∷ [])
    ++ Set path (codes "cpus") (cells (vcpus ∷ [])) ∷ []
    ++ on vpl011 (Set path (codes "vpl011") [] ∷ [])

-- base and size of a range, two cells each
abbrev pub range_cells : BaseSize → List ℕ
range_cells range = two_cells range.base ++ two_cells range.size

-- the ranges of a guest's static memory, and whether the guest is mapped directly
unfoldable pub static_properties : List ℕ → List BaseSize → Bool → List Command
static_properties path ranges direct =
    (Set path (codes "#xen,static-mem-address-cells") (cells (2 ∷ []))
    ∷ Set path (codes "#xen,static-mem-size-cells") (cells (2 ∷ []))
    ∷ Set path (codes "xen,static-mem") (cells (flat_map range_cells ranges))
    ∷ [])
    ++ on direct (Set path (codes "direct-map") [] ∷ [])

-- the static memory of a guest that has it
unfoldable pub static_commands : List ℕ → List BaseSize → Bool → List Command
static_commands path ranges direct = on (not (is_empty ranges)) (static_properties path ranges direct)

-- a guest with event channels is enhanced without xenstore
unfoldable pub enhanced_commands : List ℕ → List PortGroup → List Command
enhanced_commands path groups = on (not (is_empty groups)) (Set path (codes "xen,enhanced") (word (codes "no-xenstore")) ∷ [])

-- the kernel of a guest, with its command line
unfoldable pub kernel_commands : List ℕ → Option (List ℕ) → FilePlace → List Command
kernel_commands path cmd place =
    module_at path (codes "kernel") (codes "kernel") place ++ on_some cmd (λ cmd. Set (below path (codes "kernel")) (codes "bootargs") (word cmd) ∷ [])

-- the ramdisk and the partial tree of a guest that has them; their places follow the kernel's
unfoldable pub other_modules : List ℕ → Bool → Bool → List FilePlace → List Command
other_modules path ramdisk partial places =
    on ramdisk (module_at path (codes "ramdisk") (codes "ramdisk") (place_at places 1))
    ++ on partial (module_at path (codes "passthrough") (codes "device-tree") (place_at places (1 + one_if ramdisk)))

-- the k-th region that a guest shares: its id, and its host address, guest address and size
unfoldable pub shared_commands : List ℕ → ℕ × ShmGroup → List Command
shared_commands path (k, group) =
    Mknod path (numbered (codes "shm") k)
    ∷ Set (below path (numbered (codes "shm") k)) (codes "compatible") (word (codes "xen,domain-shared-memory-v1"))
    ∷ Set (below path (numbered (codes "shm") k)) (codes "xen,shm-id") (word group.id)
    ∷ Set (below path (numbered (codes "shm") k)) (codes "xen,shared-mem") (cells (two_cells group.host ++ two_cells group.guest ++ two_cells group.size))
    ∷ []

-- the k-th event channel of a guest: its phandle, its port and the phandle of the other end
unfoldable pub channel_commands : List ℕ → ℕ → ℕ → ℕ → ℕ → List Command
channel_commands path k phandle port peer =
    Mknod path (numbered (codes "evtchn") k)
    ∷ Set (below path (numbered (codes "evtchn") k)) (codes "compatible") (word (codes "xen,evtchn-v1"))
    ∷ Set (below path (numbered (codes "evtchn") k)) (codes "phandle") (cells (phandle ∷ []))
    ∷ Set (below path (numbered (codes "evtchn") k)) (codes "xen,evtchn") (cells (port ∷ peer ∷ []))
    ∷ []

-- the event channel of the k-th port group of a guest, whose first group has this phandle
unfoldable pub port_commands : List ℕ → List Guest → ℕ → ℕ → ℕ × PortGroup → List Command
port_commands path guests highest first (k, group) = channel_commands path k (first + k) group.port (peer_phandle guests highest group)

-- what guest n is: its node, its memory, vCPUs and console, its static memory, and whether it is enhanced
unfoldable pub domain_commands : ℕ → Guest → List Command
domain_commands n guest =
    node_commands n
    ++ machine_commands (guest_path n) guest.mem_mib guest.vcpus guest.vpl011
    ++ static_commands (guest_path n) guest.static_mem guest.direct_map
    ++ enhanced_commands (guest_path n) guest.evtchns

-- what guest n is started from, where its files have the first of the places
unfoldable pub module_commands : ℕ → Guest → List FilePlace → List Command
module_commands n guest places =
    kernel_commands (guest_path n) guest.cmd (place_at places 0) ++ other_modules (guest_path n) (is_some guest.ramdisk) (is_some guest.passthrough_dtb) places

-- what guest n shares with others: memory regions and event channels
unfoldable pub link_commands : List Guest → ℕ → ℕ → Guest → List Command
link_commands guests highest n guest =
    flat_map (shared_commands (guest_path n)) (enumerate_from 0 guest.shared_mem)
    ++ flat_map (port_commands (guest_path n) guests highest (first_phandle guests highest n)) (enumerate_from 0 guest.evtchns)

-- all of guest n
unfoldable pub guest_commands : List Guest → ℕ → ℕ → Guest → List FilePlace → List Command
guest_commands guests highest n guest places = domain_commands n guest ++ module_commands n guest places ++ link_commands guests highest n guest

-- the guests from guest n on, each with the places that follow those of the guests before it
abbrev pub guests_commands : List Guest → ℕ → ℕ → List Guest → List FilePlace → List Command
guests_commands guests highest n [] places = []
guests_commands guests highest n (guest ∷ others) places =
    guest_commands guests highest n guest places ++ guests_commands guests highest (n + 1) others (drop (length (guest_files guest)) places)
