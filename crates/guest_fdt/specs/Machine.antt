-- The nodes of a guest's machine, each a table of properties (Devicetree Specification 0.4, 3; Linux, Documentation/devicetree/bindings).
use Rattle.std.specs.Prelude.{ℕ, ◌+◌, ◌*◌, ◌/◌, ◌%◌, Bool, List, [], ◌∷◌, ◌++◌, map, flat_map, Option, codes}
use Rattle.texts.specs.Consecutive.{numbers}
use Rattle.texts.specs.declared.ranges.BaseSize.{BaseSize}
use Rattle.fdt_tree.specs.Tree.{Bytes, Property, Tree}
use Rattle.tree_parts.specs.Nodes.{node, leaf, cells, wide_cells, text, flag, two_and_two, named_at, on, on_some}

-- the properties of the root, where the interrupt controller has this phandle
unfoldable pub root_properties : ℕ → List Property
root_properties gic = two_and_two ++ text (codes "compatible") (codes "xen,xenvm") ∷ cells (codes "interrupt-parent") (gic ∷ []) ∷ []

-- the name of the console
abbrev pub console_name : BaseSize → Bytes
console_name area = named_at (codes "pl011") area.base

-- the command line, as it stands in the kernel's module, and the console of a guest that has one
unfoldable pub chosen : BaseSize → Option Bytes → Bool → Tree
chosen area bootargs console =
    leaf (codes "chosen") (on_some bootargs (λ bytes. (codes "bootargs", bytes) ∷ []) ++ on console (text (codes "stdout-path") (codes "/" ++ console_name area) ∷ []))

-- the affinity of the n-th vCPU: 16 in a cluster
abbrev pub affinity : ℕ → ℕ
affinity n = 256 * (n / 16) + n % 16

-- the n-th vCPU
unfoldable pub cpu : ℕ → Tree
cpu n = leaf (named_at (codes "cpu") (affinity n)) (
    text (codes "device_type") (codes "cpu")
    ∷ text (codes "compatible") (codes "arm,armv8")
    ∷ text (codes "enable-method") (codes "psci")
    ∷ cells (codes "reg") (affinity n ∷ [])
    ∷ [])

-- so many vCPUs
unfoldable pub cpus : ℕ → Tree
cpus count = node (codes "cpus") (cells (codes "#address-cells") (1 ∷ []) ∷ cells (codes "#size-cells") (0 ∷ []) ∷ []) (map cpu (numbers 0 count))

-- how vCPUs are switched on and off
unfoldable pub psci : Tree
psci = leaf (codes "psci") (text (codes "compatible") (codes "arm,psci-1.0") ∷ text (codes "method") (codes "hvc") ∷ [])

-- memory: pages from one on
unfoldable pub memory : ℕ × ℕ → Tree
memory (page, count) = leaf (named_at (codes "memory") (page * 4096)) (
    text (codes "device_type") (codes "memory")
    ∷ wide_cells (codes "reg") (page * 4096 ∷ count * 4096 ∷ [])
    ∷ [])

-- the interrupt controller
unfoldable pub interrupt_controller : BaseSize → BaseSize → ℕ → Tree
interrupt_controller distributor redistributors gic = leaf (named_at (codes "interrupt-controller") distributor.base) (
    text (codes "compatible") (codes "arm,gic-v3")
    ∷ cells (codes "#interrupt-cells") (3 ∷ [])
    ∷ cells (codes "#address-cells") (0 ∷ [])
    ∷ flag (codes "interrupt-controller")
    ∷ wide_cells (codes "reg") (distributor.base ∷ distributor.size ∷ redistributors.base ∷ redistributors.size ∷ [])
    ∷ cells (codes "phandle") (gic ∷ [])
    ∷ [])

-- the timer, with its secure, its physical and its virtual interrupt
unfoldable pub timer : Tree
timer = leaf (codes "timer") (text (codes "compatible") (codes "arm,armv8-timer") ∷ cells (codes "interrupts") (1 ∷ 13 ∷ 4 ∷ 1 ∷ 14 ∷ 4 ∷ 1 ∷ 11 ∷ 4 ∷ []) ∷ [])

-- Xen, with its grant table
unfoldable pub hypervisor : BaseSize → Tree
hypervisor grant = leaf (named_at (codes "hypervisor") grant.base) (text (codes "compatible") (codes "xen,xen") ∷ wide_cells (codes "reg") (grant.base ∷ grant.size ∷ []) ∷ [])

-- the console, whose interrupt is SPI 0
unfoldable pub console : BaseSize → Tree
console area = leaf (console_name area) (
    text (codes "compatible") (codes "arm,sbsa-uart")
    ∷ wide_cells (codes "reg") (area.base ∷ area.size ∷ [])
    ∷ cells (codes "interrupts") (0 ∷ 0 ∷ 4 ∷ [])
    ∷ cells (codes "current-speed") (115200 ∷ [])
    ∷ [])

-- a region that is shared: its id, its first page and its pages
unfoldable pub region : Bytes × ℕ × ℕ → Tree
region (id, page, count) = leaf (named_at (codes "xen-shmem") (page * 4096)) (
    text (codes "compatible") (codes "xen,shared-memory-v1")
    ∷ wide_cells (codes "reg") (page * 4096 ∷ count * 4096 ∷ [])
    ∷ text (codes "xen,id") id
    ∷ [])

-- the regions that are shared
unfoldable pub reserved_memory : List (Bytes × ℕ × ℕ) → Tree
reserved_memory shared = node (codes "reserved-memory") (two_and_two ++ flag (codes "ranges") ∷ []) (map region shared)

-- a port, its peer and the peer's port
abbrev pub port_cells : ℕ × ℕ × ℕ → List ℕ
port_cells (port, peer, peer_port) = port ∷ peer ∷ peer_port ∷ []

-- the ports
unfoldable pub static_ports : List (ℕ × ℕ × ℕ) → Tree
static_ports ports = leaf (codes "static-ports") (text (codes "compatible") (codes "dom0less,static-ports") ∷ cells (codes "ports") (flat_map port_cells ports) ∷ [])
