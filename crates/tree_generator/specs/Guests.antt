-- The guests of a generated tree, each with memory of so many pages of 4,096 bytes (Xen, docs/misc/arm/device-tree/booting.txt).
use Rattle.std.specs.Prelude.{ℕ, ◌+◌, ◌-◌, ◌*◌, ◌%◌, ◌==◌, nat_lt, not, Bool, if◌then◌else◌, List, [], ◌∷◌, ◌++◌, codes, decimal}
use Rattle.fdt_tree.specs.Tree.{Bytes, Property, Tree}
use Rattle.tree_parts.specs.Nodes.{node, leaf, cells, wide_cells, text, two_and_two, on}

-- the guest has an even number
abbrev pub is_even : ℕ → Bool
is_even n = n % 2 == 0

-- guests 2k and 2k + 1 are peers
abbrev pub peer : ℕ → ℕ
peer n = if is_even n then n + 1 else n - 1

-- the peer is there, among so many guests
abbrev pub is_linked : ℕ → ℕ → Bool
is_linked guests n = nat_lt (peer n) guests

-- memory that Xen takes from its heap, in KiB
abbrev pub heap : ℕ → List Property
heap pages = wide_cells (codes "memory") (4 * pages ∷ []) ∷ []

-- static memory: one range a guest, each 2 GiB after the last one
abbrev pub static_range : ℕ → ℕ → List Property
static_range n pages =
    cells (codes "#xen,static-mem-address-cells") (2 ∷ []) ∷ cells (codes "#xen,static-mem-size-cells") (2 ∷ [])
    ∷ wide_cells (codes "xen,static-mem") ((0x800000000 + n * 0x80000000) ∷ (4096 * pages) ∷ []) ∷ []

-- the properties of a guest: an even one has memory from the heap, an odd one a static range; one that has a peer may use ports
abbrev pub properties_by : Bool → Bool → ℕ → ℕ → List Property
properties_by even linked n pages =
    (text (codes "compatible") (codes "xen,domain") ∷ two_and_two)
    ++ (on even (heap pages)
    ++ (cells (codes "cpus") (1 ∷ [])
    ∷ (on (not even) (static_range n pages)
    ++ on linked (text (codes "xen,enhanced") (codes "no-xenstore") ∷ []))))

-- the properties of the n-th guest among so many
abbrev pub guest_properties : ℕ → ℕ → ℕ → List Property
guest_properties guests n pages = properties_by (is_even n) (is_linked guests n) n pages

-- the kernel of the n-th guest: 2 MiB at n + 1 times 2 MiB
unfoldable pub kernel : ℕ → Tree
kernel n = leaf (codes "kernel") (
    text (codes "compatible") (codes "multiboot,kernel" ++ 0 ∷ codes "multiboot,module")
    ∷ wide_cells (codes "reg") (0x200000 * (n + 1) ∷ 0x200000 ∷ []) ∷ [])

-- the region that all guests share: 2 MiB of the host at 28 GiB, which each guest has at 512 GiB
unfoldable pub region : Tree
region = leaf (codes "shm0") (
    text (codes "compatible") (codes "xen,domain-shared-memory-v1") ∷ text (codes "xen,shm-id") (codes "ring")
    ∷ wide_cells (codes "xen,shared-mem") (0x700000000 ∷ 0x8000000000 ∷ 0x200000 ∷ []) ∷ [])

-- the port to its peer: port 1 of each
unfoldable pub port : ℕ → Tree
port n = leaf (codes "evtchn0") (
    text (codes "compatible") (codes "xen,evtchn-v1") ∷ cells (codes "phandle") ((n + 1) ∷ [])
    ∷ cells (codes "xen,evtchn") (1 ∷ (peer n + 1) ∷ []) ∷ [])

-- the name of the n-th guest
abbrev pub guest_name : ℕ → Bytes
guest_name n = codes "domU" ++ decimal n

-- the n-th guest among so many, with memory of so many pages
unfoldable pub guest : ℕ → ℕ → ℕ → Tree
guest guests n pages = node (guest_name n) (guest_properties guests n pages) (kernel n ∷ region ∷ on (is_linked guests n) (port n ∷ []))
