-- Small descriptions, as the definitions read them.
use Rattle.std.proofs.Common.{◌≡◌, refl, ℕ, List, [], ◌∷◌, ◌++◌, Some, None, true, false, map}
use Rattle.std.specs.Prelude.{codes, Option, flat_map}
use Rattle.std.specs.Int.{w32, to_be_bytes}
use Rattle.std.specs.Option.{option_map_or}
use Rattle.described.specs.declared.item.Item.{Item}
use Rattle.described.specs.declared.item.Part.TheVariants as parts
use Rattle.described.specs.declared.item.ModuleKind.TheVariants.{Kernel}
use Rattle.described.specs.declared.item.Described.{Described}
use Rattle.described.specs.declared.item.What.TheVariants as whats
use Rattle.described.specs.declared.why.Why.{Why}
use Rattle.described.specs.declared.why.Why.TheVariants as whys
use Rattle.fdt_tree.specs.Tree.{Bytes, Property, Trees, none, tree, Tree}
use Rattle.fdt_nodes.specs.Nodes.{Node}
use Rattle.fdt_nodes.specs.Controllers.{gic_of}
use Rattle.domain_bindings.specs.Hosts.{host_items, memory_reason}
use Rattle.domain_bindings.specs.Domains.{guest_nodes, bootargs_of}
use Rattle.domain_bindings.specs.PrivateItems.{items_from}
use Rattle.domain_bindings.specs.Heads.{head_reason}
use Rattle.domain_bindings.specs.Modules.{module_reason}

-- cells, the most significant byte first
abbrev pub cells : List ℕ → Bytes
cells numbers = flat_map (to_be_bytes w32) numbers

-- a text with the NUL that ends it
abbrev pub text : Bytes → Bytes
text bytes = bytes ++ 0 ∷ []

abbrev pub two_and_two : List Property
two_and_two = (codes "#address-cells", cells (2 ∷ [])) ∷ (codes "#size-cells", cells (2 ∷ [])) ∷ []

-- memory of 2 GiB, an interrupt controller, and what stands below `/chosen`
abbrev pub host : Trees → Tree
host guests = record {
  name = [];
  properties = two_and_two;
  children =
      tree (codes "memory@0") ((codes "device_type", text (codes "memory")) ∷ (codes "reg", cells (0 ∷ 0 ∷ 0 ∷ 0x80000000 ∷ [])) ∷ []) none
      (tree (codes "gic") ((codes "#interrupt-cells", cells (3 ∷ [])) ∷ (codes "interrupt-controller", []) ∷ (codes "phandle", cells (1 ∷ [])) ∷ []) none
      (tree (codes "chosen") [] guests none));
}

-- a kernel that was loaded at 2 MiB
abbrev pub kernel : Trees
kernel = tree (codes "kernel") ((codes "compatible", text (codes "multiboot,kernel") ++ text (codes "multiboot,module")) ∷ (codes "reg", cells (0 ∷ 0x200000 ∷ 0 ∷ 0x1000000 ∷ [])) ∷ (codes "bootargs", text (codes "quiet")) ∷ []) none none

-- a guest with direct-mapped static memory
abbrev pub guest : List ℕ → List Property → Trees → Trees → Trees
guest statics more modules rest =
    tree (codes "domU0")
    ((codes "compatible", text (codes "xen,domain")) ∷ two_and_two
    ++ (codes "cpus", cells (1 ∷ [])) ∷ (codes "xen,static-mem", cells statics) ∷ (codes "direct-map", []) ∷ more) modules rest

-- one guest with 512 MiB at 1 GiB
abbrev pub worked : Tree
worked = host (guest (0 ∷ 0x40000000 ∷ 0 ∷ 0x20000000 ∷ []) [] kernel none)

abbrev pub good : Item → whats.the_data → Described
good item what = record { item = item; own = None; what = what }

-- the host's items: the host, and its memory
pub host_of_worked : host_items worked [] ≡
    good (record { part = parts.Host; path = codes "/"; index = 0 }) whats.Host
    ∷ good (record { part = parts.Memory; path = codes "/memory@0"; index = 0 }) (whats.Memory (record { base = 0; size = 0x80000000 } ∷ []))
    ∷ []
host_of_worked = refl

-- the guest's items: its head, its list of static memory with one range, and its kernel
pub guest_of_worked : items_from 0 (guest_nodes worked) ≡ (
    good (record { part = parts.Head; path = codes "/chosen/domU0"; index = 0 }) (whats.Head 1 0 None true false)
    ∷ good (record { part = parts.StaticList; path = codes "/chosen/domU0"; index = 0 }) (whats.StaticList (record { base = 0x40000000; size = 0x20000000 } ∷ []))
    ∷ good (record { part = parts.Static; path = codes "/chosen/domU0"; index = 0 }) (whats.Static (record { base = 0x40000000; size = 0x20000000 }))
    ∷ good (record { part = parts.Module; path = codes "/chosen/domU0/kernel"; index = 0 }) (whats.Module Kernel (record { base = 0x200000; size = 0x1000000 }))
    ∷ []) ∷ []
guest_of_worked = refl

pub bootargs_of_worked : map bootargs_of (guest_nodes worked) ≡ Some (text (codes "quiet")) ∷ []
bootargs_of_worked = refl

pub gic_of_worked : option_map_or (λ (node : Node). node.path) (gic_of worked) [] ≡ codes "/gic"
gic_of_worked = refl

-- the own reasons of the guests' items, in order
abbrev pub reasons : Tree → List (List (Option Why))
reasons whole = map (λ items. map (λ (one : Described). one.own) items) (items_from 0 (guest_nodes whole))

-- a static range that is not whole pages: its list has no reason, and the range has
pub not_pages : reasons (host (guest (0 ∷ 0x40000000 ∷ 0 ∷ 0x20000800 ∷ []) [] kernel none)) ≡ (None ∷ None ∷ Some whys.NotPage ∷ None ∷ []) ∷ []
not_pages = refl

-- a list that says another sum than `memory`: its ranges have no reason
pub other_sum : reasons (host (guest (0 ∷ 0x40000000 ∷ 0 ∷ 0x20000000 ∷ []) ((codes "memory", cells (0 ∷ 0x1000 ∷ [])) ∷ []) kernel none))
    ≡ (None ∷ Some whys.MemorySum ∷ None ∷ None ∷ []) ∷ []
other_sum = refl

-- a list that does not divide has no ranges
pub uneven : reasons (host (guest (0 ∷ 0x40000000 ∷ 0 ∷ []) [] kernel none)) ≡ (None ∷ Some whys.BadLength ∷ None ∷ []) ∷ []
uneven = refl

-- a guest with these properties and these children
abbrev pub head : List Property → Trees → Node
head properties children = record {
  place = 0 ∷ 0 ∷ [];
  path = codes "/chosen/domU0";
  cells = None;
  properties = (codes "compatible", text (codes "xen,domain")) ∷ two_and_two ++ properties;
  children = children;
}

-- the first reason of the head of the first guest, which has these properties and a kernel
abbrev pub with_kernel : List Property → Option Why
with_kernel properties = head_reason 0 (head properties kernel)

abbrev pub cpus : ℕ → List Property → List Property
cpus number more = (codes "cpus", cells (number ∷ [])) ∷ more

-- so many KiB of memory
abbrev pub memory : ℕ → List Property → List Property
memory number more = (codes "memory", cells (0 ∷ number ∷ [])) ∷ more

abbrev pub spis : ℕ → List Property
spis number = (codes "nr_spis", cells (number ∷ [])) ∷ []

head_at_its_limits : with_kernel (cpus 128 (memory 16777216 (spis 960))) ≡ None
head_at_its_limits = refl

seventeenth_guest : head_reason 16 (head (cpus 1 (memory 4 [])) kernel) ≡ Some whys.TooMany
seventeenth_guest = refl

sixteenth_guest : head_reason 15 (head (cpus 1 (memory 4 [])) kernel) ≡ None
sixteenth_guest = refl

head_without_processors : with_kernel (memory 4 []) ≡ Some whys.Missing
head_without_processors = refl

head_without_memory : with_kernel (cpus 1 []) ≡ Some whys.Missing
head_without_memory = refl

-- a missing kernel comes before a length that is bad too
head_without_kernel : head_reason 0 (head (cpus 1 (memory 4 ((codes "nr_spis", []) ∷ []))) none) ≡ Some whys.Missing
head_without_kernel = refl

memory_of_four_bytes : with_kernel (cpus 1 ((codes "memory", cells (4 ∷ [])) ∷ [])) ≡ Some whys.BadLength
memory_of_four_bytes = refl

cpus_of_eight_bytes : with_kernel ((codes "cpus", cells (0 ∷ 1 ∷ [])) ∷ memory 4 []) ≡ Some whys.BadLength
cpus_of_eight_bytes = refl

empty_spis : with_kernel (cpus 1 (memory 4 ((codes "nr_spis", []) ∷ []))) ≡ Some whys.BadLength
empty_spis = refl

memory_of_no_kib : with_kernel (cpus 1 (memory 0 [])) ≡ Some whys.BadValue
memory_of_no_kib = refl

memory_of_no_whole_pages : with_kernel (cpus 1 (memory 6 [])) ≡ Some whys.BadValue
memory_of_no_whole_pages = refl

no_processor : with_kernel (cpus 0 (memory 4 [])) ≡ Some whys.BadValue
no_processor = refl

too_many_spis : with_kernel (cpus 1 (memory 4 (spis 961))) ≡ Some whys.BadValue
too_many_spis = refl

too_many_processors : with_kernel (cpus 129 (memory 4 [])) ≡ Some whys.TooLarge
too_many_processors = refl

too_much_memory : with_kernel (cpus 1 (memory 16777220 [])) ≡ Some whys.TooLarge
too_much_memory = refl

direct_without_static_memory : with_kernel (cpus 1 (memory 4 ((codes "direct-map", []) ∷ []))) ≡ Some whys.DirectWithoutStatic
direct_without_static_memory = refl

-- an event channel, behind a kernel
abbrev pub channel : Trees
channel = tree (codes "kernel") ((codes "compatible", text (codes "multiboot,kernel")) ∷ []) none (tree (codes "evtchn0") ((codes "compatible", text (codes "xen,evtchn-v1")) ∷ []) none none)

channel_of_a_plain_guest : head_reason 0 (head (cpus 1 (memory 4 [])) channel) ≡ Some whys.EvtchnPlain
channel_of_a_plain_guest = refl

channel_of_an_enhanced_guest : head_reason 0 (head (cpus 1 (memory 4 ((codes "xen,enhanced", text (codes "no-xenstore")) ∷ []))) channel) ≡ None
channel_of_an_enhanced_guest = refl

-- the second of two kernels is refused, and names the first
pub two_kernels : reasons (host (guest (0 ∷ 0x40000000 ∷ 0 ∷ 0x20000000 ∷ []) []
    (tree (codes "kernel") ((codes "compatible", text (codes "multiboot,kernel")) ∷ (codes "reg", cells (0 ∷ 0x200000 ∷ 0 ∷ 0x1000 ∷ [])) ∷ []) none
    (tree (codes "other") ((codes "compatible", text (codes "multiboot,kernel")) ∷ (codes "reg", cells (0 ∷ 0x400000 ∷ 0 ∷ 0x1000 ∷ [])) ∷ []) none none)) none))
    ≡ (None ∷ None ∷ None ∷ None ∷ Some (whys.Twice (record { part = parts.Module; path = codes "/chosen/domU0/kernel"; index = 0 })) ∷ []) ∷ []
two_kernels = refl

-- a module with this `reg`, under these cells, after none
abbrev pub module_at : Option (ℕ × ℕ) → List Property → Option Why
module_at counts reg = module_reason [] (record { place = []; path = []; cells = counts; properties = (codes "compatible", text (codes "multiboot,ramdisk")) ∷ reg; children = none })

module_without_reg : module_at (Some (2, 2)) [] ≡ Some whys.Missing
module_without_reg = refl

-- bad cells are told before a missing `reg`
module_under_bad_cells : module_at None [] ≡ Some whys.BadValue
module_under_bad_cells = refl

module_with_two_entries : module_at (Some (1, 1)) ((codes "reg", cells (0x200000 ∷ 0x1000 ∷ 0x400000 ∷ 0x1000 ∷ [])) ∷ []) ≡ Some whys.BadLength
module_with_two_entries = refl

module_past_the_highest_address : module_at (Some (2, 1)) ((codes "reg", cells (0xff ∷ 0xfffff000 ∷ 0x2000 ∷ [])) ∷ []) ≡ Some whys.TooHigh
module_past_the_highest_address = refl

module_of_no_bytes : module_at (Some (1, 1)) ((codes "reg", cells (0x200000 ∷ 0 ∷ [])) ∷ []) ≡ None
module_of_no_bytes = refl

-- the reasons of the host's items, where the memory and what else stands there are these
abbrev pub host_reasons_of : Trees → List (Option Why)
host_reasons_of nodes = map (λ (one : Described). one.own) (host_items (record { name = []; properties = []; children = nodes }) [])

abbrev pub memory_node : List ℕ → Trees → Trees
memory_node reg rest = tree (codes "memory") ((codes "device_type", text (codes "memory")) ∷ (codes "reg", cells reg) ∷ []) none rest

-- 4 GiB of memory
abbrev pub memory_of_4_gib : Node
memory_of_4_gib = record { place = []; path = []; cells = Some (2, 2); properties = (codes "reg", cells (0 ∷ 0 ∷ 1 ∷ 0 ∷ [])) ∷ []; children = none }

host_without_memory : host_reasons_of none ≡ Some whys.Missing ∷ []
host_without_memory = refl

-- sizes add up over all memory before
memory_of_64_gib : memory_reason 0xf00000000 (memory_of_4_gib) ≡ None
memory_of_64_gib = refl

memory_past_64_gib : memory_reason 0xf00000001 (memory_of_4_gib) ≡ Some whys.TooLarge
memory_past_64_gib = refl

memory_of_no_whole_entry : host_reasons_of (memory_node (0 ∷ 0 ∷ []) none) ≡ None ∷ Some whys.BadLength ∷ []
memory_of_no_whole_entry = refl

two_nodes_of_one_phandle : host_reasons_of (memory_node (0 ∷ 0 ∷ 0x1000 ∷ []) (tree (codes "a") ((codes "phandle", cells (5 ∷ [])) ∷ []) none (tree (codes "b") ((codes "phandle", cells (5 ∷ [])) ∷ []) none none)))
    ≡ Some whys.PhandleClash ∷ None ∷ []
two_nodes_of_one_phandle = refl
