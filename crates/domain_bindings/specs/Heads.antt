-- The node of a guest: how many processors it has, how much memory, and what else it is given (Xen, docs/misc/arm/device-tree/booting.txt).
use Rattle.std.specs.Prelude.{ℕ, ◌/◌, ◌%◌, ◌==◌, ◌&&◌, ◌||◌, nat_lt, nat_le, not, Bool, if◌then◌else◌, List, [], ◌∷◌, ◌++◌, length, filter, codes, Option, unwrap_or}
use Rattle.std.specs.Option.{is_none}
use Rattle.described.specs.declared.item.Part.TheVariants as parts
use Rattle.described.specs.declared.item.Described.{Described}
use Rattle.described.specs.declared.item.ModuleKind.TheVariants.{Kernel}
use Rattle.described.specs.declared.item.What.{What}
use Rattle.described.specs.declared.item.What.TheVariants as whats
use Rattle.described.specs.declared.why.Why.{Why}
use Rattle.described.specs.declared.why.Why.TheVariants as whys
use Rattle.fdt_nodes.specs.Nodes.{Node, children}
use Rattle.fdt_nodes.specs.Values.{has, is_compatible, is_value, u32_in, u64_in, has_other_length}
use Rattle.described.specs.Reasons.{where_so, first_reason, described}
use Rattle.fdt_nodes.specs.NodeItems.{item_of}
use Rattle.domain_bindings.specs.Reasons.{is_number}
use Rattle.domain_bindings.specs.Modules.{modules_of, first_of_kind}

-- The numbers of a guest's node, where they have their lengths.

-- its memory in KiB
abbrev pub memory_of : Node → Option ℕ
memory_of node = u64_in node.properties (codes "memory")

-- its virtual processors
abbrev pub cpus_of : Node → Option ℕ
cpus_of node = u32_in node.properties (codes "cpus")

-- its shared interrupts
abbrev pub spis_of : Node → Option ℕ
spis_of node = u32_in node.properties (codes "nr_spis")

-- it has static memory
abbrev pub is_static : Node → Bool
is_static node = has node.properties (codes "xen,static-mem")

-- its memory is mapped at the host's addresses
abbrev pub is_direct : Node → Bool
is_direct node = has node.properties (codes "direct-map")

-- The reasons of a head.

-- TooMany: sixteen guests stand before it
abbrev pub is_past_limit : ℕ → Bool
is_past_limit number = nat_le 16 number

-- Missing: it says nothing of its processors
abbrev pub has_no_cpus : Node → Bool
has_no_cpus node = not (has node.properties (codes "cpus"))

-- Missing: it says nothing of its memory
abbrev pub has_no_memory : Node → Bool
has_no_memory node = not (has node.properties (codes "memory")) && not (is_static node)

-- Missing: it has no kernel
abbrev pub has_no_kernel : Node → Bool
has_no_kernel node = is_none (first_of_kind Kernel (modules_of node))

-- BadLength: a number has another length than its own
abbrev pub has_bad_length : Node → Bool
has_bad_length node =
    has_other_length node.properties (codes "memory") 8 || has_other_length node.properties (codes "cpus") 4
    || has_other_length node.properties (codes "nr_spis") 4

-- BadValue: memory of no KiB or of no whole pages, no processor, or more than 960 shared interrupts
abbrev pub has_bad_value : Node → Bool
has_bad_value node =
    is_number (λ memory. (memory == 0) || not (memory % 4 == 0)) (memory_of node) || is_number (λ cpus. cpus == 0) (cpus_of node)
    || is_number (λ spis. nat_lt 960 spis) (spis_of node)

-- TooLarge: more than 128 processors, or more than 16 GiB of memory
abbrev pub is_too_large : Node → Bool
is_too_large node = is_number (λ cpus. nat_lt 128 cpus) (cpus_of node) || is_number (λ memory. nat_lt 16777216 memory) (memory_of node)

-- DirectWithoutStatic: only static memory can be mapped at the host's addresses
abbrev pub is_direct_alone : Node → Bool
is_direct_alone node = is_direct node && not (is_static node)

-- an event channel (docs/misc/arm/device-tree/booting.txt, static event channels)
abbrev pub is_event_channel : Node → Bool
is_event_channel node = is_compatible node.properties (codes "xen,evtchn-v1")

-- the event channels of a node, in order
abbrev pub channels_of : Node → List Node
channels_of node = filter is_event_channel (children node)

-- it may use event channels
abbrev pub is_enhanced : Node → Bool
is_enhanced node =
    is_value node.properties (codes "xen,enhanced") [] || is_value node.properties (codes "xen,enhanced") (codes "enabled" ++ 0 ∷ [])
    || is_value node.properties (codes "xen,enhanced") (codes "no-xenstore" ++ 0 ∷ [])

-- EvtchnPlain: it has an event channel and may not use it
abbrev pub has_plain_channel : Node → Bool
has_plain_channel node = not (length (channels_of node) == 0) && not (is_enhanced node)

-- the reasons of the head of the guest with this number, in order
abbrev pub head_reasons : ℕ → Node → List (Option Why)
head_reasons number node =
    where_so (is_past_limit number) whys.TooMany
    ∷ where_so (has_no_cpus node || has_no_memory node || has_no_kernel node) whys.Missing
    ∷ where_so (has_bad_length node) whys.BadLength
    ∷ where_so (has_bad_value node) whys.BadValue
    ∷ where_so (is_too_large node) whys.TooLarge
    ∷ where_so (is_direct_alone node) whys.DirectWithoutStatic
    ∷ where_so (has_plain_channel node) whys.EvtchnPlain ∷ []

-- the first of them that applies
abbrev pub head_reason : ℕ → Node → Option Why
head_reason number node = first_reason (head_reasons number node)

-- how many pages a guest is to be given beside its static memory: those of `memory`, and none with static memory
abbrev pub heap_pages : Node → ℕ
heap_pages node = if is_static node then 0 else unwrap_or (memory_of node) 0 / 4

-- what a head describes
abbrev pub head_what : Node → What
head_what node = whats.Head (unwrap_or (cpus_of node) 0) (heap_pages node) (spis_of node) (is_direct node) (has node.properties (codes "vpl011"))

-- the head of the guest with this number
abbrev pub head_item : ℕ → Node → Described
head_item number node = described (item_of parts.Head node 0) (head_reason number node) (head_what node)
