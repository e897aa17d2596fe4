-- Worked examples: hand-made items, and what is against them.
use Rattle.std.specs.Prelude.{◌≡◌, ℕ, zero, suc, Bool, true, false, List, [], ◌∷◌, ◌++◌, codes, Option, Some, None, option_map, decimal}
use Rattle.std.proofs.Common.{refl}
use Rattle.texts.specs.declared.ranges.BaseSize.{BaseSize}
use Rattle.texts.specs.declared.ranges.FrameRange.{FrameRange}
use Rattle.described.specs.declared.item.Part.{Part}
use Rattle.described.specs.declared.item.Part.TheVariants as parts
use Rattle.described.specs.declared.item.What.{What}
use Rattle.described.specs.declared.item.What.TheVariants as whats
use Rattle.described.specs.declared.item.ModuleKind.TheVariants.{Kernel, DeviceTree}
use Rattle.described.specs.declared.item.Described.{Described}
use Rattle.described.specs.declared.why.Why.TheVariants.{NotPage}
use Rattle.described.specs.Items.{item_text, why_text}
use Rattle.described.specs.Layouts.{usual_layout}
use Rattle.texts.specs.Consecutive.{numbers}
use Rattle.std.specs.Fmt.{digits}
use Rattle.frame_alloc.specs.Frames.{without}
use Rattle.frame_alloc.specs.Ranges.{have_common, lie_in}
use Rattle.domain_bindings.specs.declared.host.Host.{Host}
use Rattle.item_checks.specs.Entries.{Entry}
use Rattle.item_checks.specs.Taken.{all_passed}
use Rattle.item_checks.specs.Layouts.{layout_of}
use Rattle.item_checks.specs.Refusals.{Refusal, first_refused}

-- 2 GiB of memory from address 0 on
abbrev h2 : List FrameRange
h2 = record { first = 0; count = 0x80000 } ∷ []

abbrev item : Part → List ℕ → ℕ → What → Described
item part path index what = record { item = record { part = part; path = path; index = index }; own = None; what = what }

abbrev at : ℕ → ℕ → BaseSize
at base size = record { base = base; size = size }

abbrev host : Described → Entry
host one = record { guest = None; partial_read = false; described = one }

abbrev pub guest : ℕ → Described → Entry
guest number one = record { guest = Some number; partial_read = false; described = one }

abbrev pub dom0 : List ℕ
dom0 = codes "/chosen/domU0"

abbrev dom1 : List ℕ
dom1 = codes "/chosen/domU1"

abbrev pub head : List ℕ → ℕ → Bool → Bool → Described
head path pages direct console = item parts.Head path 0 (whats.Head 1 pages None direct console)

abbrev pub kernel : List ℕ → ℕ → ℕ → Described
kernel path base size = item parts.Module (path ++ codes "/kernel") 0 (whats.Module Kernel (at base size))

abbrev pub static : List ℕ → ℕ → ℕ → Described
static path base size = item parts.Static path 0 (whats.Static (at base size))

-- the line of a refusal
abbrev pub text : Refusal → List ℕ
text refusal = item_text refusal.0 ++ codes ": " ++ why_text refusal.1

-- a host of which the memory alone is known
abbrev bare : List FrameRange → Host
bare ram = record { items = []; modules = []; ram = ram; gic = None; areas = None; console = None }

abbrev told : List FrameRange → List Entry → Option (List ℕ)
told ram entries = option_map text (first_refused (bare ram) [] entries)

-- direct-mapped static memory over the console's page
abbrev over_layout : List Entry
over_layout = guest 0 (head dom0 0 true false) ∷ guest 0 (static dom0 0x20000000 0x20000000) ∷ guest 0 (kernel dom0 0x200000 0x1000000) ∷ []

over_layout_told : told h2 over_layout ≡ Some (codes "/chosen/domU0 static 0: GuestOverlap layout")
unfolding first_refused have_common lie_in numbers digits usual_layout
over_layout_told = refl

abbrev reserve : ℕ → ℕ → ℕ → Described
reserve index base size = item parts.Reserve [] index (whats.Reserve (at base size))

-- the earlier of two items in the way is named, and the earlier item at fault
abbrev over_reserve : List Entry
over_reserve =
    host (reserve 0 0x50000000 0x1000) ∷ guest 0 (head dom0 0 false false) ∷ guest 0 (static dom0 0x50000000 0x1000) ∷ guest 0 (kernel dom0 0x200000 0x1000) ∷
    guest 1 (head dom1 0 false false) ∷ guest 1 (static dom1 0x50000000 0x1000) ∷ guest 1 (kernel dom1 0x400000 0x1000) ∷ []

over_reserve_told : told h2 over_reserve ≡ Some (codes "/chosen/domU0 static 0: HostOverlap reserve 0")
unfolding first_refused have_common lie_in numbers digits all_passed usual_layout
over_reserve_told = refl

abbrev uart : ℕ → List ℕ
uart zero = codes "domU0:/passthrough/serial@ff010000"
uart (suc number) = codes "domU1:/passthrough/serial@ff010000"

abbrev range : ℕ → ℕ → Described
range number index = item parts.Range (uart number) index (whats.Range 0xff010000 0x1000 0xff010000)

abbrev irq : ℕ → ℕ → ℕ → Described
irq number index value = item parts.Irq (uart number) index (whats.Irq value)

-- two guests name one device's registers
abbrev device_of_two : List Entry
device_of_two =
    guest 0 (head dom0 0x40000 false true) ∷ guest 0 (range 0 0) ∷ guest 0 (irq 0 0 22) ∷
    guest 1 (head dom1 0x40000 false true) ∷ guest 1 (range 1 0) ∷ guest 1 (irq 1 0 22) ∷ []

device_of_two_told : told h2 device_of_two ≡ Some (codes "domU1:/passthrough/serial@ff010000 range 0: HostOverlap domU0:/passthrough/serial@ff010000 range 0")
unfolding first_refused have_common lie_in numbers digits all_passed usual_layout
device_of_two_told = refl

-- the same three numbers given twice are no fault, and map one page
abbrev pub device_twice : List Entry
device_twice = guest 0 (head dom0 0x40000 false true) ∷ guest 0 (range 0 0) ∷ guest 0 (range 0 1) ∷ guest 0 (irq 0 0 22) ∷ []

device_twice_told : told h2 device_twice ≡ None
unfolding first_refused have_common lie_in numbers digits all_passed usual_layout
device_twice_told = refl

-- the console of a guest has interrupt 0, and another guest's interrupt is taken
irq_of_console_told : told h2 (guest 0 (head dom0 0x40000 false true) ∷ guest 0 (irq 0 0 0) ∷ []) ≡ Some (codes "domU0:/passthrough/serial@ff010000 interrupt 0: IrqTaken /chosen/domU0")
unfolding first_refused have_common lie_in numbers digits all_passed usual_layout
irq_of_console_told = refl

irq_of_another_told : told h2 (guest 0 (head dom0 0x40000 false true) ∷ guest 0 (irq 0 3 22) ∷ guest 0 (irq 0 4 22) ∷ guest 1 (head dom1 0x40000 false true) ∷ guest 1 (irq 1 0 22) ∷ [])
    ≡ Some (codes "domU1:/passthrough/serial@ff010000 interrupt 0: IrqTaken domU0:/passthrough/serial@ff010000 interrupt 3")
unfolding first_refused have_common lie_in numbers digits all_passed usual_layout
irq_of_another_told = refl

abbrev shared : List ℕ → ℕ → ℕ → ℕ → Described
shared path index base page = item parts.Shared (path ++ codes "/shm" ++ decimal index) 0 (whats.Shared (codes "ring") (Some base) page 0x200000 false)

-- one region in two guests, and a third with another base
abbrev ring : List Entry
ring =
    guest 0 (head dom0 0x4000 false true) ∷ guest 0 (shared dom0 0 0x60000000 0x8000000000) ∷
    guest 1 (head dom1 0x4000 false true) ∷ guest 1 (shared dom1 0 0x60000000 0x8000000000) ∷ []

ring_told : told h2 ring ≡ None
unfolding first_refused have_common lie_in numbers digits all_passed usual_layout
ring_told = refl

ring_differs : told h2 (ring ++ guest 2 (shared (codes "/chosen/domU2") 0 0x60200000 0x8000000000) ∷ []) ≡ Some (codes "/chosen/domU2/shm0: ShmDiffers /chosen/domU0/shm0")
unfolding first_refused have_common lie_in numbers digits all_passed usual_layout
ring_differs = refl

ring_twice : told h2 (guest 0 (head dom0 0x4000 false true) ∷ guest 0 (shared dom0 0 0x60000000 0x8000000000) ∷ guest 0 (shared dom0 1 0x60000000 0x8000000000) ∷ [])
    ≡ Some (codes "/chosen/domU0/shm1: ShmTwice /chosen/domU0/shm0")
unfolding first_refused have_common lie_in numbers digits all_passed usual_layout
ring_twice = refl

abbrev load : ℕ → ℕ → Described
load base size = item parts.Load (codes "Image") 0 (whats.Load (at base size))

-- static memory over a loaded file
static_over_load_told : told h2 (host (load 0x40000000 0x1000) ∷ guest 0 (head dom0 0 false false) ∷ guest 0 (static dom0 0x40000000 0x1000) ∷ []) ≡ Some (codes "/chosen/domU0 static 0: HostOverlap load Image")
unfolding first_refused have_common lie_in numbers digits usual_layout
static_over_load_told = refl

-- a module that a loaded file covers claims nothing; a longer one does
module_of_load_told : told h2 (host (load 0x200000 0x1000) ∷ guest 0 (head dom0 0 false false) ∷ guest 0 (kernel dom0 0x200000 0x1000) ∷ []) ≡ None
unfolding first_refused have_common lie_in numbers digits usual_layout
module_of_load_told = refl

module_past_load_told : told h2 (host (load 0x200000 0x1000) ∷ guest 0 (head dom0 0 false false) ∷ guest 0 (kernel dom0 0x200000 0x1001) ∷ []) ≡ Some (codes "/chosen/domU0/kernel: HostOverlap load Image")
unfolding first_refused have_common lie_in numbers digits usual_layout
module_past_load_told = refl

-- an item's own reason comes before all others
own_reason_told : told h2 (guest 0 (head dom0 0 false false) ∷ guest 0 (record { item = (static dom0 0x50000800 0x1000).item; own = Some NotPage; what = whats.Unread }) ∷ []) ≡ Some (codes "/chosen/domU0 static 0: NotPage")
unfolding first_refused have_common lie_in numbers digits usual_layout
own_reason_told = refl

-- memory that the host does not have is told before what lies there
not_ram_told : told h2 (host (reserve 0 0x7ffff000 0x2000) ∷ guest 0 (head dom0 0 false false) ∷ guest 0 (static dom0 0x7ffff000 0x2000) ∷ []) ≡ Some (codes "/chosen/domU0 static 0: NotRam")
unfolding first_refused have_common lie_in numbers digits usual_layout
not_ram_told = refl

-- an interrupt that the guest's controller does not have
irq_past_spis_told : told h2 (guest 0 (item parts.Head dom0 0 (whats.Head 1 0x40000 (Some 32) false true)) ∷ guest 0 (irq 0 0 31) ∷ guest 0 (irq 0 1 32) ∷ []) ≡ Some (codes "domU0:/passthrough/serial@ff010000 interrupt 1: TooHigh")
unfolding first_refused have_common lie_in numbers digits usual_layout
irq_past_spis_told = refl

abbrev owned : List ℕ → Described
owned path = item parts.Shared (path ++ codes "/shm0") 0 (whats.Shared (codes "ring") (Some 0x60000000) 0x8000000000 0x200000 true)

-- two owners of one region
owner_twice_told : told h2 (guest 0 (head dom0 0 false false) ∷ guest 0 (owned dom0) ∷ guest 1 (head dom1 0 false false) ∷ guest 1 (owned dom1) ∷ []) ≡ Some (codes "/chosen/domU1/shm0: OwnerTwice /chosen/domU0/shm0")
unfolding first_refused have_common lie_in numbers digits usual_layout
owner_twice_told = refl

-- a partial device tree that was not read
partial_unread_told : told h2 (guest 0 (head dom0 0 false false) ∷ guest 0 (item parts.Module (dom0 ++ codes "/passthrough") 0 (whats.Module DeviceTree (at 0x2000000 0x209))) ∷ []) ≡ Some (codes "/chosen/domU0/passthrough: PartialUnread")
unfolding first_refused have_common lie_in numbers digits usual_layout
partial_unread_told = refl

-- a host that tells where its own devices stand
abbrev with_devices : Host
with_devices = record (bare h2) { areas = Some ((0x8000000, 0x10000), (0x80a0000, 0xf60000)); console = Some 0xff010000 }

-- of a direct-mapped guest the host's areas alone may not be filled
abbrev told_with_devices : Bool → Bool → ℕ → Option (List ℕ)
told_with_devices direct console base = option_map text (first_refused with_devices [] (guest 0 (head dom0 0 direct console) ∷ guest 0 (static dom0 base 0x1000) ∷ []))

usual_console_free : told_with_devices true true 0x22000000 ≡ None
unfolding first_refused have_common lie_in numbers digits usual_layout
usual_console_free = refl

host_distributor_told : told_with_devices true true 0x8000000 ≡ Some (codes "/chosen/domU0 static 0: GuestOverlap layout")
unfolding first_refused have_common lie_in numbers digits usual_layout
host_distributor_told = refl

-- without a console the usual one's area is kept
usual_console_told : told_with_devices true false 0x22000000 ≡ Some (codes "/chosen/domU0 static 0: GuestOverlap layout")
unfolding first_refused have_common lie_in numbers digits usual_layout
usual_console_told = refl

-- the layout of a guest that is not direct-mapped, and of one whose areas would meet: the console in the grant table's
usual_for_others : layout_of with_devices false true ≡ usual_layout
usual_for_others = refl

usual_where_areas_meet : layout_of (record with_devices { console = Some 0x38001000 }) true true ≡ usual_layout
unfolding usual_layout
usual_where_areas_meet = refl
