-- The reasons against an item that need the host's memory or the items before it, one by one.
use Rattle.std.specs.Prelude.{ℕ, ◌==◌, ◌&&◌, nat_le, bytes_eq, not, is_some, is_none, Bool, true, false, if◌then◌else◌, List, [], ◌∷◌, find, map, Option, Some, None, option_map}
use Rattle.std.specs.List.{list_any}
use Rattle.texts.specs.declared.ranges.FrameRange.{FrameRange}
use Rattle.described.specs.declared.item.Item.{Item}
use Rattle.described.specs.declared.item.Part.TheVariants as parts
use Rattle.described.specs.declared.item.ModuleKind.{ModuleKind}
use Rattle.described.specs.declared.item.ModuleKind.TheVariants.{DeviceTree}
use Rattle.described.specs.declared.item.What.{What}
use Rattle.described.specs.declared.item.What.TheVariants as whats
use Rattle.described.specs.declared.why.Why.{Why}
use Rattle.described.specs.declared.why.Why.TheVariants as whys
use Rattle.described.specs.declared.layout.Layout.{Layout}
use Rattle.described.specs.Reasons.{where_so}
use Rattle.domain_bindings.specs.declared.host.Host.{Host}
use Rattle.frame_alloc.specs.Ranges.{touched, lie_in, have_common}
use Rattle.item_checks.specs.Taken.{Passed, item_of, what_of, belongs_to, is_direct}
use Rattle.item_checks.specs.Layouts.{layout_of}

-- the reason that names the first item which meets a test
abbrev pub naming_first : (Passed → Bool) → (Item → Why) → List Passed → Option Why
naming_first test why before = option_map (λ passed. why (item_of passed)) (find test before)

-- both items belong to one guest
abbrev pub of_one_guest : Passed → Passed → Bool
of_one_guest mine passed = belongs_to mine.entry.guest passed

-- the item belongs to another guest
abbrev pub of_another_guest : Passed → Passed → Bool
of_another_guest mine passed = is_some passed.entry.guest && not (of_one_guest mine passed)

-- NotRam: a frame of the item is no frame of the host's memory
abbrev pub is_not_ram : List FrameRange → Passed → Bool
is_not_ram ram mine = not (lie_in ram mine.claims)

-- that reason, where it applies
abbrev pub not_ram : List FrameRange → Passed → Option Why
not_ram ram mine = where_so (is_not_ram ram mine) whys.NotRam

-- both describe a shared region of one id
abbrev pub are_one_region : What → What → Bool
are_one_region (whats.Shared id host guest size owner) (whats.Shared other_id other_host other_guest other_size other_owner) = bytes_eq id other_id
are_one_region _ _ = false

-- an earlier item stands in the way: it claims a frame of this item, and is no region of its id
abbrev pub blocks : Passed → Passed → Bool
blocks mine passed = not (are_one_region (what_of mine) (what_of passed)) && have_common passed.claims mine.claims

-- HostOverlap: the earliest item that claims a frame of this one
abbrev pub host_overlap : List Passed → Passed → Option Why
host_overlap before mine = naming_first (blocks mine) whys.HostOverlap before

-- the pages of a layout's areas, which are never mapped: distributor, redistributors, console, and grant table
abbrev pub area_pages : Layout → List FrameRange
area_pages layout = map touched (layout.distributor ∷ layout.redistributors ∷ layout.console ∷ layout.grant ∷ [])

-- the item gives its guest a console, whose interrupt is 0
abbrev pub has_console : What → Bool
has_console (whats.Head cpus pages spis direct console) = console
has_console _ = false

-- a guest has a console
abbrev pub is_with_console : List Passed → Option ℕ → Bool
is_with_console before guest = list_any (λ (passed : Passed). belongs_to guest passed && has_console (what_of passed)) before

-- a guest's layout, by what items say of the guest
abbrev pub layout_at : Host → List Passed → Option ℕ → Layout
layout_at host before guest = layout_of host (is_direct before guest) (is_with_console before guest)

-- its areas, as an item that another overlaps
abbrev pub layout : Item
layout = record { part = parts.Layout; path = []; index = 0 }

-- an earlier item of the guest fills a page of this one
abbrev pub fills : Passed → Passed → Bool
fills mine passed = of_one_guest mine passed && have_common passed.pages mine.pages

-- GuestOverlap: the guest's layout, or else the earliest item of the guest, that has a page of this item
abbrev pub guest_overlap : Host → List Passed → Passed → Option Why
guest_overlap host before mine =
    if have_common (area_pages (layout_at host before mine.entry.guest)) mine.pages then Some (whys.GuestOverlap layout) else naming_first (fills mine) whys.GuestOverlap before

-- the module is a device tree
abbrev pub is_device_tree : ModuleKind → Bool
is_device_tree DeviceTree = true
is_device_tree _ = false

-- PartialUnread: a guest's device tree that was not read
abbrev pub partial_unread : ModuleKind → Passed → Option Why
partial_unread kind mine = where_so (is_some mine.entry.guest && is_device_tree kind && not mine.entry.partial_read) whys.PartialUnread

-- the item says how many shared interrupts its guest has, and the number is past them
abbrev pub is_past_spis : ℕ → What → Bool
is_past_spis number (whats.Head cpus pages (Some spis) direct console) = nat_le spis number
is_past_spis number _ = false

-- TooHigh of an interrupt: `nr_spis` is there, and the number is not below it
abbrev pub irq_too_high : List Passed → ℕ → Passed → Option Why
irq_too_high before number mine =
    where_so (list_any (λ (passed : Passed). of_one_guest mine passed && is_past_spis number (what_of passed)) before) whys.TooHigh

-- the item is that interrupt
abbrev pub is_irq : ℕ → What → Bool
is_irq number (whats.Irq other) = other == number
is_irq number _ = false

-- IrqTaken by the guest's console
abbrev pub irq_of_console : List Passed → ℕ → Passed → Option Why
irq_of_console before number mine =
    if number == 0
    then naming_first (λ passed. of_one_guest mine passed && has_console (what_of passed)) whys.IrqTaken before
    else None

-- IrqTaken by the earliest item of another guest with the number
abbrev pub irq_of_another : List Passed → ℕ → Passed → Option Why
irq_of_another before number mine = naming_first (λ passed. of_another_guest mine passed && is_irq number (what_of passed)) whys.IrqTaken before

-- ShmTwice: the id stands earlier in this guest
abbrev pub shm_twice : List Passed → Passed → Option Why
shm_twice before mine = naming_first (λ passed. of_one_guest mine passed && are_one_region (what_of mine) (what_of passed)) whys.ShmTwice before

-- both regions have one host base, or neither has any
abbrev pub is_same_host : Option ℕ → Option ℕ → Bool
is_same_host None other = is_none other
is_same_host (Some host) other = elim other as (λ _. Bool) [ None ↦ false | Some base ↦ host == base ]

-- two regions have one host base, or neither has any, and one size
abbrev pub have_one_base : What → What → Bool
have_one_base (whats.Shared id host guest size owner) (whats.Shared other_id other_host other_guest other_size other_owner) = is_same_host host other_host && (size == other_size)
have_one_base _ _ = false

-- the id's first region, where it has another size or another host base, or just one of the two has a host base
abbrev pub unlike : What → Option Passed → Option Why
unlike what None = None
unlike what (Some passed) = where_so (not (have_one_base what (what_of passed))) (whys.ShmDiffers (item_of passed))

-- ShmDiffers: the id's first region has another size or another host base, or just one of the two has a host base
abbrev pub shm_differs : List Passed → Passed → Option Why
shm_differs before mine = unlike (what_of mine) (find (λ passed. are_one_region (what_of mine) (what_of passed)) before)

-- the region's role is owner
abbrev pub is_owner : What → Bool
is_owner (whats.Shared id host guest size owner) = owner
is_owner _ = false

-- OwnerTwice: this one and an earlier one of the id are owners
abbrev pub owner_twice : List Passed → Passed → Option Why
owner_twice before mine =
    if is_owner (what_of mine)
    then naming_first (λ passed. are_one_region (what_of mine) (what_of passed) && is_owner (what_of passed)) whys.OwnerTwice before
    else None
