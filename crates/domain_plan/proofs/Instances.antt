-- Worked examples: hand-made items, and what guests draw and are mapped to.
use Rattle.std.specs.Prelude.{Result, Ok, Err, ◌≡◌, ℕ, false, List, [], ◌∷◌, ◌++◌, codes, Option, Some, None, option_map, length}
use Rattle.std.proofs.Common.{refl}
use Rattle.texts.specs.declared.ranges.FrameRange.{FrameRange}
use Rattle.described.specs.declared.map_range.Kind.TheVariants.{Ram, Device}
use Rattle.described.specs.Layouts.{usual_layout}
use Rattle.described.specs.Maps.{target_of, Target}
use Rattle.texts.specs.Consecutive.{numbers, is_in}
use Rattle.std.specs.Fmt.{digits}
use Rattle.frame_alloc.specs.Frames.{without, lowest_group}
use Rattle.frame_alloc.specs.Ranges.{have_common, lie_in}
use Rattle.item_checks.specs.Entries.{Entry}
use Rattle.item_checks.specs.Taken.{all_passed}
use Rattle.item_checks.specs.Refusals.{Refusal, first_refused}
use Rattle.domain_plan.specs.Draws.{Drawn, Heaps, drawn, groups_drawn, free_frames, heaps}
use Rattle.fdt_tree.specs.declared.node_id.NodeId.{NodeId}
use Rattle.item_checks.specs.declared.guests.Guest.{Guest}
use Rattle.item_checks.specs.declared.guests.PartialState.TheVariants as states
use Rattle.domain_plan.specs.GuestMaps.{guest_ranges}
use Rattle.item_checks.proofs.Instances.{guest, dom0, head, kernel, static, text, device_twice}

device_twice_map : guest_ranges (all_passed [] device_twice) 0 [] ≡ record { page = 0xff010; first = 0xff010; count = 1; kind = Device } ∷ []
unfolding first_refused have_common lie_in numbers digits all_passed guest_ranges drawn groups_drawn free_frames without lowest_group is_in usual_layout
device_twice_map = refl

-- 513 pages: one chunk and one frame, from what a kernel in frame 1 leaves of 8 MiB
abbrev two_draws : List Entry
two_draws = guest 0 (head dom0 513 false false) ∷ guest 0 (kernel dom0 0x1000 0x1000) ∷ []

abbrev small : List FrameRange
small = record { first = 0; count = 2048 } ∷ []

two_draws_map : option_map (λ (one : Drawn). guest_ranges (all_passed [] two_draws) 0 one.frames) (drawn 513 (free_frames small (all_passed [] two_draws)))
    ≡ Some (record { page = 0x40000; first = 0x200; count = 512; kind = Ram } ∷ record { page = 0x200000; first = 0x400; count = 0; kind = Ram } ∷
    record { page = 0x40200; first = 0; count = 1; kind = Ram } ∷ record { page = 0x200000; first = 1; count = 0; kind = Ram } ∷ [])
unfolding first_refused have_common lie_in numbers digits all_passed guest_ranges drawn groups_drawn free_frames without lowest_group is_in usual_layout
two_draws_map = refl

-- 1,021 frames are free and no chunk of 512 is among them
abbrev no_chunk : List Entry
no_chunk = guest 0 (head dom0 512 false false) ∷ guest 0 (kernel dom0 0x1000 0x1000) ∷ []

no_chunk_drawn : (drawn 512 (free_frames (record { first = 1; count = 1022 } ∷ []) (all_passed [] no_chunk)) ≡ None) × (length (free_frames (record { first = 1; count = 1022 } ∷ []) (all_passed [] no_chunk)) ≡ 1021)
unfolding first_refused have_common lie_in numbers digits all_passed guest_ranges drawn groups_drawn free_frames without lowest_group is_in usual_layout
no_chunk_drawn = (refl, refl)

-- a static range of 4 GiB fills both banks
abbrev banks : List Entry
banks = guest 0 (head dom0 0 false false) ∷ guest 0 (static dom0 0x800000000 0x100000000) ∷ []

abbrev frame_at : List Entry → ℕ → Option ℕ
frame_at entries page = option_map (λ (target : Target). target.frame) (target_of (guest_ranges (all_passed [] entries) 0 []) page)

banks_map : (frame_at banks 0xfffff ≡ Some 0x8bffff) × (frame_at banks 0x100000 ≡ None) × (frame_at banks 0x200000 ≡ Some 0x8c0000) × (frame_at banks 0x23ffff ≡ Some 0x8fffff)
unfolding first_refused have_common lie_in numbers digits all_passed guest_ranges drawn groups_drawn free_frames without lowest_group is_in usual_layout
banks_map = (refl, refl, refl, refl)

-- a guest that asks for so many pages; its node does not matter
abbrev heap_guest : NodeId → List ℕ → ℕ → Guest
heap_guest node path pages = record {
  domain = record { node = node; path = path; number = 0; cpus = 1; pages = pages; console = false; spis = None; direct = false; bootargs = None; partial = None; items = [] };
  partial = states.None;
  shared = [];
  ports = [];
}

abbrev short_text : Result Heaps Refusal → Option (List ℕ)
short_text (Err refusal) = Some (text refusal)
short_text (Ok heaps) = None

no_chunk_told : (node : NodeId) → short_text (heaps (heap_guest node dom0 512 ∷ []) (free_frames (record { first = 1; count = 1022 } ∷ []) (all_passed [] no_chunk))) ≡ Some (codes "/chosen/domU0 memory: NoRam 512 1021")
unfolding heaps numbers digits all_passed drawn groups_drawn free_frames without lowest_group is_in usual_layout
no_chunk_told node = refl

-- static ranges fill a guest's memory in their order
static_lists_swapped : (frame_at (guest 0 (head dom0 0 false false) ∷ guest 0 (static dom0 0x40100000 0x100000) ∷ guest 0 (static dom0 0x40000000 0x100000) ∷ []) 0x40000 ≡ Some 0x40100)
    × (frame_at (guest 0 (head dom0 0 false false) ∷ guest 0 (static dom0 0x40100000 0x100000) ∷ guest 0 (static dom0 0x40000000 0x100000) ∷ []) 0x40100 ≡ Some 0x40000)
unfolding all_passed guest_ranges
static_lists_swapped = (refl, refl)
