-- Two lists of extents that are linked by index through one vector of slots.
use Rattle.std.specs.Prelude.{◌≡◌, ℕ, zero, suc, ◌+◌, ◌-◌, ◌<◌, ◌==◌, if◌then◌else◌, List, [], ◌∷◌, length, map, get_or, Option, Some, None, vec_len, vec_capacity}
use Rattle.frame_alloc.specs.Extents.{AreExtentsFrom}
use Rattle.frame_alloc.specs.declared.extents.Extent.{Extent}
use Rattle.frame_alloc.specs.declared.slots.Slot.{Slot}
use Rattle.frame_alloc.specs.declared.extent_list.ExtentList.{ExtentList}

-- a slot that is in neither list
abbrev pub no_slot : Slot
no_slot = record { extent = record { first = 0; count = 0 }; before = None; after = None }

-- the slot at an index
abbrev pub slot_at : List Slot → ℕ → Slot
slot_at slots i = get_or slots i no_slot

-- a slot of a list: its index and its extent
abbrev pub Cell : Type 0
Cell = ℕ × Extent

-- the slots from one on, as the links lead, at most so many
abbrev pub walk : List Slot → ℕ → Option ℕ → List Cell
walk slots zero start = []
walk slots (suc most) None = []
walk slots (suc most) (Some i) = (i, (slot_at slots i).extent) ∷ walk slots most (slot_at slots i).after

-- these slots stand one after another: each links those before and after it, and the last links what follows
abbrev pub AreLinked : List Slot → Option ℕ → Option ℕ → List Cell → Option ℕ → Type 0
AreLinked slots before start [] next = start ≡ next
AreLinked slots before start (cell ∷ cells) next =
    (start ≡ Some cell.0) × (cell.0 < length slots) ×
    ((slot_at slots cell.0).before ≡ before) × ((slot_at slots cell.0).extent ≡ cell.1) ×
    AreLinked slots (Some cell.0) (slot_at slots cell.0).after cells next

-- how often a slot stands in a list
abbrev pub times : ℕ → List Cell → ℕ
times i [] = 0
times i (cell ∷ cells) = (if cell.0 == i then 1 else 0) + times i cells

-- the two lists of a vector of slots: both are linked both ways, and each slot stands in exactly one of them, once
pub record AreLists (list : ExtentList) (used unused : List Cell) : Type 0 where
  pub linked : AreLinked list.slots.items None list.first used None
  pub unused_linked : AreLinked list.slots.items None list.unused unused None
  pub once : (i : ℕ) → i < length list.slots.items → times i used + times i unused ≡ 1
  pub all : length used + length unused ≡ length list.slots.items
  pub unused_count : list.unused_count ≡ length unused

-- the slots that hold extents, in order
abbrev pub used_cells : ExtentList → List Cell
used_cells list = walk list.slots.items (length list.slots.items) list.first

-- the slots that are not in use
abbrev pub unused_cells : ExtentList → List Cell
unused_cells list = walk list.slots.items (length list.slots.items) list.unused

-- the extents, in order
abbrev pub extents_in : ExtentList → List Extent
extents_in list = map (λ (cell : Cell). cell.1) (used_cells list)

-- the links of both lists are inverse to each other, and each slot stands in exactly one list
abbrev pub IsLinkedList : ExtentList → Type 0
IsLinkedList list = AreLists list (used_cells list) (unused_cells list)

-- the last of some slots, or what stands before them
abbrev pub last_of : Option ℕ → List Cell → Option ℕ
last_of before [] = before
last_of before (cell ∷ cells) = last_of (Some cell.0) cells

-- the extents are also ascending, apart and not empty
pub record IsExtentList (list : ExtentList) : Type 0 where
  pub lists : IsLinkedList list
  pub apart : AreExtentsFrom 0 (extents_in list)

-- how many more extents there is room for: in slots that are not in use, and in what the vector has reserved
abbrev pub spare_of : ExtentList → ℕ
spare_of list = list.unused_count + (vec_capacity list.slots - vec_len list.slots)
