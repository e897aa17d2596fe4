-- What one change of links makes of the slots, and what it makes of the two lists.
use Rattle.std.specs.Prelude.{◌≡◌, ◌≢◌, ℕ, ◌+◌, ◌<◌, List, ◌∷◌, ◌++◌, length, drop, set, Option, Some, None, vec_capacity}
use Rattle.frame_alloc.specs.declared.extents.Extent.{Extent}
use Rattle.frame_alloc.specs.declared.slots.Slot.{Slot}
use Rattle.frame_alloc.specs.declared.extent_list.ExtentList.{ExtentList}
use Rattle.frame_alloc.specs.Slots.{slot_at, Cell, AreLinked, times, last_of, AreLists, used_cells}

-- another slot comes after a slot
abbrev pub with_after : List Slot → Option ℕ → Option ℕ → List Slot
with_after slots None to = slots
with_after slots (Some i) to =
    set slots i (record { extent = (slot_at slots i).extent; before = (slot_at slots i).before; after = to })

-- another slot comes before a slot
abbrev pub with_before : List Slot → Option ℕ → Option ℕ → List Slot
with_before slots None to = slots
with_before slots (Some i) to =
    set slots i (record { extent = (slot_at slots i).extent; before = to; after = (slot_at slots i).after })

-- two slots are linked to each other
abbrev pub joined : List Slot → Option ℕ → Option ℕ → List Slot
joined slots before after = with_before (with_after slots before after) after before

-- where a list begins after that: with the second, where there is none before it
abbrev pub joined_head : Option ℕ → Option ℕ → Option ℕ → Option ℕ
joined_head head None after = after
joined_head head (Some i) after = head

-- the slot after a slot, or the first of the list
abbrev pub link_from : List Slot → Option ℕ → Option ℕ → Option ℕ
link_from slots head None = head
link_from slots head (Some i) = (slot_at slots i).after

-- a slot stands after another one, or at the front
abbrev pub linked : List Slot → Option ℕ → Option ℕ → ℕ → List Slot
linked slots head before i = joined (joined slots before (Some i)) (Some i) (link_from slots head before)

-- the slots beside a slot are linked to each other
abbrev pub unlinked : List Slot → ℕ → List Slot
unlinked slots i = joined slots (slot_at slots i).before (slot_at slots i).after

-- these are the two lists of a vector of slots but for one slot, which stands in neither
pub record AreListsBut (list : ExtentList) (used unused : List Cell) (i : ℕ) : Type 0 where
  pub linked : AreLinked list.slots.items None list.first used None
  pub unused_linked : AreLinked list.slots.items None list.unused unused None
  pub there : i < length list.slots.items
  pub apart : times i used + times i unused ≡ 0
  pub once : (j : ℕ) → j < length list.slots.items → j ≢ i → times j used + times j unused ≡ 1
  pub all : length used + length unused + 1 ≡ length list.slots.items
  pub unused_count : list.unused_count ≡ length unused

-- a slot stands among those that hold extents
pub record IsUsed (list : ExtentList) (i : ℕ) : Type 0 where
  pub front : List Cell
  pub extent : Extent
  pub later : List Cell
  pub unused : List Cell
  pub lists : AreLists list (front ++ (i, extent) ∷ later) unused

-- a slot is the last of some of the slots that hold extents, or there is none and it is none
pub record IsAfter (list : ExtentList) (before : Option ℕ) : Type 0 where
  pub front : List Cell
  pub later : List Cell
  pub unused : List Cell
  pub lists : AreLists list (front ++ later) unused
  pub last : last_of None front ≡ before

-- a slot stands in neither list, and another one is the last of some of the slots that hold extents
pub record IsLoose (list : ExtentList) (before : Option ℕ) (i : ℕ) : Type 0 where
  pub front : List Cell
  pub later : List Cell
  pub unused : List Cell
  pub lists : AreListsBut list (front ++ later) unused i
  pub last : last_of None front ≡ before

-- the slot goes to those that are not in use, and the others stay
abbrev pub LosesSlot : ExtentList → ExtentList → ℕ → Type 0
LosesSlot old new i =
    (front later unused : List Cell) (extent : Extent) → AreLists old (front ++ (i, extent) ∷ later) unused
    → AreLists new (front ++ later) ((i, extent) ∷ unused)

-- the slot has another extent, and all else stays
abbrev pub ChangesSlot : ExtentList → ExtentList → ℕ → Extent → Type 0
ChangesSlot old new i extent =
    (front later unused : List Cell) (other : Extent) → AreLists old (front ++ (i, other) ∷ later) unused
    → AreLists new (front ++ (i, extent) ∷ later) unused

-- a slot that was not in use, or a new one, stands in neither list
abbrev pub FreesSlot : ExtentList → ExtentList → ℕ → Type 0
FreesSlot old new i = (used unused : List Cell) → AreLists old used unused → AreListsBut new used (drop 1 unused) i

-- a slot that stood in neither list stands after another one, or at the front, with an extent
abbrev pub PutsSlot : ExtentList → ExtentList → Option ℕ → ℕ → Extent → Type 0
PutsSlot old new before i extent =
    (front later unused : List Cell) → AreListsBut old (front ++ later) unused i → last_of None front ≡ before
    → AreLists new (front ++ (i, extent) ∷ later) unused

-- a slot that was not in use, or a new one, stands after another one, or at the front, with an extent
abbrev pub GainsSlot : ExtentList → ExtentList → Option ℕ → ℕ → Extent → Type 0
GainsSlot old new before i extent =
    (front later unused : List Cell) → AreLists old (front ++ later) unused → last_of None front ≡ before
    → AreLists new (front ++ (i, extent) ∷ later) (drop 1 unused)

-- the slots and links are what they were, and so is the room
pub record IsUnchanged (old new : ExtentList) : Type 0 where
  pub slots : new.slots.items ≡ old.slots.items
  pub first : new.first ≡ old.first
  pub unused : new.unused ≡ old.unused
  pub unused_count : new.unused_count ≡ old.unused_count
  pub capacity : vec_capacity new.slots ≡ vec_capacity old.slots

-- the last slot that holds an extent, if there is one
abbrev pub last_used : ExtentList → Option ℕ
last_used list = last_of None (used_cells list)
