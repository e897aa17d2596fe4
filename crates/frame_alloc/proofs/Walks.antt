-- Walks along the links through the slots that hold extents.
use Rattle.std.proofs.Common.{◌≡◌, ℕ, ◌+◌, ◌<◌, ◌≤◌, List, [], ◌∷◌, ◌++◌, length, length-append, map, get_or, Option, Some, None, refl, sym, ap, subst, ◌∙◌, arith, append_assoc}
use Rattle.std.specs.List.{sum_by}
use Rattle.std.proofs.lemmas.List.{get_or_read}
use Rattle.std.proofs.lemmas.List.Sums.{sum_by-cons}
use Rattle.frame_alloc.specs.declared.extents.Extent.{Extent}
use Rattle.frame_alloc.specs.declared.slots.Slot.{Slot}
use Rattle.frame_alloc.specs.declared.extent_list.ExtentList.{ExtentList}
use Rattle.frame_alloc.specs.Extents.{AreExtentsFrom}
use Rattle.frame_alloc.specs.Slots.{slot_at, Cell, walk, last_of, AreLists, used_cells, unused_cells, extents_in, IsExtentList}
use Rattle.frame_alloc.proofs.Cuts.{AreExtents-cons}
use Rattle.frame_alloc.proofs.Linking.{linked-cut, walk-linked, starts-with, first_of}
use Rattle.frame_alloc.proofs.Changes.{lists-found}

-- the extents of some slots
abbrev pub extents : List Cell → List Extent
extents cells = map (λ (cell : Cell). cell.1) cells

pub extents-append : (xs ys : List Cell) → extents (xs ++ ys) ≡ extents xs ++ extents ys
extents-append [] ys = refl
extents-append (x ∷ xs) ys = ap (λ (es : List Extent). x.1 ∷ es) (extents-append xs ys)

-- how far a walk has come: the slots before a place, and those from it on
pub record IsWalkedTo (list : ExtentList) (at : Option ℕ) (front later : List Cell) (unused : List Cell) : Type 0 where
  pub lists : AreLists list (front ++ later) unused
  pub starts : at ≡ first_of later

-- a walk has not begun
pub walk-begins : (list : ExtentList) → IsExtentList list → IsWalkedTo list list.first [] (used_cells list) (unused_cells list)
walk-begins list ok = record {
  lists = ok.lists;
  starts = starts-with list.slots.items None list.first (used_cells list) ok.lists.linked;
}

-- the extents of the list
pub walk-extents : (list : ExtentList) (at : Option ℕ) (front later unused : List Cell) → IsWalkedTo list at front later unused → extents_in list ≡ extents front ++ extents later
walk-extents list at front later unused ok = ap extents (lists-found list (front ++ later) unused ok.lists).0 ∙ extents-append front later

-- a walk is at its end
pub walk-ended : (list : ExtentList) (at : Option ℕ) (front later unused : List Cell) → IsWalkedTo list at front later unused → at ≡ None → later ≡ []
walk-ended list at front [] unused ok is = refl
walk-ended list at front (cell ∷ cells) unused ok is = let some : at ≡ Some cell.0 = ok.starts in absurd cc

-- a walk is at a slot
pub record IsAtSlot (list : ExtentList) (front later unused : List Cell) (i : ℕ) : Type 0 where
  pub rest : List Cell
  pub is : later ≡ (i, (slot_at list.slots.items i).extent) ∷ rest
  pub below : i < length list.slots.items
  pub after : (slot_at list.slots.items i).after ≡ first_of rest
  pub lists : AreLists list (front ++ (i, (slot_at list.slots.items i).extent) ∷ rest) unused

pub walk-at : (list : ExtentList) (at : Option ℕ) (front later unused : List Cell) (i : ℕ) → IsWalkedTo list at front later unused → at ≡ Some i → IsAtSlot list front later unused i
walk-at list at front [] unused i ok is = let none : at ≡ None = ok.starts in absurd cc
walk-at list at front ((j, e) ∷ cells) unused i ok is =
    let slots = list.slots.items in
    let same : j ≡ i = let a : Some j ≡ Some i = sym ok.starts ∙ is in cc in
    let here : AreLists list (front ++ (i, e) ∷ cells) unused = subst (λ k. AreLists list (front ++ (k, e) ∷ cells) unused) same ok.lists in
    let parts = linked-cut slots None list.first None front ((i, e) ∷ cells) here.linked in
    let extent : (slot_at slots i).extent ≡ e = parts.2.3 in
    record {
      rest = cells;
      is = ap (λ (k : ℕ). (k, e) ∷ cells) same ∙ ap (λ (x : Extent). (i, x) ∷ cells) (sym extent);
      below = parts.2.1;
      after = starts-with slots (Some i) (slot_at slots i).after cells parts.2.4;
      lists = subst (λ (x : Extent). AreLists list (front ++ (i, x) ∷ cells) unused) (sym extent) here;
    }

-- a walk goes on
pub walk-on : (list : ExtentList) (front later unused : List Cell) (i : ℕ) (at : IsAtSlot list front later unused i) → IsWalkedTo list (slot_at list.slots.items i).after (front ++ (i, (slot_at list.slots.items i).extent) ∷ []) at.rest unused
walk-on list front later unused i at = record {
  lists = subst (λ (cells : List Cell). AreLists list cells unused) (sym (append_assoc front ((i, (slot_at list.slots.items i).extent) ∷ []) at.rest)) at.lists;
  starts = at.after;
}

-- how many slots a walk has before it
abbrev pub ahead : ExtentList → Option ℕ → ℕ
ahead list at = length (walk list.slots.items (length list.slots.items) at)

pub walk-ahead : (list : ExtentList) (at : Option ℕ) (front later unused : List Cell) → IsWalkedTo list at front later unused → ahead list at ≡ length later
walk-ahead list at front later unused ok =
    let slots = list.slots.items in
    let parts = linked-cut slots None list.first None front later ok.lists.linked in
    let starts : at ≡ parts.0 = ok.starts ∙ sym (starts-with slots (last_of None front) parts.0 later parts.2) in
    let all = ok.lists.all in
    let both = length-append front later in
    ap (λ (o : Option ℕ). length (walk slots (length slots) o)) starts
    ∙ ap length (walk-linked slots (length slots) (last_of None front) parts.0 later parts.2 (omega (arith, all, both)))

-- what is read of a slot
pub slot-read : (list : ExtentList) (i : ℕ) (slot : Slot) → i < length list.slots.items → slot ≡ get_or list.slots.items i slot → slot ≡ slot_at list.slots.items i
slot-read list i slot low is = get_or_read list.slots.items i slot low is (record { extent = record { first = 0; count = 0 }; before = None; after = None })

-- one turn of a sum over the extents
pub record IsSummedTo (f : Extent → ℕ) (list : ExtentList) (at : Option ℕ) (total : ℕ) : Type 0 where
  pub front : List Cell
  pub later : List Cell
  pub walked : IsWalkedTo list at front later (unused_cells list)
  pub apart : AreExtentsFrom 0 (extents later)
  pub summed : total + sum_by f (extents later) ≡ sum_by f (extents_in list)

pub sum-begins : (f : Extent → ℕ) (list : ExtentList) → IsExtentList list → IsSummedTo f list list.first 0
sum-begins f list ok = record {
  front = [];
  later = used_cells list;
  walked = walk-begins list ok;
  apart = ok.apart;
  summed = omega arith;
}

-- what one turn tells of the slot that it reads
pub record IsTurn (f : Extent → ℕ) (list : ExtentList) (slot : Slot) (total : ℕ) (at : Option ℕ) : Type 0 where
  pub low : total + f slot.extent ≤ sum_by f (extents_in list)
  pub extent : AreExtentsFrom 0 (slot.extent ∷ [])
  pub next : IsSummedTo f list slot.after (total + f slot.extent)
  pub less : ahead list slot.after < ahead list at

pub sum-below : (f : Extent → ℕ) (list : ExtentList) (at : Option ℕ) (total : ℕ) (i : ℕ) → IsSummedTo f list at total → at ≡ Some i → i < length list.slots.items
sum-below f list at total i ok is = (walk-at list at ok.front ok.later (unused_cells list) i ok.walked is).below

pub sum-turn : (f : Extent → ℕ) (list : ExtentList) (at : Option ℕ) (total : ℕ) (i : ℕ) (slot : Slot) → IsSummedTo f list at total → at ≡ Some i → slot ≡ get_or list.slots.items i slot → IsTurn f list slot total at
sum-turn f list at total i slot ok is read = subst (λ (s : Slot). IsTurn f list s total at) (sym same) turn
  where
    here : IsAtSlot list ok.front ok.later (unused_cells list) i
    here = walk-at list at ok.front ok.later (unused_cells list) i ok.walked is

    there : Slot
    there = slot_at list.slots.items i

    same : slot ≡ there
    same = slot-read list i slot here.below read

    turn : IsTurn f list there total at
    turn =
        let apart : AreExtentsFrom 0 (there.extent ∷ extents here.rest) = subst (λ (cells : List Cell). AreExtentsFrom 0 (extents cells)) here.is ok.apart in
        let sum : total + sum_by f (there.extent ∷ extents here.rest) ≡ sum_by f (extents_in list) = subst (λ (cells : List Cell). total + sum_by f (extents cells) ≡ sum_by f (extents_in list)) here.is ok.summed in
        let step = sum_by-cons f there.extent (extents here.rest) in
        let on = walk-on list ok.front ok.later (unused_cells list) i here in
        let left = walk-ahead list at ok.front ok.later (unused_cells list) ok.walked in
        let left_after = walk-ahead list there.after (ok.front ++ (i, there.extent) ∷ []) here.rest (unused_cells list) on in
        let longer : length ok.later ≡ length here.rest + 1 = ap length here.is ∙ omega arith in
        record {
          low = omega (arith, sum, step);
          extent = (apart.0, apart.1, apart.2, tt);
          next = record {
            front = ok.front ++ (i, there.extent) ∷ [];
            later = here.rest;
            walked = on;
            apart = AreExtents-cons there.extent (extents here.rest) 0 apart;
            summed = omega (arith, sum, step);
          };
          less = omega (arith, left, left_after, longer);
        }

pub sum-ends : (f : Extent → ℕ) (list : ExtentList) (at : Option ℕ) (total : ℕ) → IsSummedTo f list at total → at ≡ None → total ≡ sum_by f (extents_in list)
sum-ends f list at total ok is =
    let none : total + sum_by f [] ≡ sum_by f (extents_in list) = subst (λ (cells : List Cell). total + sum_by f (extents cells) ≡ sum_by f (extents_in list)) (walk-ended list at ok.front ok.later (unused_cells list) ok.walked is) ok.summed in
    omega (arith, none)
