-- The frame at the front of a list of extents, and what is left without it.
use Rattle.std.proofs.Common.{◌≡◌, ◌≢◌, ℕ, ◌+◌, ◌-◌, ◌^◌, ◌<◌, ◌≤◌, List, [], ◌∷◌, ◌++◌, length, get_or, drop, Some, sym, ap, subst, ◌∙◌, arith}
use Rattle.texts.specs.Consecutive.{numbers}
use Rattle.texts.proofs.NumberLists.{numbers-zero, numbers-cons}
use Rattle.frame_alloc.specs.declared.extents.Extent.{Extent}
use Rattle.frame_alloc.specs.declared.slots.Slot.{Slot}
use Rattle.frame_alloc.specs.declared.extent_list.ExtentList.{ExtentList}
use Rattle.frame_alloc.specs.Frames.{lowest_frame}
use Rattle.frame_alloc.specs.Extents.{frames_of, AreExtentsFrom}
use Rattle.frame_alloc.specs.Slots.{slot_at, Cell, AreLists, used_cells, unused_cells, extents_in, IsExtentList}
use Rattle.frame_alloc.specs.PrivateLinks.{LosesSlot, ChangesSlot, IsUsed}
use Rattle.frame_alloc.proofs.Cuts.{weaker, AreExtents-cons}
use Rattle.frame_alloc.proofs.Changes.{lists-found, lists-linked}
use Rattle.frame_alloc.proofs.Walks.{extents, IsAtSlot, walk-begins, walk-at, slot-read}

numbers-front : (a n : ℕ) → 0 < n → numbers a n ≡ a ∷ numbers (a + 1) (n - 1)
numbers-front a n some = let e : n ≡ (n - 1) + 1 = omega arith in ap (numbers a) e ∙ numbers-cons a (n - 1)

lowest_frame-front_extent : (e : Extent) (es : List Extent) → 0 < e.count → lowest_frame (frames_of (e ∷ es)) ≡ Some e.first
lowest_frame-front_extent e es some = ap (λ frames. lowest_frame (frames ++ frames_of es)) (numbers-front e.first e.count some)

-- the front extent is one frame, and goes
drop-front_of_one : (e : Extent) (es : List Extent) → 0 < e.count → e.count ≡ 1 → frames_of es ≡ drop 1 (frames_of (e ∷ es))
drop-front_of_one e es some one =
    let front : numbers e.first e.count ≡ e.first ∷ [] = numbers-front e.first e.count some ∙ ap (λ n. e.first ∷ numbers (e.first + 1) (n - 1)) one ∙ ap (λ frames. e.first ∷ frames) (numbers-zero (e.first + 1)) in
    sym (ap (λ frames. drop 1 (frames ++ frames_of es)) front)

-- the front extent loses its first frame
drop-front_of_more : (e : Extent) (es : List Extent) → 0 < e.count → frames_of (record { first = e.first + 1; count = e.count - 1 } ∷ es) ≡ drop 1 (frames_of (e ∷ es))
drop-front_of_more e es some = sym (ap (λ frames. drop 1 (frames ++ frames_of es)) (numbers-front e.first e.count some))

-- the slot at the front of a list
pub record IsFront (list : ExtentList) (i : ℕ) (slot : Slot) : Type 0 where
  pub rest : List Cell
  pub unused : List Cell
  pub lists : AreLists list ((i, slot.extent) ∷ rest) unused
  pub is : extents_in list ≡ slot.extent ∷ extents rest
  pub apart : AreExtentsFrom 0 (slot.extent ∷ extents rest)

pub front-below : (list : ExtentList) (i : ℕ) → IsExtentList list → list.first ≡ Some i → i < length list.slots.items
front-below list i ok is = (walk-at list list.first [] (used_cells list) (unused_cells list) i (walk-begins list ok) is).below

pub front-at : (list : ExtentList) (i : ℕ) (slot : Slot) → IsExtentList list → list.first ≡ Some i → slot ≡ get_or list.slots.items i slot → IsFront list i slot
front-at list i slot ok is read = subst (λ (s : Slot). IsFront list i s) (sym same) turn
  where
    here : IsAtSlot list [] (used_cells list) (unused_cells list) i
    here = walk-at list list.first [] (used_cells list) (unused_cells list) i (walk-begins list ok) is

    same : slot ≡ slot_at list.slots.items i
    same = slot-read list i slot here.below read

    turn : IsFront list i (slot_at list.slots.items i)
    turn = record {
      rest = here.rest;
      unused = unused_cells list;
      lists = here.lists;
      is = ap extents here.is;
      apart = subst (λ (cells : List Cell). AreExtentsFrom 0 (extents cells)) here.is ok.apart;
    }

pub front-used : (list : ExtentList) (i : ℕ) (slot : Slot) → IsFront list i slot → IsUsed list i
front-used list i slot ok = record { front = []; extent = slot.extent; later = ok.rest; unused = ok.unused; lists = ok.lists }

pub front-lowest : (list : ExtentList) (i : ℕ) (slot : Slot) → IsFront list i slot → lowest_frame (frames_of (extents_in list)) ≡ Some slot.extent.first
front-lowest list i slot ok = ap (λ (es : List Extent). lowest_frame (frames_of es)) ok.is ∙ lowest_frame-front_extent slot.extent (extents ok.rest) ok.apart.1

-- what is left when the lowest frame was taken away
pub record IsShorter (old new : ExtentList) : Type 0 where
  pub frames : frames_of (extents_in new) ≡ drop 1 (frames_of (extents_in old))
  pub whole : IsExtentList new

pub front-gone : (old new : ExtentList) (i : ℕ) (slot : Slot) → IsFront old i slot → LosesSlot old new i → slot.extent.count ≡ 1 → IsShorter old new
front-gone old new i slot ok removed one =
    let lists : AreLists new ok.rest ((i, slot.extent) ∷ ok.unused) = removed [] ok.rest ok.unused slot.extent ok.lists in
    let found : extents_in new ≡ extents ok.rest = ap extents (lists-found new ok.rest ((i, slot.extent) ∷ ok.unused) lists).0 in
    record {
      frames = ap frames_of found ∙ drop-front_of_one slot.extent (extents ok.rest) ok.apart.1 one ∙ ap (λ (es : List Extent). drop 1 (frames_of es)) (sym ok.is);
      whole = record {
        lists = lists-linked new ok.rest ((i, slot.extent) ∷ ok.unused) lists;
        apart = subst (AreExtentsFrom 0) (sym found) (AreExtents-cons slot.extent (extents ok.rest) 0 ok.apart);
      };
    }

pub front-shorter : (old new : ExtentList) (i : ℕ) (slot : Slot) → IsFront old i slot → ChangesSlot old new i (record { first = slot.extent.first + 1; count = slot.extent.count - 1 }) → slot.extent.count ≢ 1 → IsShorter old new
front-shorter old new i slot ok changed more =
    let e = slot.extent in
    let x : Extent = record { first = e.first + 1; count = e.count - 1 } in
    let some : 0 < e.count = ok.apart.1 in
    let bound : e.first + e.count ≤ 2 ^ 28 = ok.apart.2 in
    let lists : AreLists new ((i, x) ∷ ok.rest) ok.unused = changed [] ok.rest ok.unused e ok.lists in
    let found : extents_in new ≡ x ∷ extents ok.rest = ap extents (lists-found new ((i, x) ∷ ok.rest) ok.unused lists).0 in
    record {
      frames = ap frames_of found ∙ drop-front_of_more e (extents ok.rest) some ∙ ap (λ (es : List Extent). drop 1 (frames_of es)) (sym ok.is);
      whole = record {
        lists = lists-linked new ((i, x) ∷ ok.rest) ok.unused lists;
        apart = subst (AreExtentsFrom 0) (sym found) (omega arith, omega arith, omega arith, weaker (extents ok.rest) (x.first + x.count + 1) (e.first + e.count + 1) (omega arith) ok.apart.3);
      };
    }
