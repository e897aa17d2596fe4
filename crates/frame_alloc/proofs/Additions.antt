-- Adding the frames of a range at the end of a list of extents.
use Rattle.std.proofs.Common.{◌≡◌, ◌≢◌, ℕ, ◌+◌, ◌^◌, ◌<◌, ◌≤◌, ◌⊎◌, List, [], ◌∷◌, ◌++◌, length, get_or, drop, Option, Some, None, refl, sym, ap, subst, ◌∙◌, arith, append-nil}
use Rattle.texts.specs.Consecutive.{numbers}
use Rattle.frame_alloc.specs.declared.extents.Extent.{Extent}
use Rattle.frame_alloc.specs.declared.slots.Slot.{Slot}
use Rattle.frame_alloc.specs.declared.extent_list.ExtentList.{ExtentList}
use Rattle.frame_alloc.specs.Extents.{frames_of, AreExtentsFrom}
use Rattle.frame_alloc.specs.PrivateExtents.{end_from}
use Rattle.frame_alloc.specs.Slots.{slot_at, Cell, last_of, AreLists, used_cells, unused_cells, extents_in, IsExtentList}
use Rattle.frame_alloc.specs.PrivateLinks.{last_used}
use Rattle.frame_alloc.specs.PrivateLinks.{ChangesSlot, GainsSlot, IsUsed, IsAfter}
use Rattle.frame_alloc.proofs.ExtentLemmas.{longer, frames_of-longer, AreExtents-longer, bound-last, frames_of-push, AreExtents-push, end_from-push}
use Rattle.frame_alloc.proofs.Linking.{last_of-append, links-at}
use Rattle.frame_alloc.proofs.Changes.{lists-found, lists-linked}
use Rattle.frame_alloc.proofs.Walks.{extents, extents-append, slot-read}

-- a list of slots with a last one
at-last : (cells : List Cell) (i : ℕ) → last_of None cells ≡ Some i → (front : List Cell) × (e : Extent) × (cells ≡ front ++ (i, e) ∷ [])
at-last [] i is = absurd cc
at-last (cell ∷ []) i is = let same : cell.0 ≡ i = cc in ([], cell.1, ap (λ (k : ℕ). (k, cell.1) ∷ []) same)
at-last (cell ∷ next ∷ cells) i is =
    let rest = at-last (next ∷ cells) i is in
    (cell ∷ rest.0, rest.1, ap (λ (xs : List Cell). cell ∷ xs) rest.2)

no-last : (cells : List Cell) → last_of None cells ≡ None → cells ≡ []
no-last [] is = refl
no-last (cell ∷ cells) is = absurd (some cell cells is)
  where
    some : (cell : Cell) (cells : List Cell) → last_of (Some cell.0) cells ≡ None → ⊥
    some cell [] is = cc
    some cell (next ∷ cells) is = some next cells is

-- the slot at the end of a list
pub record IsLast (list : ExtentList) (i : ℕ) (e : Extent) : Type 0 where
  pub front : List Cell
  pub below : i < length list.slots.items
  pub extent : (slot_at list.slots.items i).extent ≡ e
  pub lists : AreLists list (front ++ (i, e) ∷ []) (unused_cells list)
  pub is : extents_in list ≡ extents front ++ e ∷ []

last-found : (list : ExtentList) (i : ℕ) → IsExtentList list → last_used list ≡ Some i → (e : Extent) × IsLast list i e
last-found list i ok is =
    let found = at-last (used_cells list) i is in
    let lists : AreLists list (found.0 ++ (i, found.1) ∷ []) (unused_cells list) = subst (λ (cells : List Cell). AreLists list cells (unused_cells list)) found.2 ok.lists in
    let links = links-at list.slots.items list.first found.0 [] i found.1 lists.linked in (
      found.1,
      record {
        front = found.0;
        below = links.2;
        extent = links.3;
        lists = lists;
        is = ap extents found.2 ∙ extents-append found.0 ((i, found.1) ∷ []);
      },
    )

pub last-below : (list : ExtentList) (last : Option ℕ) (i : ℕ) → IsExtentList list → last ≡ last_used list → last ≡ Some i → i < length list.slots.items
last-below list last i ok used is = (last-found list i ok (sym used ∙ is)).1.below

pub last-at : (list : ExtentList) (last : Option ℕ) (i : ℕ) (slot : Slot) → IsExtentList list → last ≡ last_used list → last ≡ Some i → slot ≡ get_or list.slots.items i slot → IsLast list i slot.extent
last-at list last i slot ok used is read =
    let found = last-found list i ok (sym used ∙ is) in
    let same : slot.extent ≡ found.0 = ap (λ (s : Slot). s.extent) (slot-read list i slot found.1.below read) ∙ found.1.extent in
    subst (λ (e : Extent). IsLast list i e) (sym same) found.1

pub last-bound : (list : ExtentList) (i : ℕ) (e : Extent) → IsExtentList list → IsLast list i e → e.first + e.count ≤ 2 ^ 28
last-bound list i e ok here = bound-last (extents here.front) e 0 (subst (AreExtentsFrom 0) here.is ok.apart)

pub last-end : (list : ExtentList) (i : ℕ) (e : Extent) → IsLast list i e → end_from 0 (extents_in list) ≡ e.first + e.count
last-end list i e here = ap (end_from 0) here.is ∙ end_from-push (extents here.front) e 0

pub last-is_used : (list : ExtentList) (i : ℕ) (e : Extent) → IsLast list i e → IsUsed list i
last-is_used list i e here = record { front = here.front; extent = e; later = []; unused = unused_cells list; lists = here.lists }

pub after-last : (list : ExtentList) (last : Option ℕ) → IsExtentList list → last ≡ last_used list → IsAfter list last
after-last list last ok is = record {
  front = used_cells list;
  later = [];
  unused = unused_cells list;
  lists = subst (λ (cells : List Cell). AreLists list cells (unused_cells list)) (sym (append-nil (used_cells list))) ok.lists;
  last = sym is;
}

-- what a range adds
pub record IsAdded (old new : ExtentList) (first count : ℕ) (last : Option ℕ) : Type 0 where
  pub frames : frames_of (extents_in new) ≡ frames_of (extents_in old) ++ numbers first count
  pub whole : IsExtentList new
  pub end : end_from 0 (extents_in new) ≤ first + count
  pub last_is : last ≡ last_used new

added : (old new : ExtentList) (first count : ℕ) (front : List Cell) (i : ℕ) (e : Extent) (unused : List Cell) → AreLists new (front ++ (i, e) ∷ []) unused → AreExtentsFrom 0 (extents front ++ e ∷ [])
    → frames_of (extents front ++ e ∷ []) ≡ frames_of (extents_in old) ++ numbers first count → e.first + e.count ≤ first + count → IsAdded old new first count (Some i)
added old new first count front i e unused lists apart frames end =
    let found = (lists-found new (front ++ (i, e) ∷ []) unused lists).0 in
    let is : extents_in new ≡ extents front ++ e ∷ [] = ap extents found ∙ extents-append front ((i, e) ∷ []) in
    record {
      frames = ap frames_of is ∙ frames;
      whole = record {
        lists = lists-linked new (front ++ (i, e) ∷ []) unused lists;
        apart = subst (AreExtentsFrom 0) (sym is) apart;
      };
      end = (let e_end = ap (end_from 0) is ∙ end_from-push (extents front) e 0 in omega (arith, e_end, end));
      last_is = sym (ap (last_of None) found ∙ last_of-append None front ((i, e) ∷ []));
    }

-- the last extent grows by a range that touches it
pub grown : (old new : ExtentList) (first count : ℕ) (i : ℕ) (e : Extent) → IsExtentList old → IsLast old i e → e.first + e.count ≡ first → first + count ≤ 2 ^ 28 → ChangesSlot old new i (record { first = e.first; count = e.count + count })
    → IsAdded old new first count (Some i)
grown old new first count i e ok here touches low changed =
    let apart : AreExtentsFrom 0 (extents here.front ++ e ∷ []) = subst (AreExtentsFrom 0) here.is ok.apart in
    added old new first count here.front i (longer e count) (unused_cells old) (changed here.front [] (unused_cells old) e here.lists)
    (AreExtents-longer (extents here.front) e count 0 apart (omega (arith, touches, low)))
    (frames_of-longer (extents here.front) e count
    ∙ ap (λ n. frames_of (extents here.front ++ e ∷ []) ++ numbers n count) touches
    ∙ ap (λ (es : List Extent). frames_of es ++ numbers first count) (sym here.is))
    (omega (arith, touches))

-- no extent is there, or the last one ends below the range
pub last-apart : (list : ExtentList) (first i : ℕ) (e : Extent) → IsLast list i e → end_from 0 (extents_in list) ≤ first → e.first + e.count ≢ first → end_from 0 (extents_in list) < first
last-apart list first i e here after apart = let end = last-end list i e here in omega (arith, end, after, apart)

pub last-none : (list : ExtentList) (last : Option ℕ) → last ≡ last_used list → last ≡ None → length (extents_in list) ≡ 0
last-none list last used is = ap (λ (cells : List Cell). length (extents cells)) (no-last (used_cells list) (sym used ∙ is))

-- a range that touches none is an extent of its own
pub pushed_on : (old new : ExtentList) (first count : ℕ) (last : Option ℕ) (i : ℕ) → IsExtentList old → last ≡ last_used old → (length (extents_in old) ≡ 0) ⊎ (end_from 0 (extents_in old) < first) → 0 < count → first + count ≤ 2 ^ 28
    → GainsSlot old new last i (record { first = first; count = count }) → IsAdded old new first count (Some i)
pushed_on old new first count last i ok is past some low gained =
    let e : Extent = record { first = first; count = count } in
    let used = used_cells old in
    let lists : AreLists old (used ++ []) (unused_cells old) = subst (λ (cells : List Cell). AreLists old cells (unused_cells old)) (sym (append-nil used)) ok.lists in
    added old new first count used i e (drop 1 (unused_cells old)) (gained used [] (unused_cells old) lists (sym is))
    (AreExtents-push (extents_in old) e ok.apart past some low)
    (frames_of-push (extents_in old) e) (omega arith)
