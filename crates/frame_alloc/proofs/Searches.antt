-- The search along the links for the first free frame that passes a test.
use Rattle.std.proofs.Common.{◌≡◌, ℕ, ◌+◌, ◌<◌, ◌≤◌, Bool, true, false, List, ◌∷◌, [], ◌++◌, length, map, get_or, Option, Some, None, refl, sym, ap, subst, ◌∙◌, arith}
use Rattle.std.specs.Prelude.{nat_le}
use Rattle.std.specs.List.{find}
use Rattle.std.specs.Option.{option_or}
use Rattle.std.proofs.lemmas.List.Folds.{find-append}
use Rattle.texts.specs.Consecutive.{numbers, is_in}
use Rattle.texts.proofs.NumberLists.{find-map-numbers, find-map-numbers-none}
use Rattle.frame_alloc.specs.declared.extents.Extent.{Extent}
use Rattle.frame_alloc.specs.declared.slots.Slot.{Slot}
use Rattle.frame_alloc.specs.declared.extent_list.ExtentList.{ExtentList}
use Rattle.frame_alloc.specs.Frames.{begins_run}
use Rattle.frame_alloc.specs.Extents.{frames_of, AreExtentsFrom}
use Rattle.frame_alloc.specs.Slots.{slot_at, Cell, used_cells, unused_cells, extents_in, IsExtentList}
use Rattle.frame_alloc.proofs.Cuts.{AreExtents-cons}
use Rattle.frame_alloc.proofs.ExtentMembers.{IsFrom, is_in-past, free-in_extent}
use Rattle.frame_alloc.proofs.Walks.{extents, IsWalkedTo, IsAtSlot, walk-begins, walk-ended, walk-at, walk-on, walk-ahead, slot-read, ahead}

map_id : (xs : List ℕ) → map (λ x. x) xs ≡ xs
map_id [] = refl
map_id (x ∷ xs) = ap (λ ys. x ∷ ys) (map_id xs)

-- the frames before these extents do not pass
pub record IsSearchedTo (p : ℕ → Bool) (all : List ℕ) (es : List Extent) : Type 0 where
  pub found : find p (frames_of es) ≡ find p all
  pub same : (e : Extent) (rest : List Extent) → es ≡ e ∷ rest → IsFrom e.first all (e ∷ rest)
  pub apart : AreExtentsFrom 0 es

searched_none : (p : ℕ → Bool) (es : List Extent) → AreExtentsFrom 0 es → IsSearchedTo p (frames_of es) es
searched_none p es ok = record {
  found = refl;
  same = λ e rest is x low. ap (λ (l : List Extent). is_in (frames_of l) x) is;
  apart = ok;
}

-- the first frame of an extent that passes is found
searched_found : (p : ℕ → Bool) (m : ℕ) (all : List ℕ) (e : Extent) (es : List Extent) → IsSearchedTo p all (e ∷ es) → e.first ≤ m → m < e.first + e.count → p m ≡ true → ((k : ℕ) → e.first ≤ k → k < m → p k ≡ false) → find p all ≡ Some m
searched_found p m all e es ok low high pass before =
    sym ok.found
    ∙ find-append p (numbers e.first e.count) (frames_of es)
    ∙ ap (λ (o : Option ℕ). option_or o (find p (frames_of es))) here
  where
    here : find p (numbers e.first e.count) ≡ Some m
    here = ap (find p) (sym (map_id (numbers e.first e.count))) ∙ find-map-numbers p (λ x. x) e.first e.count m low high pass before

-- an extent of which no frame passes is passed by
searched_past : (p : ℕ → Bool) (all : List ℕ) (e : Extent) (es : List Extent) → IsSearchedTo p all (e ∷ es) → ((k : ℕ) → e.first ≤ k → k < e.first + e.count → p k ≡ false) → IsSearchedTo p all es
searched_past p all e es ok none = record {
  found =
      sym (find-append p (numbers e.first e.count) (frames_of es)
      ∙ ap (λ (o : Option ℕ). option_or o (find p (frames_of es))) here)
      ∙ ok.found;
  same = λ next rest is x from.
      let begins : AreExtentsFrom (e.first + e.count + 1) (next ∷ rest) = subst (AreExtentsFrom (e.first + e.count + 1)) is ok.apart.3 in
      let after : e.first + e.count + 1 ≤ next.first = begins.0 in
      ok.same e es refl x (omega arith) ∙ is_in-past e es 0 x ok.apart (omega arith) ∙ ap (λ (l : List Extent). is_in (frames_of l) x) is;
  apart = AreExtents-cons e es 0 ok.apart;
}
  where
    here : find p (numbers e.first e.count) ≡ None
    here = ap (find p) (sym (map_id (numbers e.first e.count))) ∙ find-map-numbers-none p (λ x. x) e.first e.count none

-- one turn of a search: the frames before a place do not pass
pub record IsSearchedAt (p : ℕ → Bool) (list : ExtentList) (at : Option ℕ) : Type 0 where
  pub front : List Cell
  pub later : List Cell
  pub walked : IsWalkedTo list at front later (unused_cells list)
  pub searched : IsSearchedTo p (frames_of (extents_in list)) (extents later)

pub search-begins : (p : ℕ → Bool) (list : ExtentList) → IsExtentList list → IsSearchedAt p list list.first
search-begins p list ok = record {
  front = [];
  later = used_cells list;
  walked = walk-begins list ok;
  searched = searched_none p (extents_in list) ok.apart;
}

-- what one turn tells of the slot that it reads: its extent, the runs that begin in it, and what its frames mean for the search
pub record IsSearchTurn (p : ℕ → Bool) (list : ExtentList) (at : Option ℕ) (slot : Slot) : Type 0 where
  pub extent : AreExtentsFrom 0 (slot.extent ∷ [])
  pub runs : (count k : ℕ) → slot.extent.first ≤ k → k < slot.extent.first + slot.extent.count → begins_run count (frames_of (extents_in list)) k ≡ nat_le (k + count) (slot.extent.first + slot.extent.count)
  pub found : (m : ℕ) → slot.extent.first ≤ m → m < slot.extent.first + slot.extent.count → p m ≡ true → ((k : ℕ) → slot.extent.first ≤ k → k < m → p k ≡ false) → find p (frames_of (extents_in list)) ≡ Some m
  pub next : ((k : ℕ) → slot.extent.first ≤ k → k < slot.extent.first + slot.extent.count → p k ≡ false) → IsSearchedAt p list slot.after
  pub less : ahead list slot.after < ahead list at

pub search-below : (p : ℕ → Bool) (list : ExtentList) (at : Option ℕ) (i : ℕ) → IsSearchedAt p list at → at ≡ Some i → i < length list.slots.items
search-below p list at i ok is = (walk-at list at ok.front ok.later (unused_cells list) i ok.walked is).below

pub search-turn : (p : ℕ → Bool) (list : ExtentList) (at : Option ℕ) (i : ℕ) (slot : Slot) → IsSearchedAt p list at → at ≡ Some i → slot ≡ get_or list.slots.items i slot → IsSearchTurn p list at slot
search-turn p list at i slot ok is read = subst (λ (s : Slot). IsSearchTurn p list at s) (sym same) turn
  where
    here : IsAtSlot list ok.front ok.later (unused_cells list) i
    here = walk-at list at ok.front ok.later (unused_cells list) i ok.walked is

    there : Slot
    there = slot_at list.slots.items i

    same : slot ≡ there
    same = slot-read list i slot here.below read

    searched : IsSearchedTo p (frames_of (extents_in list)) (there.extent ∷ extents here.rest)
    searched = subst (λ (cells : List Cell). IsSearchedTo p (frames_of (extents_in list)) (extents cells)) here.is ok.searched

    turn : IsSearchTurn p list at there
    turn =
        let on = walk-on list ok.front ok.later (unused_cells list) i here in
        let left = walk-ahead list at ok.front ok.later (unused_cells list) ok.walked in
        let left_after = walk-ahead list there.after (ok.front ++ (i, there.extent) ∷ []) here.rest (unused_cells list) on in
        let longer : length ok.later ≡ length here.rest + 1 = ap length here.is ∙ omega arith in
        let apart = searched.apart in
        record {
          extent = (apart.0, apart.1, apart.2, tt);
          runs = λ count k low high. free-in_extent count (frames_of (extents_in list)) there.extent (extents here.rest) 0 k apart (searched.same there.extent (extents here.rest) refl) low high;
          found = λ m low high pass before. searched_found p m (frames_of (extents_in list)) there.extent (extents here.rest) searched low high pass before;
          next = λ none. record {
            front = ok.front ++ (i, there.extent) ∷ [];
            later = here.rest;
            walked = on;
            searched = searched_past p (frames_of (extents_in list)) there.extent (extents here.rest) searched none;
          };
          less = omega (arith, left, left_after, longer);
        }

-- at the end nothing is found
pub search-ends : (p : ℕ → Bool) (list : ExtentList) (at : Option ℕ) → IsSearchedAt p list at → at ≡ None → find p (frames_of (extents_in list)) ≡ None
search-ends p list at ok is =
    let none : IsSearchedTo p (frames_of (extents_in list)) [] = subst (λ (cells : List Cell). IsSearchedTo p (frames_of (extents_in list)) (extents cells)) (walk-ended list at ok.front ok.later (unused_cells list) ok.walked is) ok.searched in
    sym none.found
