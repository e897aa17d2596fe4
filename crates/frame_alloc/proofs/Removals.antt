-- Taking a range away along the links: one turn of the loop, case by case.
use Rattle.std.proofs.Common.{◌≡◌, ℕ, ◌+◌, ◌-◌, ◌<◌, ◌≤◌, ◌⊎◌, inl, inr, List, [], ◌∷◌, ◌++◌, length, drop, get_or, Option, Some, None, refl, sym, ap, subst, ◌∙◌, arith, append_assoc}
use Rattle.frame_alloc.specs.declared.extents.Extent.{Extent}
use Rattle.frame_alloc.specs.declared.slots.Slot.{Slot}
use Rattle.frame_alloc.specs.declared.extent_list.ExtentList.{ExtentList}
use Rattle.frame_alloc.specs.Frames.{without}
use Rattle.frame_alloc.specs.Extents.{frames_of, AreExtentsFrom}
use Rattle.frame_alloc.specs.Slots.{slot_at, Cell, AreLinked, last_of, AreLists, used_cells, unused_cells, extents_in, IsExtentList, spare_of}
use Rattle.frame_alloc.specs.PrivateLinks.{LosesSlot, ChangesSlot, GainsSlot, IsUsed, IsAfter, IsUnchanged}
use Rattle.frame_alloc.proofs.Cuts.{pieces, high_piece, cut, cut-later, frames_of-cut, weaker, AreExtents-cons, AreExtents-cut, pieces-below, pieces-met, low_piece-some, low_piece-none, high_piece-some, high_piece-none}
use Rattle.frame_alloc.proofs.Linking.{last_of-append, first_of}
use Rattle.frame_alloc.proofs.Changes.{lists-found, lists-linked}
use Rattle.frame_alloc.proofs.Walks.{extents, extents-append, IsWalkedTo, IsAtSlot, walk-begins, walk-ended, walk-at, walk-ahead, slot-read, ahead}

-- one turn of a loop along the links: the extents before a place are done, and those from it on are still to be cut
pub record IsCutTo (first count : ℕ) (old now : ExtentList) (at : Option ℕ) : Type 0 where
  pub front : List Cell
  pub later : List Cell
  pub unused : List Cell
  pub walked : IsWalkedTo now at front later unused
  pub done : extents front ++ cut first count (extents later) ≡ cut first count (extents_in old)
  pub apart : AreExtentsFrom 0 (extents later)
  pub untouched : IsUnchanged old now ⊎ AreExtentsFrom first (extents later)
  pub spare : spare_of old ≤ spare_of now

pub cut-begins : (first count : ℕ) (list : ExtentList) → IsExtentList list → IsCutTo first count list list list.first
cut-begins first count list ok = record {
  front = [];
  later = used_cells list;
  unused = unused_cells list;
  walked = walk-begins list ok;
  done = refl;
  apart = ok.apart;
  untouched = inl (record { slots = refl; first = refl; unused = refl; unused_count = refl; capacity = refl });
  spare = omega arith;
}

-- what is left when a range was taken away
pub record IsRemoved (first count : ℕ) (old now : ExtentList) : Type 0 where
  pub frames : frames_of (extents_in now) ≡ without first count (frames_of (extents_in old))
  pub whole : IsExtentList now

removed-all : (first count : ℕ) (old now : ExtentList) (used unused : List Cell) → 0 < count → IsExtentList old → AreLists now used unused → extents used ≡ cut first count (extents_in old) → IsRemoved first count old now
removed-all first count old now used unused some whole lists is =
    let found : extents_in now ≡ cut first count (extents_in old) = ap extents (lists-found now used unused lists).0 ∙ is in
    record {
      frames = ap frames_of found ∙ frames_of-cut first count (extents_in old);
      whole = record {
        lists = lists-linked now used unused lists;
        apart = subst (AreExtentsFrom 0) (sym found) (AreExtents-cut first count 0 (extents_in old) some whole.apart);
      };
    }

-- the walk is at an end
pub cut-ends : (first count : ℕ) (old now : ExtentList) (at : Option ℕ) → 0 < count → IsExtentList old → IsCutTo first count old now at → at ≡ None → IsRemoved first count old now
cut-ends first count old now at some whole ok is =
    let none = walk-ended now at ok.front ok.later ok.unused ok.walked is in
    removed-all first count old now (ok.front ++ ok.later) ok.unused some whole ok.walked.lists
    (extents-append ok.front ok.later ∙ ap (λ (cells : List Cell). extents ok.front ++ extents cells) none
    ∙ sym (ap (λ (cells : List Cell). extents ok.front ++ cut first count (extents cells)) none) ∙ ok.done)

-- the slot that a turn reads
pub record IsCutAt (first count : ℕ) (old now : ExtentList) (at : Option ℕ) (i : ℕ) (slot : Slot) : Type 0 where
  pub front : List Cell
  pub rest : List Cell
  pub unused : List Cell
  pub lists : AreLists now (front ++ (i, slot.extent) ∷ rest) unused
  pub after : slot.after ≡ first_of rest
  pub done : extents front ++ cut first count (slot.extent ∷ extents rest) ≡ cut first count (extents_in old)
  pub apart : AreExtentsFrom 0 (slot.extent ∷ extents rest)
  pub untouched : IsUnchanged old now ⊎ AreExtentsFrom first (slot.extent ∷ extents rest)
  pub spare : spare_of old ≤ spare_of now
  pub left : ahead now at ≡ length rest + 1

pub cut-below : (first count : ℕ) (old now : ExtentList) (at : Option ℕ) (i : ℕ) → IsCutTo first count old now at → at ≡ Some i → i < length now.slots.items
cut-below first count old now at i ok is = (walk-at now at ok.front ok.later ok.unused i ok.walked is).below

pub cut-at : (first count : ℕ) (old now : ExtentList) (at : Option ℕ) (i : ℕ) (slot : Slot) → IsCutTo first count old now at → at ≡ Some i → slot ≡ get_or now.slots.items i slot → IsCutAt first count old now at i slot
cut-at first count old now at i slot ok is read = subst (λ (s : Slot). IsCutAt first count old now at i s) (sym same) turn
  where
    here : IsAtSlot now ok.front ok.later ok.unused i
    here = walk-at now at ok.front ok.later ok.unused i ok.walked is

    same : slot ≡ slot_at now.slots.items i
    same = slot-read now i slot here.below read

    turn : IsCutAt first count old now at i (slot_at now.slots.items i)
    turn =
        let left = walk-ahead now at ok.front ok.later ok.unused ok.walked in
        let longer : length ok.later ≡ length here.rest + 1 = ap length here.is ∙ omega arith in
        record {
          front = ok.front;
          rest = here.rest;
          unused = ok.unused;
          lists = here.lists;
          after = here.after;
          done = subst (λ (cells : List Cell). extents ok.front ++ cut first count (extents cells) ≡ cut first count (extents_in old)) here.is ok.done;
          apart = subst (λ (cells : List Cell). AreExtentsFrom 0 (extents cells)) here.is ok.apart;
          untouched = subst (λ (cells : List Cell). IsUnchanged old now ⊎ AreExtentsFrom first (extents cells)) here.is ok.untouched;
          spare = ok.spare;
          left = omega (arith, left, longer);
        }

-- where a turn leads
pub record IsCutOn (first count : ℕ) (old now : ExtentList) (at : Option ℕ) (new : ExtentList) (then : Option ℕ) : Type 0 where
  pub next : IsCutTo first count old new then
  pub less : ahead new then < ahead now at

-- some pieces of the extent are left in its place
moved-on : (first count : ℕ) (old now new : ExtentList) (at : Option ℕ) (i : ℕ) (slot : Slot) (ok : IsCutAt first count old now at i slot) (kept : List Cell) (unused : List Cell) → AreLists new (ok.front ++ (kept ++ ok.rest)) unused
    → pieces first count slot.extent ≡ extents kept → (IsUnchanged old new ⊎ AreExtentsFrom first (extents ok.rest)) → spare_of old ≤ spare_of new → IsCutOn first count old now at new slot.after
moved-on first count old now new at i slot ok kept unused lists is untouched spare =
    let e = slot.extent in
    let walked : IsWalkedTo new slot.after (ok.front ++ kept) ok.rest unused = record {
      lists = subst (λ (cells : List Cell). AreLists new cells unused) (sym (append_assoc ok.front kept ok.rest)) lists;
      starts = ok.after;
    } in
    let left_after = walk-ahead new slot.after (ok.front ++ kept) ok.rest unused walked in
    let left = ok.left in
    record {
      next = record {
        front = ok.front ++ kept;
        later = ok.rest;
        unused = unused;
        walked = walked;
        done =
            (ap (λ (es : List Extent). es ++ cut first count (extents ok.rest)) (extents-append ok.front kept)
            ∙ append_assoc (extents ok.front) (extents kept) (cut first count (extents ok.rest))
            ∙ ap (λ (es : List Extent). extents ok.front ++ (es ++ cut first count (extents ok.rest))) (sym is)
            ∙ ok.done);
        apart = AreExtents-cons e (extents ok.rest) 0 ok.apart;
        untouched = untouched;
        spare = spare;
      };
      less = omega (arith, left, left_after);
    }

-- what comes after an extent that ends past a frame begins past it
later-past : (first : ℕ) (e : Extent) (es : List Extent) → AreExtentsFrom 0 (e ∷ es) → first < e.first + e.count → AreExtentsFrom first es
later-past first e es apart past = weaker es first (e.first + e.count + 1) (omega arith) apart.3

-- the extent ends below the range
pub cut-before : (first count : ℕ) (old now : ExtentList) (at : Option ℕ) (i : ℕ) (slot : Slot) → IsCutAt first count old now at i slot → slot.extent.first + slot.extent.count ≤ first → IsCutOn first count old now at now slot.after
cut-before first count old now at i slot ok below =
    moved-on first count old now now at i slot ok ((i, slot.extent) ∷ []) ok.unused ok.lists (pieces-below first count slot.extent below) (further ok.untouched) ok.spare
  where
    further : IsUnchanged old now ⊎ AreExtentsFrom first (slot.extent ∷ extents ok.rest) → IsUnchanged old now ⊎ AreExtentsFrom first (extents ok.rest)
    further (inl same) = inl same
    further (inr from) = inr (weaker (extents ok.rest) first (slot.extent.first + slot.extent.count + 1) (let b : first ≤ slot.extent.first = from.0 in omega arith) from.3)

-- the extent begins below the range and ends in it
pub cut-low : (first count : ℕ) (old now new : ExtentList) (at : Option ℕ) (i : ℕ) (slot : Slot) (x : Extent) → IsCutAt first count old now at i slot → x ≡ record { first = slot.extent.first; count = first - slot.extent.first } → ChangesSlot now new i x → spare_of new ≡ spare_of now
    → slot.extent.first < first → first < slot.extent.first + slot.extent.count → slot.extent.first + slot.extent.count ≤ first + count → IsCutOn first count old now at new slot.after
cut-low first count old now new at i slot x ok is changed same begins past ends =
    let e = slot.extent in
    let spare = ok.spare in
    moved-on first count old now new at i slot ok ((i, x) ∷ []) ok.unused (changed ok.front ok.rest ok.unused e ok.lists)
    (pieces-met first count e past (omega arith)
    ∙ ap (λ (l : List Extent). l ++ high_piece (first + count) e) (low_piece-some first e begins)
    ∙ ap (λ (h : List Extent). record { first = e.first; count = first - e.first } ∷ h) (high_piece-none (first + count) e ends)
    ∙ ap (λ (y : Extent). y ∷ []) (sym is))
    (inr (later-past first e (extents ok.rest) ok.apart past)) (omega (arith, spare, same))

-- the extent lies in the range
pub cut-gone : (first count : ℕ) (old now new : ExtentList) (at : Option ℕ) (i : ℕ) (slot : Slot) → IsCutAt first count old now at i slot → LosesSlot now new i → spare_of new ≡ spare_of now + 1
    → first ≤ slot.extent.first → first < slot.extent.first + slot.extent.count → slot.extent.first < first + count → slot.extent.first + slot.extent.count ≤ first + count → IsCutOn first count old now at new slot.after
cut-gone first count old now new at i slot ok removed more begins past within ends =
    let e = slot.extent in
    let spare = ok.spare in
    moved-on first count old now new at i slot ok [] ((i, e) ∷ ok.unused) (removed ok.front ok.rest ok.unused e ok.lists)
    (pieces-met first count e past within
    ∙ ap (λ (l : List Extent). l ++ high_piece (first + count) e) (low_piece-none first e begins)
    ∙ high_piece-none (first + count) e ends)
    (inr (later-past first e (extents ok.rest) ok.apart past)) (omega (arith, spare, more))

-- the last pieces are in place, and what comes after them stays
cut-done : (first count : ℕ) (old now new : ExtentList) (at : Option ℕ) (i : ℕ) (slot : Slot) (ok : IsCutAt first count old now at i slot) (kept unused : List Cell) → 0 < count → IsExtentList old → AreLists new (ok.front ++ (kept ++ ok.rest)) unused
    → pieces first count slot.extent ≡ extents kept → first + count ≤ slot.extent.first + slot.extent.count + 1 → IsRemoved first count old new
cut-done first count old now new at i slot ok kept unused some whole lists is past =
    let e = slot.extent in
    let later : cut first count (extents ok.rest) ≡ extents ok.rest = cut-later first count (e.first + e.count + 1) (extents ok.rest) ok.apart.3 past in
    removed-all first count old new (ok.front ++ (kept ++ ok.rest)) unused some whole lists
    (extents-append ok.front (kept ++ ok.rest)
    ∙ ap (λ (es : List Extent). extents ok.front ++ es) (extents-append kept ok.rest)
    ∙ ap (λ (es : List Extent). extents ok.front ++ (extents kept ++ es)) (sym later)
    ∙ ap (λ (es : List Extent). extents ok.front ++ (es ++ cut first count (extents ok.rest))) (sym is)
    ∙ ok.done)

-- the extent begins past the range, and so do those after it
pub cut-past : (first count : ℕ) (old now : ExtentList) (at : Option ℕ) (i : ℕ) (slot : Slot) → 0 < count → IsExtentList old → IsCutAt first count old now at i slot → first + count ≤ slot.extent.first → IsRemoved first count old now
cut-past first count old now at i slot some whole ok past =
    let e = slot.extent in
    let all : AreExtentsFrom (first + count) (e ∷ extents ok.rest) = (past, ok.apart.1, ok.apart.2, ok.apart.3) in
    let later : cut first count (e ∷ extents ok.rest) ≡ e ∷ extents ok.rest = cut-later first count (first + count) (e ∷ extents ok.rest) all (omega arith) in
    removed-all first count old now (ok.front ++ (i, e) ∷ ok.rest) ok.unused some whole ok.lists
    (extents-append ok.front ((i, e) ∷ ok.rest) ∙ ap (λ (es : List Extent). extents ok.front ++ es) (sym later) ∙ ok.done)

-- the extent begins in the range and ends above it
pub cut-high : (first count : ℕ) (old now new : ExtentList) (at : Option ℕ) (i : ℕ) (slot : Slot) (x : Extent) → 0 < count → IsExtentList old → IsCutAt first count old now at i slot
    → x ≡ record { first = first + count; count = (slot.extent.first + slot.extent.count) - (first + count) } → ChangesSlot now new i x
    → first ≤ slot.extent.first → slot.extent.first < first + count → first + count < slot.extent.first + slot.extent.count → IsRemoved first count old new
cut-high first count old now new at i slot x some whole ok is changed begins within ends =
    let e = slot.extent in
    cut-done first count old now new at i slot ok ((i, x) ∷ []) ok.unused some whole (changed ok.front ok.rest ok.unused e ok.lists)
    (pieces-met first count e (omega arith) within
    ∙ ap (λ (l : List Extent). l ++ high_piece (first + count) e) (low_piece-none first e begins)
    ∙ high_piece-some (first + count) e ends
    ∙ ap (λ (y : Extent). y ∷ []) (sym is)) (omega arith)

-- the extent holds the range and more on both sides
pub cut-inside : (first count : ℕ) (old now mid new : ExtentList) (at : Option ℕ) (i j : ℕ) (slot : Slot) (x y : Extent) → 0 < count → IsExtentList old → IsCutAt first count old now at i slot
    → x ≡ record { first = slot.extent.first; count = first - slot.extent.first } → y ≡ record { first = first + count; count = (slot.extent.first + slot.extent.count) - (first + count) }
    → GainsSlot now mid (Some i) j y → ChangesSlot mid new i x
    → slot.extent.first < first → first + count < slot.extent.first + slot.extent.count → IsRemoved first count old new
cut-inside first count old now mid new at i j slot x y some whole ok is_low is_high gained changed begins ends =
    let e = slot.extent in
    let last : last_of None (ok.front ++ (i, e) ∷ []) ≡ Some i = last_of-append None ok.front ((i, e) ∷ []) in
    let lists : AreLists now ((ok.front ++ (i, e) ∷ []) ++ ok.rest) ok.unused = subst (λ (cells : List Cell). AreLists now cells ok.unused) (sym (append_assoc ok.front ((i, e) ∷ []) ok.rest)) ok.lists in
    let with_high : AreLists mid (ok.front ++ (i, e) ∷ (j, y) ∷ ok.rest) (drop 1 ok.unused) =
    subst (λ (cells : List Cell). AreLists mid cells (drop 1 ok.unused)) (append_assoc ok.front ((i, e) ∷ []) ((j, y) ∷ ok.rest)) (gained (ok.front ++ (i, e) ∷ []) ok.rest ok.unused lists last) in
    cut-done first count old now new at i slot ok ((i, x) ∷ (j, y) ∷ []) (drop 1 ok.unused) some whole (changed ok.front ((j, y) ∷ ok.rest) (drop 1 ok.unused) e with_high)
    (pieces-met first count e (omega arith) (omega arith)
    ∙ ap (λ (l : List Extent). l ++ high_piece (first + count) e) (low_piece-some first e begins)
    ∙ ap (λ (h : List Extent). record { first = e.first; count = first - e.first } ∷ h) (high_piece-some (first + count) e ends)
    ∙ ap (λ (l : Extent). l ∷ record { first = first + count; count = (e.first + e.count) - (first + count) } ∷ []) (sym is_low)
    ∙ ap (λ (h : Extent). x ∷ h ∷ []) (sym is_high)) (omega arith)

-- the slot stands among those that hold extents
pub cut-used : (first count : ℕ) (old now : ExtentList) (at : Option ℕ) (i : ℕ) (slot : Slot) → IsCutAt first count old now at i slot → IsUsed now i
cut-used first count old now at i slot ok = record { front = ok.front; extent = slot.extent; later = ok.rest; unused = ok.unused; lists = ok.lists }

pub cut-after : (first count : ℕ) (old now : ExtentList) (at : Option ℕ) (i : ℕ) (slot : Slot) → IsCutAt first count old now at i slot → IsAfter now (Some i)
cut-after first count old now at i slot ok = record {
  front = ok.front ++ (i, slot.extent) ∷ [];
  later = ok.rest;
  unused = ok.unused;
  lists = subst (λ (cells : List Cell). AreLists now cells ok.unused) (sym (append_assoc ok.front ((i, slot.extent) ∷ []) ok.rest)) ok.lists;
  last = last_of-append None ok.front ((i, slot.extent) ∷ []);
}

-- it also does so once an extent stands after it
pub cut-used_still : (first count : ℕ) (old now mid : ExtentList) (at : Option ℕ) (i j : ℕ) (slot : Slot) (y : Extent) → IsCutAt first count old now at i slot → GainsSlot now mid (Some i) j y → IsUsed mid i
cut-used_still first count old now mid at i j slot y ok gained =
    let lists : AreLists now ((ok.front ++ (i, slot.extent) ∷ []) ++ ok.rest) ok.unused = subst (λ (cells : List Cell). AreLists now cells ok.unused) (sym (append_assoc ok.front ((i, slot.extent) ∷ []) ok.rest)) ok.lists in
    record {
      front = ok.front;
      extent = slot.extent;
      later = (j, y) ∷ ok.rest;
      unused = drop 1 ok.unused;
      lists = subst (λ (cells : List Cell). AreLists mid cells (drop 1 ok.unused)) (append_assoc ok.front ((i, slot.extent) ∷ []) ((j, y) ∷ ok.rest)) (gained (ok.front ++ (i, slot.extent) ∷ []) ok.rest ok.unused lists (last_of-append None ok.front ((i, slot.extent) ∷ [])));
    }

-- where the extent begins below the range, nothing was changed before
pub cut-unchanged : (first count : ℕ) (old now mid : ExtentList) (at : Option ℕ) (i : ℕ) (slot : Slot) → IsCutAt first count old now at i slot → slot.extent.first < first → IsUnchanged now mid → IsUnchanged old mid
cut-unchanged first count old now mid at i slot ok begins same = by_untouched ok.untouched
  where
    by_untouched : IsUnchanged old now ⊎ AreExtentsFrom first (slot.extent ∷ extents ok.rest) → IsUnchanged old mid
    by_untouched (inr from) = let b : first ≤ slot.extent.first = from.0 in absurd (omega arith)
    by_untouched (inl is) = record {
      slots = same.slots ∙ is.slots;
      first = same.first ∙ is.first;
      unused = same.unused ∙ is.unused;
      unused_count = same.unused_count ∙ is.unused_count;
      capacity = same.capacity ∙ is.capacity;
    }

-- an unchanged list is whole
pub unchanged-whole : (old new : ExtentList) → IsUnchanged old new → IsExtentList old → IsExtentList new
unchanged-whole old new same ok =
    let used = used_cells old in
    let unused = unused_cells old in
    let lists : AreLists new used unused = record {
      linked = subst (λ (slots : List Slot). AreLinked slots None new.first used None) (sym same.slots) (subst (λ (o : Option ℕ). AreLinked old.slots.items None o used None) (sym same.first) ok.lists.linked);
      unused_linked = subst (λ (slots : List Slot). AreLinked slots None new.unused unused None) (sym same.slots) (subst (λ (o : Option ℕ). AreLinked old.slots.items None o unused None) (sym same.unused) ok.lists.unused_linked);
      once = λ i low. ok.lists.once i (subst (λ (slots : List Slot). i < length slots) same.slots low);
      all = ok.lists.all ∙ sym (ap length same.slots);
      unused_count = same.unused_count ∙ ok.lists.unused_count;
    } in
    record {
      lists = lists-linked new used unused lists;
      apart = subst (AreExtentsFrom 0) (sym (ap extents (lists-found new used unused lists).0)) ok.apart;
    }
