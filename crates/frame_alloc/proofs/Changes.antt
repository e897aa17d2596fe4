-- What each change of a list of extents makes of its two lists of slots.
use Rattle.std.proofs.Common.{◌≡◌, ◌≢◌, ℕ, ◌+◌, ◌<◌, ◌≤◌, ◌⊎◌, inl, inr, true, false, leb, List, [], ◌∷◌, ◌++◌, length, length-append, drop, set, Option, Some, None, refl, sym, ap, subst, ◌∙◌, arith}
use Rattle.std.specs.Prelude.{◌==◌, IfSome}
use Rattle.std.proofs.lemmas.Bool.Decides.{eqb_tells, leb_tells}
use Rattle.std.proofs.lemmas.List.{length-set, get_or_append_left}
use Rattle.frame_alloc.specs.declared.extents.Extent.{Extent}
use Rattle.frame_alloc.specs.declared.slots.Slot.{Slot}
use Rattle.frame_alloc.specs.declared.extent_list.ExtentList.{ExtentList}
use Rattle.frame_alloc.specs.Slots.{slot_at, Cell, AreLinked, times, last_of, AreLists, used_cells, unused_cells, IsLinkedList}
use Rattle.frame_alloc.specs.PrivateLinks.{joined_head, link_from, linked, unlinked, AreListsBut}
use Rattle.frame_alloc.proofs.Linking.{slot_at-set, times-append, times-here, times-other, linked-apart, linked-cut, linked-join, linked-in, linked-in_apart, links-at, unlinked-from, unlinked-apart, walk-linked, linked-past, length-linked, length-joined, first_of}

-- every slot that stands in a list is one of the vector
pub stands-below : (slots : List Slot) (before start next : Option ℕ) (cells : List Cell) (i : ℕ) → AreLinked slots before start cells next → 1 ≤ times i cells → i < length slots
stands-below slots before start next cells i ok stands = by_test (leb_tells (length slots) i)
  where
    by_test : ((leb (length slots) i ≡ true) × (length slots ≤ i)) ⊎ ((leb (length slots) i ≡ false) × (i < length slots)) → i < length slots
    by_test (inl h) = let none = linked-past slots before start next cells i ok h.1 in absurd (omega (arith, none, stands))
    by_test (inr h) = h.1

pub link-below : (link : Option ℕ) (n : ℕ) → ((i : ℕ) → link ≡ Some i → i < n) → IfSome link (λ i. i < n)
link-below None n each = tt
link-below (Some i) n each = each i refl

last-stands_in : (cells : List Cell) (i : ℕ) → last_of None cells ≡ Some i → 1 ≤ times i cells
last-stands_in [] i is = absurd cc
last-stands_in (cell ∷ cells) i is = from cell cells is
  where
    from : (cell : Cell) (cells : List Cell) → last_of (Some cell.0) cells ≡ Some i → 1 ≤ times i (cell ∷ cells)
    from cell [] is = let same : cell.0 ≡ i = cc in let here : times i (cell ∷ []) ≡ 1 + times i [] = subst (λ j. times j (cell ∷ []) ≡ 1 + times j []) same (times-here cell.0 cell.1 []) in omega (arith, here)
    from cell (next ∷ cells) is = let rest = from next cells is in omega (arith, rest)

first-stands_in : (cells : List Cell) (i : ℕ) → first_of cells ≡ Some i → 1 ≤ times i cells
first-stands_in [] i is = absurd cc
first-stands_in (cell ∷ cells) i is =
    let same : cell.0 ≡ i = cc in let here : times i (cell ∷ cells) ≡ 1 + times i cells = subst (λ j. times j (cell ∷ cells) ≡ 1 + times j cells) same (times-here cell.0 cell.1 cells) in omega (arith, here)

-- a slot stands in at most one of the two lists, and once
at_most_once : (list : ExtentList) (used unused : List Cell) → AreLists list used unused → (j : ℕ) → times j used + times j unused ≤ 1
at_most_once list used unused ok j = by_test (leb_tells (length list.slots.items) j)
  where
    by_test : ((leb (length list.slots.items) j ≡ true) × (length list.slots.items ≤ j)) ⊎ ((leb (length list.slots.items) j ≡ false) × (j < length list.slots.items)) → times j used + times j unused ≤ 1
    by_test (inl h) =
        let a = linked-past list.slots.items None list.first None used j ok.linked h.1 in
        let b = linked-past list.slots.items None list.unused None unused j ok.unused_linked h.1 in
        omega (arith, a, b)
    by_test (inr h) = let one = ok.once j h.1 in omega (arith, one)

-- also where one slot is apart
at_most_once_but : (list : ExtentList) (used unused : List Cell) (i : ℕ) → AreListsBut list used unused i → (j : ℕ) → times j used + times j unused ≤ 1
at_most_once_but list used unused i ok j = by_test (leb_tells (length list.slots.items) j) (eqb_tells j i)
  where
    by_test : ((leb (length list.slots.items) j ≡ true) × (length list.slots.items ≤ j)) ⊎ ((leb (length list.slots.items) j ≡ false) × (j < length list.slots.items)) → (((j == i) ≡ true) × (j ≡ i)) ⊎ (((j == i) ≡ false) × (j ≢ i)) → times j used + times j unused ≤ 1
    by_test (inl h) _ =
        let a = linked-past list.slots.items None list.first None used j ok.linked h.1 in
        let b = linked-past list.slots.items None list.unused None unused j ok.unused_linked h.1 in
        omega (arith, a, b)
    by_test (inr h) (inl k) = let none : times j used + times j unused ≡ 0 = subst (λ n. times n used + times n unused ≡ 0) (sym k.1) ok.apart in omega (arith, none)
    by_test (inr h) (inr k) = let one = ok.once j h.1 k.1 in omega (arith, one)

relabelled : (slots now : List Slot) (head head_now : Option ℕ) (cells : List Cell) → now ≡ slots → head_now ≡ head → AreLinked slots None head cells None → AreLinked now None head_now cells None
relabelled slots now head head_now cells is head_is ok = subst (λ (s : List Slot). AreLinked s None head_now cells None) (sym is) (subst (λ (h : Option ℕ). AreLinked slots None h cells None) (sym head_is) ok)

-- what a slot among those that hold extents links
pub used-links : (list : ExtentList) (front later unused : List Cell) (i : ℕ) (e : Extent) → AreLists list (front ++ (i, e) ∷ later) unused
    → (i < length list.slots.items) × IfSome (slot_at list.slots.items i).before (λ j. j < length list.slots.items) × IfSome (slot_at list.slots.items i).after (λ j. j < length list.slots.items)
used-links list front later unused i e ok =
    let slots = list.slots.items in
    let links = links-at slots list.first front later i e ok.linked in
    let below : (j : ℕ) → 1 ≤ times j front + times j later → j < length slots = λ j stands.
    let sum = times-append j front ((i, e) ∷ later) in
    stands-below slots None list.first None (front ++ (i, e) ∷ later) j ok.linked (omega (arith, sum, stands)) in (
      links.2,
      link-below _ (length slots) (λ j is. let s = last-stands_in front j (sym links.0 ∙ is) in below j (omega (arith, s))),
      link-below _ (length slots) (λ j is. let s = first-stands_in later j (sym links.1 ∙ is) in below j (omega (arith, s))),
    )

-- the slot after the last of some slots
pub place-links : (slots : List Slot) (head : Option ℕ) (front later : List Cell) → AreLinked slots None head (front ++ later) None
    → IfSome (last_of None front) (λ j. j < length slots) × IfSome (link_from slots head (last_of None front)) (λ j. j < length slots)
place-links slots head front later ok =
    let below : (j : ℕ) → 1 ≤ times j front + times j later → j < length slots = λ j stands.
    let sum = times-append j front later in
    stands-below slots None head None (front ++ later) j ok (omega (arith, sum, stands)) in (
      link-below _ (length slots) (λ j is. let s = last-stands_in front j is in below j (omega (arith, s))),
      link-below _ (length slots) (λ j is. let s = first-stands_in later j (sym (link_from-first slots head front later ok) ∙ is) in below j (omega (arith, s))),
    )
  where
    from : (slots : List Slot) (head before start middle : Option ℕ) (cell : Cell) (cells : List Cell) → AreLinked slots before start (cell ∷ cells) middle → link_from slots head (last_of (Some cell.0) cells) ≡ middle
    from slots head before start middle cell [] ok = ok.4
    from slots head before start middle cell (next ∷ cells) ok = from slots head (Some cell.0) (slot_at slots cell.0).after middle next cells ok.4

    begins : (slots : List Slot) (before start : Option ℕ) (cells : List Cell) → AreLinked slots before start cells None → start ≡ first_of cells
    begins slots before start [] ok = ok
    begins slots before start (cell ∷ cells) ok = ok.0

    link_from-first : (slots : List Slot) (head : Option ℕ) (front later : List Cell) → AreLinked slots None head (front ++ later) None → link_from slots head (last_of None front) ≡ first_of later
    link_from-first slots head [] later ok = begins slots None head later ok
    link_from-first slots head (cell ∷ cells) later ok =
        let parts = linked-cut slots None head None (cell ∷ cells) later ok in
        from slots head None head parts.0 cell cells parts.1 ∙ begins slots (last_of (Some cell.0) cells) parts.0 later parts.2

-- a slot that has another extent stays in its place
linked-changed : (slots : List Slot) (head : Option ℕ) (front later : List Cell) (i : ℕ) (e other : Extent) → times i front ≡ 0 → times i later ≡ 0 → AreLinked slots None head (front ++ (i, other) ∷ later) None
    → AreLinked (set slots i (record { extent = e; before = (slot_at slots i).before; after = (slot_at slots i).after })) None head (front ++ (i, e) ∷ later) None
linked-changed slots head front later i e other apart_front apart_later ok =
    let parts = linked-cut slots None head None front ((i, other) ∷ later) ok in
    let new : Slot = record { extent = e; before = (slot_at slots i).before; after = (slot_at slots i).after } in
    let now : slot_at (set slots i new) i ≡ new = slot_at-set slots i new parts.2.1 in
    let rest = linked-apart slots i new (Some i) (slot_at slots i).after None later apart_later parts.2.4 in
    linked-join (set slots i new) None head parts.0 None front ((i, e) ∷ later)
    (linked-apart slots i new None head parts.0 front apart_front parts.1) (
      parts.2.0,
      subst (λ n. i < n) (sym (length-set slots i new)) parts.2.1,
      ap (λ (s : Slot). s.before) now ∙ parts.2.2,
      ap (λ (s : Slot). s.extent) now,
      subst (λ (o : Option ℕ). AreLinked (set slots i new) (Some i) o later None) (sym (ap (λ (s : Slot). s.after) now)) rest,
    )

times-changed : (j i : ℕ) (e other : Extent) (front later : List Cell) → times j (front ++ (i, e) ∷ later) ≡ times j (front ++ (i, other) ∷ later)
times-changed j i e other front later = times-append j front ((i, e) ∷ later) ∙ sym (times-append j front ((i, other) ∷ later))

length-changed : (i : ℕ) (e other : Extent) (front later : List Cell) → length (front ++ (i, e) ∷ later) ≡ length (front ++ (i, other) ∷ later)
length-changed i e other front later = length-append front ((i, e) ∷ later) ∙ sym (length-append front ((i, other) ∷ later))

-- where a slot stands among those that hold extents, it stands nowhere else
once-here : (list : ExtentList) (front later unused : List Cell) (i : ℕ) (e : Extent) → AreLists list (front ++ (i, e) ∷ later) unused → times i front + times i later + times i unused ≡ 0
once-here list front later unused i e ok =
    let one = at_most_once list (front ++ (i, e) ∷ later) unused ok i in
    let sum = times-append i front ((i, e) ∷ later) in
    let here = times-here i e later in
    omega (arith, one, sum, here)

pub changed : (old new : ExtentList) (i : ℕ) (e : Extent) → new.slots.items ≡ set old.slots.items i (record { extent = e; before = (slot_at old.slots.items i).before; after = (slot_at old.slots.items i).after })
    → new.first ≡ old.first → new.unused ≡ old.unused → new.unused_count ≡ old.unused_count → (front later unused : List Cell) (other : Extent) → AreLists old (front ++ (i, other) ∷ later) unused → AreLists new (front ++ (i, e) ∷ later) unused
changed old new i e is first_is unused_is count_is front later unused other ok =
    let slots = old.slots.items in
    let slot : Slot = record { extent = e; before = (slot_at slots i).before; after = (slot_at slots i).after } in
    let none = once-here old front later unused i other ok in
    let len : length new.slots.items ≡ length slots = ap length is ∙ length-set slots i slot in
    record {
      linked = relabelled (set slots i slot) new.slots.items old.first new.first (front ++ (i, e) ∷ later) is first_is (linked-changed slots old.first front later i e other (omega (arith, none)) (omega (arith, none)) ok.linked);
      unused_linked = relabelled (set slots i slot) new.slots.items old.unused new.unused unused is unused_is (linked-apart slots i slot None old.unused None unused (omega (arith, none)) ok.unused_linked);
      once = λ j low. ap (λ n. n + times j unused) (times-changed j i e other front later) ∙ ok.once j (omega (arith, len, low));
      all = ap (λ n. n + length unused) (length-changed i e other front later) ∙ ok.all ∙ sym len;
      unused_count = count_is ∙ ok.unused_count;
    }

-- a slot goes to those that are not in use
pub removed : (old new : ExtentList) (i : ℕ) → new.slots.items ≡ linked (unlinked old.slots.items i) old.unused None i → new.first ≡ joined_head old.first (slot_at old.slots.items i).before (slot_at old.slots.items i).after
    → new.unused ≡ Some i → new.unused_count ≡ old.unused_count + 1 → (front later unused : List Cell) (e : Extent) → AreLists old (front ++ (i, e) ∷ later) unused → AreLists new (front ++ later) ((i, e) ∷ unused)
removed old new i is first_is unused_is count_is front later unused e ok =
    let slots = old.slots.items in
    let out = unlinked slots i in
    let first = joined_head old.first (slot_at slots i).before (slot_at slots i).after in
    let once = at_most_once old (front ++ (i, e) ∷ later) unused ok in
    let none = once-here old front later unused i e ok in
    let all_once : (j : ℕ) → times j front + times j later + times j unused ≤ 1 = λ j. let o = once j in let sum = times-append j front ((i, e) ∷ later) in omega (arith, o, sum) in
    let links = links-at slots old.first front later i e ok.linked in
    let len_out : length out ≡ length slots = length-joined slots (slot_at slots i).before (slot_at slots i).after in
    let len : length new.slots.items ≡ length slots = ap length is ∙ length-linked out old.unused None i ∙ len_out in
    let used_out = unlinked-from slots old.first front later i e ok.linked (λ j. let o = all_once j in omega (arith, o)) in
    let unused_out = unlinked-apart slots old.first None old.unused None front later unused i e ok.linked all_once ok.unused_linked in
    let one : List Cell = (i, e) ∷ [] in
    let itself : AreLinked slots (slot_at slots i).before (Some i) one (slot_at slots i).after = (refl, links.2, refl, links.3, refl) in
    let itself_out = unlinked-apart slots old.first (slot_at slots i).before (Some i) (slot_at slots i).after front later one i e ok.linked
    (λ j. let o = once j in let sum = times-append j front ((i, e) ∷ later) in omega (arith, o, sum)) itself in
    let sum_i = times-append i front later in
    let used_in = linked-in_apart out old.unused None first None [] unused (front ++ later) i unused_out
    (λ j. let o = all_once j in let sum = times-append j front later in omega (arith, o, sum)) (omega (arith, none, sum_i)) used_out in
    let unused_in = linked-in out old.unused [] unused i e unused_out (subst (λ n. i < n) (sym len_out) links.2) itself_out.3 (λ j. let o = all_once j in omega (arith, o)) (omega (arith, none)) in
    record {
      linked = relabelled (linked out old.unused None i) new.slots.items first new.first (front ++ later) is first_is used_in;
      unused_linked = relabelled (linked out old.unused None i) new.slots.items (Some i) new.unused ((i, e) ∷ unused) is unused_is unused_in;
      once = λ j low. let o = ok.once j (omega (arith, len, low)) in let sum = times-append j front ((i, e) ∷ later) in let sum_now = times-append j front later in omega (arith, o, sum, sum_now);
      all = (let a = ok.all in let l = length-append front ((i, e) ∷ later) in let m = length-append front later in omega (arith, a, l, m, len));
      unused_count = (let c = ok.unused_count in omega (arith, c, count_is));
    }

-- the first of the slots that are not in use
unused-first : (list : ExtentList) (used unused : List Cell) (i : ℕ) → AreLists list used unused → list.unused ≡ Some i → (e : Extent) × (rest : List Cell) × (unused ≡ (i, e) ∷ rest)
unused-first list used [] i ok is = let none : list.unused ≡ None = ok.unused_linked in absurd cc
unused-first list used (cell ∷ rest) i ok is =
    let first : list.unused ≡ Some cell.0 = ok.unused_linked.0 in
    let same : cell.0 ≡ i = let a : Some cell.0 ≡ Some i = sym first ∙ is in cc in
    (cell.1, rest, ap (λ j. (j, cell.1) ∷ rest) same)

unused-none : (list : ExtentList) (used unused : List Cell) → AreLists list used unused → list.unused ≡ None → unused ≡ []
unused-none list used [] ok is = refl
unused-none list used (cell ∷ rest) ok is = let first : list.unused ≡ Some cell.0 = ok.unused_linked.0 in absurd cc

-- a slot that is not in use is taken
pub taken : (old new : ExtentList) (i : ℕ) → old.unused ≡ Some i → new.slots.items ≡ unlinked old.slots.items i → new.first ≡ old.first
    → new.unused ≡ joined_head old.unused (slot_at old.slots.items i).before (slot_at old.slots.items i).after → new.unused_count + 1 ≡ old.unused_count
    → (used unused : List Cell) → AreLists old used unused → AreListsBut new used (drop 1 unused) i
taken old new i at is first_is unused_is count_is used unused ok = by_first (unused-first old used unused i ok at)
  where
    slots : List Slot
    slots = old.slots.items

    from : (e : Extent) (rest : List Cell) → AreLists old used ((i, e) ∷ rest) → AreListsBut new used rest i
    from e rest here =
        let once = at_most_once old used ((i, e) ∷ rest) here in
        let head_times = times-here i e rest in
        let once_i = once i in
        let links = links-at slots old.unused [] rest i e here.unused_linked in
        let len : length new.slots.items ≡ length slots = ap length is ∙ length-joined slots (slot_at slots i).before (slot_at slots i).after in
        let head = joined_head old.unused (slot_at slots i).before (slot_at slots i).after in
        record {
          linked = relabelled (unlinked slots i) new.slots.items old.first new.first used is first_is
              (unlinked-apart slots old.unused None old.first None [] rest used i e here.unused_linked (λ j. let o = once j in omega (arith, o)) here.linked);
          unused_linked = relabelled (unlinked slots i) new.slots.items head new.unused rest is unused_is
              (unlinked-from slots old.unused [] rest i e here.unused_linked (λ j. let o = once j in omega (arith, o)));
          there = subst (λ n. i < n) (sym len) links.2;
          apart = omega (arith, head_times, once_i);
          once = λ j low other. let o = here.once j (omega (arith, len, low)) in let gone = times-other j (i, e) rest (λ same. other (sym same)) in omega (arith, o, gone);
          all = (let a = here.all in omega (arith, a, len));
          unused_count = (let c = here.unused_count in omega (arith, c, count_is));
        }

    by_first : (e : Extent) × (rest : List Cell) × (unused ≡ (i, e) ∷ rest) → AreListsBut new used (drop 1 unused) i
    by_first first =
        subst (λ (cells : List Cell). AreListsBut new used (drop 1 cells) i) (sym first.2) (from first.0 first.1 (subst (λ (cells : List Cell). AreLists old used cells) first.2 ok))

-- a vector that has one slot more
linked-pushed : (slots : List Slot) (slot : Slot) (before start next : Option ℕ) (cells : List Cell) → AreLinked slots before start cells next → AreLinked (slots ++ slot ∷ []) before start cells next
linked-pushed slots slot before start next [] ok = ok
linked-pushed slots slot before start next (cell ∷ cells) ok =
    let same : slot_at (slots ++ slot ∷ []) cell.0 ≡ slot_at slots cell.0 = get_or_append_left slots (slot ∷ []) (record { extent = record { first = 0; count = 0 }; before = None; after = None }) cell.0 ok.1 in
    let len = length-append slots (slot ∷ []) in
    let low : cell.0 < length slots = ok.1 in
    let rest = linked-pushed slots slot (Some cell.0) (slot_at slots cell.0).after next cells ok.4 in (
      ok.0,
      omega (arith, len, low),
      ap (λ (s : Slot). s.before) same ∙ ok.2,
      ap (λ (s : Slot). s.extent) same ∙ ok.3,
      subst (λ (o : Option ℕ). AreLinked (slots ++ slot ∷ []) (Some cell.0) o cells next) (sym (ap (λ (s : Slot). s.after) same)) rest,
    )

-- a new slot
pub pushed : (old new : ExtentList) (slot : Slot) → old.unused ≡ None → new.slots.items ≡ old.slots.items ++ slot ∷ [] → new.first ≡ old.first → new.unused ≡ old.unused → new.unused_count ≡ old.unused_count
    → (used unused : List Cell) → AreLists old used unused → AreListsBut new used (drop 1 unused) (length old.slots.items)
pushed old new slot at is first_is unused_is count_is used unused ok =
    subst (λ (cells : List Cell). AreListsBut new used (drop 1 cells) (length old.slots.items)) (sym none) (from (subst (λ (cells : List Cell). AreLists old used cells) none ok))
  where
    none : unused ≡ []
    none = unused-none old used unused ok at

    from : AreLists old used [] → AreListsBut new used [] (length old.slots.items)
    from here =
        let slots = old.slots.items in
        let len : length new.slots.items ≡ length slots + 1 = ap length is ∙ length-append slots (slot ∷ []) in
        let past = linked-past slots None old.first None used (length slots) here.linked (omega arith) in
        record {
          linked = relabelled (slots ++ slot ∷ []) new.slots.items old.first new.first used is first_is (linked-pushed slots slot None old.first None used here.linked);
          unused_linked = unused_is ∙ at;
          there = omega (arith, len);
          apart = omega (arith, past);
          once = λ j low other. here.once j (omega (arith, len, low, other));
          all = (let a = here.all in omega (arith, a, len));
          unused_count = (let c = here.unused_count in omega (arith, c, count_is));
        }

-- a slot that stood in neither list stands among those that hold extents
pub put_in : (old new : ExtentList) (before : Option ℕ) (i : ℕ) (slot : Slot) → new.slots.items ≡ linked (set old.slots.items i slot) old.first before i → new.first ≡ joined_head old.first before (Some i)
    → new.unused ≡ old.unused → new.unused_count ≡ old.unused_count → (front later unused : List Cell) → AreListsBut old (front ++ later) unused i → last_of None front ≡ before
    → AreLists new (front ++ (i, slot.extent) ∷ later) unused
put_in old new before i slot is first_is unused_is count_is front later unused ok last =
    let slots = set old.slots.items i slot in
    let written : slot_at slots i ≡ slot = slot_at-set old.slots.items i slot ok.there in
    let sums : (j : ℕ) → times j (front ++ later) ≡ times j front + times j later = λ j. times-append j front later in
    let none = ok.apart in
    let sum_i = sums i in
    let once = at_most_once_but old (front ++ later) unused i ok in
    let len_set : length slots ≡ length old.slots.items = length-set old.slots.items i slot in
    let used_set = linked-apart old.slots.items i slot None old.first None (front ++ later) (omega (arith, none)) ok.linked in
    let unused_set = linked-apart old.slots.items i slot None old.unused None unused (omega (arith, none)) ok.unused_linked in
    let used_in = linked-in slots old.first front later i slot.extent used_set (subst (λ n. i < n) (sym len_set) ok.there) (ap (λ (s : Slot). s.extent) written)
    (λ j. let o = once j in let s = sums j in omega (arith, o, s)) (omega (arith, none, sum_i)) in
    let unused_in = linked-in_apart slots old.first None old.unused None front later unused i used_set
    (λ j. let o = once j in let s = sums j in omega (arith, o, s)) (omega (arith, none)) unused_set in
    let is_last : new.slots.items ≡ linked slots old.first (last_of None front) i = is ∙ ap (λ (o : Option ℕ). linked slots old.first o i) (sym last) in
    let first_last : new.first ≡ joined_head old.first (last_of None front) (Some i) = first_is ∙ ap (λ (o : Option ℕ). joined_head old.first o (Some i)) (sym last) in
    let len : length new.slots.items ≡ length old.slots.items = ap length is ∙ length-linked slots old.first before i ∙ len_set in
    record {
      linked = relabelled (linked slots old.first (last_of None front) i) new.slots.items (joined_head old.first (last_of None front) (Some i)) new.first (front ++ (i, slot.extent) ∷ later) is_last first_last used_in;
      unused_linked = relabelled (linked slots old.first (last_of None front) i) new.slots.items old.unused new.unused unused is_last unused_is unused_in;
      once = λ j low. counted j (eqb_tells i j) (omega (arith, len, low));
      all = (let a = ok.all in let l = length-append front ((i, slot.extent) ∷ later) in let m = length-append front later in omega (arith, a, l, m, len));
      unused_count = count_is ∙ ok.unused_count;
    }
  where
    counted : (j : ℕ) → (((i == j) ≡ true) × (i ≡ j)) ⊎ (((i == j) ≡ false) × (i ≢ j)) → j < length old.slots.items → times j (front ++ (i, slot.extent) ∷ later) + times j unused ≡ 1
    counted j (inl h) low =
        let s = times-append j front ((i, slot.extent) ∷ later) in
        let t = times-append j front later in
        let here : times j ((i, slot.extent) ∷ later) ≡ 1 + times j later = subst (λ k. times k ((i, slot.extent) ∷ later) ≡ 1 + times k later) h.1 (times-here i slot.extent later) in
        let none : times j (front ++ later) + times j unused ≡ 0 = subst (λ k. times k (front ++ later) + times k unused ≡ 0) h.1 ok.apart in
        omega (arith, s, t, here, none)
    counted j (inr h) low =
        let s = times-append j front ((i, slot.extent) ∷ later) in
        let t = times-append j front later in
        let gone = times-other j (i, slot.extent) later h.1 in
        let one = ok.once j low (λ same. h.1 (sym same)) in
        omega (arith, s, t, gone, one)

-- the lists are what the links lead through
pub lists-found : (list : ExtentList) (used unused : List Cell) → AreLists list used unused → (used_cells list ≡ used) × (unused_cells list ≡ unused)
lists-found list used unused ok =
    let all = ok.all in (
      walk-linked list.slots.items (length list.slots.items) None list.first used ok.linked (omega (arith, all)),
      walk-linked list.slots.items (length list.slots.items) None list.unused unused ok.unused_linked (omega (arith, all)),
    )

pub lists-linked : (list : ExtentList) (used unused : List Cell) → AreLists list used unused → IsLinkedList list
lists-linked list used unused ok =
    let found = lists-found list used unused ok in
    subst (λ (cells : List Cell). AreLists list cells (unused_cells list)) (sym found.0) (subst (λ (cells : List Cell). AreLists list used cells) (sym found.1) ok)

-- the first of the slots that are not in use, and what it links, are slots of the vector
pub unused-below : (list : ExtentList) (used unused : List Cell) → AreLists list used unused → IfSome list.unused (λ i. i < length list.slots.items)
unused-below list used unused ok = (place-links list.slots.items list.unused [] unused ok.unused_linked).1

pub unused-links : (list : ExtentList) (used unused : List Cell) (i : ℕ) → AreLists list used unused → list.unused ≡ Some i → IfSome (slot_at list.slots.items i).after (λ j. j < length list.slots.items)
unused-links list used unused i ok is =
    let first = unused-first list used unused i ok is in
    let slots = list.slots.items in
    let here : AreLinked slots None list.unused ((i, first.0) ∷ first.1) None = subst (λ (cells : List Cell). AreLinked slots None list.unused cells None) first.2 ok.unused_linked in
    (place-links slots list.unused ((i, first.0) ∷ []) first.1 here).1

pub unused-some : (list : ExtentList) (used unused : List Cell) (i : ℕ) → AreLists list used unused → list.unused ≡ Some i → 1 ≤ list.unused_count
unused-some list used unused i ok is =
    let first = unused-first list used unused i ok is in
    let len : length unused ≡ length first.1 + 1 = ap length first.2 ∙ omega arith in
    let count = ok.unused_count in
    omega (arith, len, count)
