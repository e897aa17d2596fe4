-- Lists that are linked by index: what a change of links makes of them.
use Rattle.std.proofs.Common.{◌≡◌, ◌≢◌, ℕ, zero, suc, ◌+◌, ◌<◌, ◌≤◌, ◌⊎◌, inl, inr, true, false, List, [], ◌∷◌, ◌++◌, length, set, Option, Some, None, refl, sym, ap, subst, ◌∙◌, arith, append_assoc}
use Rattle.std.specs.Prelude.{◌==◌, if◌then◌else◌}
use Rattle.std.proofs.lemmas.Bool.Decides.{eqb_tells}
use Rattle.std.proofs.lemmas.List.{get_or-set_same, get_or-set_other, length-set}
use Rattle.frame_alloc.specs.declared.extents.Extent.{Extent}
use Rattle.frame_alloc.specs.declared.slots.Slot.{Slot}
use Rattle.frame_alloc.specs.Slots.{slot_at, Cell, walk, AreLinked, times, last_of}
use Rattle.frame_alloc.specs.PrivateLinks.{with_after, with_before, joined, joined_head, link_from, linked, unlinked}

-- a slot that was written
pub slot_at-set : (slots : List Slot) (i : ℕ) (slot : Slot) → i < length slots → slot_at (set slots i slot) i ≡ slot
slot_at-set slots i slot low = get_or-set_same slots i slot (record { extent = record { first = 0; count = 0 }; before = None; after = None }) low

-- another slot
pub slot_at-other : (slots : List Slot) (i j : ℕ) (slot : Slot) → j ≢ i → slot_at (set slots i slot) j ≡ slot_at slots j
slot_at-other slots i j slot apart = get_or-set_other slots i j slot (record { extent = record { first = 0; count = 0 }; before = None; after = None }) apart

-- how often a slot stands in a list
pub times-append : (i : ℕ) (xs ys : List Cell) → times i (xs ++ ys) ≡ times i xs + times i ys
times-append i [] ys = omega arith
times-append i (x ∷ xs) ys = let rest = times-append i xs ys in omega (arith, rest)

pub times-here : (i : ℕ) (e : Extent) (cells : List Cell) → times i ((i, e) ∷ cells) ≡ 1 + times i cells
times-here i e cells = by_test (eqb_tells i i)
  where
    by_test : (((i == i) ≡ true) × (i ≡ i)) ⊎ (((i == i) ≡ false) × (i ≢ i)) → (if i == i then 1 else 0) + times i cells ≡ 1 + times i cells
    by_test (inl h) = rw h.0 refl
    by_test (inr h) = absurd (h.1 refl)

pub times-other : (i : ℕ) (cell : Cell) (cells : List Cell) → cell.0 ≢ i → times i (cell ∷ cells) ≡ times i cells
times-other i cell cells apart = by_test (eqb_tells cell.0 i)
  where
    by_test : (((cell.0 == i) ≡ true) × (cell.0 ≡ i)) ⊎ (((cell.0 == i) ≡ false) × (cell.0 ≢ i)) → (if cell.0 == i then 1 else 0) + times i cells ≡ times i cells
    by_test (inl h) = absurd (apart h.1)
    by_test (inr h) = rw h.0 (omega arith)

-- a slot that does not stand in a list is not its first, and not among the others
pub apart-first : (i : ℕ) (cell : Cell) (cells : List Cell) → times i (cell ∷ cells) ≡ 0 → cell.0 ≢ i
apart-first i cell cells none same =
    let here : times i (cell ∷ cells) ≡ 1 + times i cells = subst (λ j. times j (cell ∷ cells) ≡ 1 + times j cells) same (times-here cell.0 cell.1 cells) in
    absurd (omega arith)

pub apart-rest : (i : ℕ) (cell : Cell) (cells : List Cell) → times i (cell ∷ cells) ≡ 0 → times i cells ≡ 0
apart-rest i cell cells none = omega arith

-- the last slot of a list stands in it
pub last-stands : (cell : Cell) (cells : List Cell) (i : ℕ) → last_of (Some cell.0) cells ≡ Some i → 1 ≤ times i (cell ∷ cells)
last-stands cell [] i is =
    let same : cell.0 ≡ i = cc in
    let here : times i (cell ∷ []) ≡ 1 + times i [] = subst (λ j. times j (cell ∷ []) ≡ 1 + times j []) same (times-here cell.0 cell.1 []) in
    omega arith
last-stands cell (next ∷ cells) i is =
    let rest = last-stands next cells i is in
    omega (arith, rest)

-- a write to a slot leaves a list that it does not stand in
pub linked-apart : (slots : List Slot) (i : ℕ) (slot : Slot) (before start next : Option ℕ) (cells : List Cell) → times i cells ≡ 0 → AreLinked slots before start cells next → AreLinked (set slots i slot) before start cells next
linked-apart slots i slot before start next [] none ok = ok
linked-apart slots i slot before start next (cell ∷ cells) none ok =
    let same : slot_at (set slots i slot) cell.0 ≡ slot_at slots cell.0 = slot_at-other slots i cell.0 slot (apart-first i cell cells none) in
    let rest = linked-apart slots i slot (Some cell.0) (slot_at slots cell.0).after next cells (apart-rest i cell cells none) ok.4 in (
      ok.0,
      subst (λ n. cell.0 < n) (sym (length-set slots i slot)) ok.1,
      ap (λ (s : Slot). s.before) same ∙ ok.2,
      ap (λ (s : Slot). s.extent) same ∙ ok.3,
      subst (λ (o : Option ℕ). AreLinked (set slots i slot) (Some cell.0) o cells next) (sym (ap (λ (s : Slot). s.after) same)) rest,
    )

-- a linked list is two, with a link between them
pub linked-cut : (slots : List Slot) (before start next : Option ℕ) (xs ys : List Cell) → AreLinked slots before start (xs ++ ys) next
    → (middle : Option ℕ) × AreLinked slots before start xs middle × AreLinked slots (last_of before xs) middle ys next
linked-cut slots before start next [] ys ok = (start, refl, ok)
linked-cut slots before start next (x ∷ xs) ys ok =
    let rest = linked-cut slots (Some x.0) (slot_at slots x.0).after next xs ys ok.4 in
    (rest.0, (ok.0, ok.1, ok.2, ok.3, rest.1), rest.2)

-- and two with a link between them are one
pub linked-join : (slots : List Slot) (before start middle next : Option ℕ) (xs ys : List Cell) → AreLinked slots before start xs middle
    → AreLinked slots (last_of before xs) middle ys next → AreLinked slots before start (xs ++ ys) next
linked-join slots before start middle next [] ys first second = subst (λ (o : Option ℕ). AreLinked slots before o ys next) (sym first) second
linked-join slots before start middle next (x ∷ xs) ys first second =
    (first.0, first.1, first.2, first.3, linked-join slots (Some x.0) (slot_at slots x.0).after middle next xs ys first.4 second)

-- the last of some slots links another one after it
pub linked-last : (slots : List Slot) (before start next to : Option ℕ) (cell : Cell) (cells : List Cell) (i : ℕ) → last_of (Some cell.0) cells ≡ Some i
    → times i (cell ∷ cells) ≤ 1 → AreLinked slots before start (cell ∷ cells) next → AreLinked (with_after slots (Some i) to) before start (cell ∷ cells) to
linked-last slots before start next to cell [] i is once ok =
    let same : i ≡ cell.0 = cc in
    let there : i < length slots = subst (λ j. j < length slots) (sym same) ok.1 in
    let new : Slot = record { extent = (slot_at slots i).extent; before = (slot_at slots i).before; after = to } in
    let now : slot_at (set slots i new) cell.0 ≡ new = ap (slot_at (set slots i new)) (sym same) ∙ slot_at-set slots i new there in
    let old : slot_at slots i ≡ slot_at slots cell.0 = ap (slot_at slots) same in (
      ok.0,
      subst (λ n. cell.0 < n) (sym (length-set slots i new)) ok.1,
      ap (λ (s : Slot). s.before) now ∙ ap (λ (s : Slot). s.before) old ∙ ok.2,
      ap (λ (s : Slot). s.extent) now ∙ ap (λ (s : Slot). s.extent) old ∙ ok.3,
      ap (λ (s : Slot). s.after) now,
    )
linked-last slots before start next to cell (other ∷ cells) i is once ok =
    let stands = last-stands other cells i is in
    let apart : cell.0 ≢ i = λ same.
    let here : times i (cell ∷ other ∷ cells) ≡ 1 + times i (other ∷ cells) = subst (λ j. times j (cell ∷ other ∷ cells) ≡ 1 + times j (other ∷ cells)) same (times-here cell.0 cell.1 (other ∷ cells)) in
    absurd (omega (arith, stands, once, here)) in
    let new : Slot = record { extent = (slot_at slots i).extent; before = (slot_at slots i).before; after = to } in
    let same : slot_at (set slots i new) cell.0 ≡ slot_at slots cell.0 = slot_at-other slots i cell.0 new apart in
    let rest = linked-last slots (Some cell.0) (slot_at slots cell.0).after next to other cells i is (omega (arith, once)) ok.4 in (
      ok.0,
      subst (λ n. cell.0 < n) (sym (length-set slots i new)) ok.1,
      ap (λ (s : Slot). s.before) same ∙ ok.2,
      ap (λ (s : Slot). s.extent) same ∙ ok.3,
      subst (λ (o : Option ℕ). AreLinked (set slots i new) (Some cell.0) o (other ∷ cells) to) (sym (ap (λ (s : Slot). s.after) same)) rest,
    )

-- the first of some slots links another one before it
pub linked-first : (slots : List Slot) (before start next to : Option ℕ) (cell : Cell) (cells : List Cell) (i : ℕ) → start ≡ Some i
    → times i (cell ∷ cells) ≤ 1 → AreLinked slots before start (cell ∷ cells) next → AreLinked (with_before slots (Some i) to) to start (cell ∷ cells) next
linked-first slots before start next to cell cells i is once ok =
    let same : i ≡ cell.0 = let a : Some i ≡ Some cell.0 = sym is ∙ ok.0 in cc in
    let there : i < length slots = subst (λ j. j < length slots) (sym same) ok.1 in
    let new : Slot = record { extent = (slot_at slots i).extent; before = to; after = (slot_at slots i).after } in
    let now : slot_at (set slots i new) cell.0 ≡ new = ap (slot_at (set slots i new)) (sym same) ∙ slot_at-set slots i new there in
    let old : slot_at slots i ≡ slot_at slots cell.0 = ap (slot_at slots) same in
    let here : times i (cell ∷ cells) ≡ 1 + times i cells = subst (λ j. times j (cell ∷ cells) ≡ 1 + times j cells) (sym same) (times-here cell.0 cell.1 cells) in
    let rest = linked-apart slots i new (Some cell.0) (slot_at slots cell.0).after next cells (omega (arith, once, here)) ok.4 in (
      ok.0,
      subst (λ n. cell.0 < n) (sym (length-set slots i new)) ok.1,
      ap (λ (s : Slot). s.before) now,
      ap (λ (s : Slot). s.extent) now ∙ ap (λ (s : Slot). s.extent) old ∙ ok.3,
      subst (λ (o : Option ℕ). AreLinked (set slots i new) (Some cell.0) o cells next) (sym (ap (λ (s : Slot). s.after) now ∙ ap (λ (s : Slot). s.after) old)) rest,
    )

-- the first of some slots
abbrev pub first_of : List Cell → Option ℕ
first_of [] = None
first_of (cell ∷ cells) = Some cell.0

-- a slot that a link names does not stand in a list
abbrev pub IsApart : Option ℕ → List Cell → Type 0
IsApart link cells = (i : ℕ) → link ≡ Some i → times i cells ≡ 0

after-apart : (slots : List Slot) (link to before start next : Option ℕ) (cells : List Cell) → IsApart link cells → AreLinked slots before start cells next → AreLinked (with_after slots link to) before start cells next
after-apart slots None to before start next cells apart ok = ok
after-apart slots (Some i) to before start next cells apart ok = linked-apart slots i _ before start next cells (apart i refl) ok

before-apart : (slots : List Slot) (link to before start next : Option ℕ) (cells : List Cell) → IsApart link cells → AreLinked slots before start cells next → AreLinked (with_before slots link to) before start cells next
before-apart slots None to before start next cells apart ok = ok
before-apart slots (Some i) to before start next cells apart ok = linked-apart slots i _ before start next cells (apart i refl) ok

-- lists that neither slot stands in stay
pub joined-apart : (slots : List Slot) (one two before start next : Option ℕ) (cells : List Cell) → IsApart one cells → IsApart two cells → AreLinked slots before start cells next → AreLinked (joined slots one two) before start cells next
joined-apart slots one two before start next cells apart_one apart_two ok =
    before-apart (with_after slots one two) two one before start next cells apart_two (after-apart slots one two before start next cells apart_one ok)

length-after : (slots : List Slot) (link to : Option ℕ) → length (with_after slots link to) ≡ length slots
length-after slots None to = refl
length-after slots (Some i) to = length-set slots i _

length-before : (slots : List Slot) (link to : Option ℕ) → length (with_before slots link to) ≡ length slots
length-before slots None to = refl
length-before slots (Some i) to = length-set slots i _

pub length-joined : (slots : List Slot) (one two : Option ℕ) → length (joined slots one two) ≡ length slots
length-joined slots one two = length-before (with_after slots one two) two one ∙ length-after slots one two

pub length-linked : (slots : List Slot) (head before : Option ℕ) (i : ℕ) → length (linked slots head before i) ≡ length slots
length-linked slots head before i = length-joined (joined slots before (Some i)) (Some i) (link_from slots head before) ∙ length-joined slots before (Some i)

-- what stands before a list is not among its slots unless it is empty
last-in : (cells : List Cell) (i : ℕ) → last_of None cells ≡ Some i → 1 ≤ times i cells
last-in [] i is = absurd cc
last-in (cell ∷ cells) i is = last-stands cell cells i is

first-in : (cells : List Cell) (i : ℕ) → first_of cells ≡ Some i → 1 ≤ times i cells
first-in [] i is = absurd cc
first-in (cell ∷ cells) i is =
    let same : cell.0 ≡ i = cc in
    let here : times i (cell ∷ cells) ≡ 1 + times i cells = subst (λ j. times j (cell ∷ cells) ≡ 1 + times j cells) same (times-here cell.0 cell.1 cells) in
    omega arith

-- the last of some slots is one
some_last : (before : Option ℕ) (cells : List Cell) (j : ℕ) → before ≡ Some j → last_of before cells ≡ None → ⊥
some_last before [] j is none = cc
some_last before (c ∷ cs) j is none = some_last (Some c.0) cs c.0 refl none

-- the front of a list links another slot after its last one
relinked-front : (slots : List Slot) (head middle to : Option ℕ) (front : List Cell) → ((i : ℕ) → times i front ≤ 1) → AreLinked slots None head front middle
    → AreLinked (with_after slots (last_of None front) to) None (joined_head head (last_of None front) to) front to
relinked-front slots head middle to [] once ok = refl
relinked-front slots head middle to (cell ∷ cells) once ok = by_last (last_of (Some cell.0) cells) refl
  where
    by_last : (last : Option ℕ) → last_of (Some cell.0) cells ≡ last → AreLinked (with_after slots last to) None (joined_head head last to) (cell ∷ cells) to
    by_last None is = absurd (some_last (Some cell.0) cells cell.0 refl is)
    by_last (Some i) is = linked-last slots None head middle to cell cells i is (once i) ok

-- the rest of a list links another slot before its first one
relinked-later : (slots : List Slot) (before start next to : Option ℕ) (later : List Cell) → start ≡ first_of later → ((i : ℕ) → times i later ≤ 1) → AreLinked slots before start later next
    → AreLinked (with_before slots start to) to start later next
relinked-later slots before start next to [] is once ok = ok
relinked-later slots before start next to (cell ∷ cells) is once ok =
    subst (λ (o : Option ℕ). AreLinked (with_before slots o to) to start (cell ∷ cells) next) (sym is)
    (linked-first slots before start next to cell cells cell.0 is (once cell.0) ok)

-- two lists become one where the last slot of the one and the first of the other are linked to each other
pub joined-lists : (slots : List Slot) (head middle before start next : Option ℕ) (front later : List Cell) → ((i : ℕ) → times i front + times i later ≤ 1) → start ≡ first_of later
    → AreLinked slots None head front middle → AreLinked slots before start later next
    → AreLinked (joined slots (last_of None front) start) None (joined_head head (last_of None front) start) (front ++ later) next
joined-lists slots head middle before start next front later once starts first second =
    let last = last_of None front in
    let now = with_after slots last start in
    let front_linked = relinked-front slots head middle start front (λ i. let o = once i in omega arith) first in
    let later_kept = after-apart slots last start before start next later (λ i is. let o = once i in let there = last-in front i is in omega arith) second in
    let later_linked = relinked-later now before start next last later starts (λ i. let o = once i in omega arith) later_kept in
    let front_kept = before-apart now start last None (joined_head head last start) start front (λ i is. let o = once i in let there = first-in later i (sym starts ∙ is) in omega arith) front_linked in
    linked-join (joined slots last start) None (joined_head head last start) start next front later front_kept later_linked

-- where a list begins
pub starts-with : (slots : List Slot) (before start : Option ℕ) (cells : List Cell) → AreLinked slots before start cells None → start ≡ first_of cells
starts-with slots before start [] ok = ok
starts-with slots before start (cell ∷ cells) ok = ok.0

-- what the last slot of a list links
link_from-last : (slots : List Slot) (head middle : Option ℕ) (cells : List Cell) → AreLinked slots None head cells middle → link_from slots head (last_of None cells) ≡ middle
link_from-last slots head middle [] ok = ok
link_from-last slots head middle (cell ∷ cells) ok = from slots head None head middle cell cells ok
  where
    from : (slots : List Slot) (head before start middle : Option ℕ) (cell : Cell) (cells : List Cell) → AreLinked slots before start (cell ∷ cells) middle → link_from slots head (last_of (Some cell.0) cells) ≡ middle
    from slots head before start middle cell [] ok = ok.4
    from slots head before start middle cell (next ∷ cells) ok = from slots head (Some cell.0) (slot_at slots cell.0).after middle next cells ok.4

pub last_of-append : (before : Option ℕ) (xs ys : List Cell) → last_of before (xs ++ ys) ≡ last_of (last_of before xs) ys
last_of-append before [] ys = refl
last_of-append before (x ∷ xs) ys = last_of-append (Some x.0) xs ys

-- a slot that stands in no list comes into one
pub linked-in : (slots : List Slot) (head : Option ℕ) (front later : List Cell) (i : ℕ) (e : Extent) → AreLinked slots None head (front ++ later) None → i < length slots → (slot_at slots i).extent ≡ e
    → ((j : ℕ) → times j front + times j later ≤ 1) → times i front + times i later ≡ 0
    → AreLinked (linked slots head (last_of None front) i) None (joined_head head (last_of None front) (Some i)) (front ++ (i, e) ∷ later) None
linked-in slots head front later i e ok there is once apart =
    let parts = linked-cut slots None head None front later ok in
    let middle = parts.0 in
    let last = last_of None front in
    let now = joined slots last (Some i) in
    let head_now = joined_head head last (Some i) in
    let one : List Cell = (i, e) ∷ [] in
    let once_one : (j : ℕ) → times j front + times j one ≤ 1 = λ j. at_most j (eqb_tells i j) in
    let begun : AreLinked now None head_now (front ++ one) (slot_at slots i).after =
    joined-lists slots head middle (slot_at slots i).before (Some i) (slot_at slots i).after front one once_one refl parts.1 (refl, there, refl, is, refl) in
    let starts : middle ≡ first_of later = starts-with slots last middle later parts.2 in
    let kept : AreLinked now last middle later None = joined-apart slots last (Some i) last middle None later
    (λ j at. let o = once j in let stands = last-in front j at in omega arith)
    (λ j at. let same : i ≡ j = cc in subst (λ k. times k later ≡ 0) same (omega arith)) parts.2 in
    let last_one : last_of None (front ++ one) ≡ Some i = last_of-append None front one in
    let whole : AreLinked (joined now (last_of None (front ++ one)) middle) None (joined_head head_now (last_of None (front ++ one)) middle) ((front ++ one) ++ later) None =
    joined-lists now head_now (slot_at slots i).after last middle None (front ++ one) later (λ j. both j (eqb_tells i j)) starts begun kept in
    let placed : AreLinked (joined now (Some i) middle) None head_now ((front ++ one) ++ later) None =
    subst (λ (o : Option ℕ). AreLinked (joined now o middle) None (joined_head head_now o middle) ((front ++ one) ++ later) None) last_one whole in
    let from : link_from slots head last ≡ middle = link_from-last slots head middle front parts.1 in
    subst (λ (cells : List Cell). AreLinked (linked slots head last i) None head_now cells None) (append_assoc front one later)
    (subst (λ (o : Option ℕ). AreLinked (joined now (Some i) o) None head_now ((front ++ one) ++ later) None) (sym from) placed)
  where
    at_most : (j : ℕ) → (((i == j) ≡ true) × (i ≡ j)) ⊎ (((i == j) ≡ false) × (i ≢ j)) → times j front + times j ((i, e) ∷ []) ≤ 1
    at_most j (inl h) = let here : times j ((i, e) ∷ []) ≡ 1 = subst (λ k. times k ((i, e) ∷ []) ≡ 1) h.1 (times-here i e []) in let none : times j front + times j later ≡ 0 = subst (λ k. times k front + times k later ≡ 0) h.1 apart in omega (arith, here, none)
    at_most j (inr h) = let o = once j in let gone = times-other j (i, e) [] h.1 in omega (arith, gone, o)

    both : (j : ℕ) → (((i == j) ≡ true) × (i ≡ j)) ⊎ (((i == j) ≡ false) × (i ≢ j)) → times j (front ++ (i, e) ∷ []) + times j later ≤ 1
    both j (inl h) = let here : times j ((i, e) ∷ []) ≡ 1 = subst (λ k. times k ((i, e) ∷ []) ≡ 1) h.1 (times-here i e []) in let none : times j front + times j later ≡ 0 = subst (λ k. times k front + times k later ≡ 0) h.1 apart in let sum = times-append j front ((i, e) ∷ []) in omega (arith, here, none, sum)
    both j (inr h) = let o = once j in let gone = times-other j (i, e) [] h.1 in let sum = times-append j front ((i, e) ∷ []) in omega (arith, gone, o, sum)

-- another list stays
pub linked-in_apart : (slots : List Slot) (head before start next : Option ℕ) (front later cells : List Cell) (i : ℕ) → AreLinked slots None head (front ++ later) None
    → ((j : ℕ) → times j front + times j later + times j cells ≤ 1) → times i cells ≡ 0 → AreLinked slots before start cells next
    → AreLinked (linked slots head (last_of None front) i) before start cells next
linked-in_apart slots head before start next front later cells i ok once apart other =
    let parts = linked-cut slots None head None front later ok in
    let last = last_of None front in
    let starts : parts.0 ≡ first_of later = starts-with slots last parts.0 later parts.2 in
    let from : link_from slots head last ≡ first_of later = link_from-last slots head parts.0 front parts.1 ∙ starts in
    let here : IsApart (Some i) cells = λ j at. let same : i ≡ j = cc in subst (λ k. times k cells ≡ 0) same apart in
    joined-apart (joined slots last (Some i)) (Some i) (link_from slots head last) before start next cells here
    (λ j at. let o = once j in let stands = first-in later j (sym from ∙ at) in omega arith)
    (joined-apart slots last (Some i) before start next cells (λ j at. let o = once j in let stands = last-in front j at in omega arith) here other)

-- what a slot in a list links
pub links-at : (slots : List Slot) (head : Option ℕ) (front later : List Cell) (i : ℕ) (e : Extent) → AreLinked slots None head (front ++ (i, e) ∷ later) None
    → ((slot_at slots i).before ≡ last_of None front) × ((slot_at slots i).after ≡ first_of later) × (i < length slots) × ((slot_at slots i).extent ≡ e)
links-at slots head front later i e ok =
    let parts = linked-cut slots None head None front ((i, e) ∷ later) ok in
    (parts.2.2, starts-with slots (Some i) (slot_at slots i).after later parts.2.4, parts.2.1, parts.2.3)

-- a slot leaves its list
pub unlinked-from : (slots : List Slot) (head : Option ℕ) (front later : List Cell) (i : ℕ) (e : Extent) → AreLinked slots None head (front ++ (i, e) ∷ later) None → ((j : ℕ) → times j front + times j later ≤ 1)
    → AreLinked (unlinked slots i) None (joined_head head (slot_at slots i).before (slot_at slots i).after) (front ++ later) None
unlinked-from slots head front later i e ok once =
    let parts = linked-cut slots None head None front ((i, e) ∷ later) ok in
    let starts : (slot_at slots i).after ≡ first_of later = starts-with slots (Some i) (slot_at slots i).after later parts.2.4 in
    subst (λ (o : Option ℕ). AreLinked (joined slots o (slot_at slots i).after) None (joined_head head o (slot_at slots i).after) (front ++ later) None) (sym parts.2.2)
    (joined-lists slots head parts.0 (Some i) (slot_at slots i).after None front later once starts parts.1 parts.2.4)

-- another list stays, and so does the slot that left
pub unlinked-apart : (slots : List Slot) (head before start next : Option ℕ) (front later cells : List Cell) (i : ℕ) (e : Extent) → AreLinked slots None head (front ++ (i, e) ∷ later) None
    → ((j : ℕ) → times j front + times j later + times j cells ≤ 1) → AreLinked slots before start cells next → AreLinked (unlinked slots i) before start cells next
unlinked-apart slots head before start next front later cells i e ok once other =
    let links = links-at slots head front later i e ok in
    joined-apart slots (slot_at slots i).before (slot_at slots i).after before start next cells
    (λ j at. let o = once j in let stands = last-in front j (sym links.0 ∙ at) in omega arith)
    (λ j at. let o = once j in let stands = first-in later j (sym links.1 ∙ at) in omega arith) other

-- the links lead through the whole list
pub walk-linked : (slots : List Slot) (most : ℕ) (before start : Option ℕ) (cells : List Cell) → AreLinked slots before start cells None → length cells ≤ most → walk slots most start ≡ cells
walk-linked slots zero before start [] ok low = refl
walk-linked slots (suc most) before start [] ok low = ap (walk slots (suc most)) ok
walk-linked slots zero before start (cell ∷ cells) ok low = absurd (omega arith)
walk-linked slots (suc most) before start (cell ∷ cells) ok low =
    ap (walk slots (suc most)) ok.0
    ∙ ap (λ (e : Extent). (cell.0, e) ∷ walk slots most (slot_at slots cell.0).after) ok.3
    ∙ ap (λ (rest : List Cell). cell ∷ rest) (walk-linked slots most (Some cell.0) (slot_at slots cell.0).after cells ok.4 (omega arith))

-- a slot past the end of the vector stands in no list
pub linked-past : (slots : List Slot) (before start next : Option ℕ) (cells : List Cell) (i : ℕ) → AreLinked slots before start cells next → length slots ≤ i → times i cells ≡ 0
linked-past slots before start next [] i ok past = refl
linked-past slots before start next (cell ∷ cells) i ok past =
    let low : cell.0 < length slots = ok.1 in
    let apart : cell.0 ≢ i = λ same. absurd (omega arith) in
    times-other i cell cells apart ∙ linked-past slots (Some cell.0) (slot_at slots cell.0).after next cells i ok.4 past
