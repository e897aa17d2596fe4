-- Frames that are drawn, and the blank pages in them.
use Rattle.std.proofs.Common.{◌≡◌, ◌≢◌, ℕ, zero, suc, ◌+◌, ◌-◌, ◌%◌, ◌^◌, ◌<◌, ◌≤◌, ◌||◌, Bool, true, false, eqb, List, [], ◌∷◌, ◌++◌, map, length, get_or, take, drop, Option, Some, None, refl, sym, ap, subst, ◌∙◌, arith}
use Rattle.std.specs.Prelude.{slice_index, IsNone, IsTrue, All, ◌==◌}
use Rattle.std.proofs.lemmas.Bool.{false≢true}
use Rattle.std.proofs.lemmas.Option.{same_Some}
use Rattle.std.proofs.lemmas.Bool.Decides.{nat_tests}
use Rattle.std.proofs.lemmas.List.{map-append, take-append-drop, length-take-le}
use Rattle.std.proofs.lemmas.List.Elements.{All-nil, All-cons, All-take}
use Rattle.texts.specs.Consecutive.{is_in}
use Rattle.frame_alloc.specs.Frames.{AreFrames, AreFramesFrom, lowest_pair, without}
use Rattle.frame_alloc.proofs.FreeFrames.{is_in_nil, is_in_cons, is_in-append, is_in-without_taken, is_in-from_without, AreFrames-without, AreFramesFrom-below, AreFramesFrom-member, lowest_pair-tells}
use Rattle.stage2_walk.specs.Pages.{Page, frames_of, page_of, blank_page}
use Rattle.stage2_walk.specs.Files.{has_root}
use Rattle.stage2_walk.proofs.WordLemmas.{frames_of-push}
use Rattle.stage2_tables.specs.BlankPages.{AreApart, AreBlank}
use Rattle.stage2_tables.specs.Draws.{drawn_after, drawn_from, table_frames, left_after, free_after}
use Rattle.stage2_tables.specs.TableFrames.{AreTableFrames}
use Rattle.stage2_tables.proofs.LengthWithout.{length-without}

either_false : (a b : Bool) → (a || b) ≡ false → (a ≡ false) × (b ≡ false)
either_false true b none = absurd (false≢true (sym none))
either_false false b none = (refl, none)

both_false : (a b : Bool) → a ≡ false → b ≡ false → (a || b) ≡ false
both_false a b none nor = rw (none, nor) refl

test_false : (a b : ℕ) → a ≢ b → eqb a b ≡ false
test_false a b apart = grind (arith, nat_tests)

test_apart : (a b : ℕ) → eqb a b ≡ false → a ≢ b
test_apart a b none same = grind (arith, nat_tests)

test_true : (a b : ℕ) → a ≡ b → eqb a b ≡ true
test_true a b same = grind (arith, nat_tests)

pub AreApart-front : (xs ys : List ℕ) → AreApart (xs ++ ys) → AreApart xs
AreApart-front [] ys apart = tt
AreApart-front (x ∷ xs) ys apart = (apart.0, (either_false (is_in xs x) (is_in ys x) (sym (is_in-append xs ys x) ∙ apart.1)).0, AreApart-front xs ys apart.2)

-- the next frame is none of those before it
pub AreApart-next : (xs : List ℕ) (y : ℕ) (ys : List ℕ) → AreApart (xs ++ y ∷ ys) → (y < 2 ^ 28) × (is_in xs y ≡ false)
AreApart-next [] y ys apart = (apart.0, is_in_nil y)
AreApart-next (x ∷ xs) y ys apart =
    let rest = AreApart-next xs y ys apart.2 in
    let later = either_false (is_in xs x) (is_in (y ∷ ys) x) (sym (is_in-append xs (y ∷ ys) x) ∙ apart.1) in
    let here = either_false (eqb y x) (is_in ys x) (sym (is_in_cons x y ys) ∙ later.1) in
    (rest.0, is_in_cons y x xs ∙ both_false (eqb x y) (is_in xs y) (test_false x y (λ same. test_apart y x here.0 (sym same))) rest.1)

-- a frame that is none of an image's has no page
pub page_of-none : (pages : List Page) (frame : ℕ) → is_in (frames_of pages) frame ≡ false → IsNone (page_of pages frame)
page_of-none [] frame none = refl
page_of-none (page ∷ pages) frame none =
    let both = either_false (eqb page.frame frame) (is_in (frames_of pages) frame) (sym (is_in_cons frame page.frame (frames_of pages)) ∙ none) in
    rw both.0 (page_of-none pages frame both.1)

-- a blank page more
pub AreBlank-push : (pages : List Page) (frame : ℕ) → AreBlank pages → AreBlank (pages ++ blank_page frame ∷ [])
AreBlank-push pages frame blank =
    ap (λ (front : List Page). front ++ blank_page frame ∷ []) blank
    ∙ sym (ap (map blank_page) (frames_of-push pages frame) ∙ map-append blank_page (frames_of pages) (frame ∷ []))

AreApart-ascending : (frames : List ℕ) (start : ℕ) → AreFramesFrom start frames → AreApart frames
AreApart-ascending [] start up = tt
AreApart-ascending (x ∷ xs) start up = (up.1, AreFramesFrom-below xs (x + 1) x up.2 (omega arith), AreApart-ascending xs (x + 1) up.2)

-- the pair and what is left of the free frames are apart
pub AreApart-drawn : (free : List ℕ) (root : ℕ) → AreFrames free → lowest_pair free ≡ Some root → AreApart (root ∷ (root + 1) ∷ without root 2 free)
AreApart-drawn free root up pair =
    let told = lowest_pair-tells free root pair in
    let rest : List ℕ = without root 2 free in
    let no_root : is_in rest root ≡ false = is_in-without_taken root 2 free root (omega arith) (omega arith) in
    let no_next : is_in rest (root + 1) ≡ false = is_in-without_taken root 2 free (root + 1) (omega arith) (omega arith) in (
      (AreFramesFrom-member free 0 root up told.1).1,
      is_in_cons root (root + 1) rest ∙ both_false (eqb (root + 1) root) (is_in rest root) (test_false (root + 1) root (λ same. omega arith)) no_root,
      (
        (AreFramesFrom-member free 0 (root + 1) up told.2).1,
        no_next,
        AreApart-ascending rest 0 (AreFrames-without root 2 free up),
      ),
    )

pub pair_low : (free : List ℕ) (root : ℕ) → AreFrames free → lowest_pair free ≡ Some root → root + 1 < 2 ^ 28
pair_low free root up pair = (AreFramesFrom-member free 0 (root + 1) up (lowest_pair-tells free root pair).2).1

pub is_in-slice_index : (xs : List ℕ) (k d : ℕ) → k < length xs → is_in xs (get_or xs k d) ≡ true
is_in-slice_index [] k d within = absurd (omega arith)
is_in-slice_index (x ∷ xs) zero d within = is_in_cons x x xs ∙ rw (test_true x x refl) refl
is_in-slice_index (x ∷ xs) (suc k) d within = is_in_cons (get_or xs k d) x xs ∙ or_true (eqb x (get_or xs k d)) (is_in xs (get_or xs k d)) (is_in-slice_index xs k d (omega arith))
  where
    or_true : (a b : Bool) → b ≡ true → (a || b) ≡ true
    or_true true b holds = refl
    or_true false b holds = holds

low_at : (frames : List ℕ) (k : ℕ) → AreApart frames → k < length frames → slice_index frames k < 2 ^ 28
low_at [] k apart within = absurd (omega arith)
low_at (x ∷ xs) zero apart within = apart.0
low_at (x ∷ xs) (suc k) apart within = low_at xs k apart.2 (omega arith)

apart_at : (frames : List ℕ) (j k : ℕ) → AreApart frames → j < k → k < length frames → slice_index frames j ≢ slice_index frames k
apart_at [] j k apart before within same = omega arith
apart_at (x ∷ xs) j zero apart before within same = omega arith
apart_at (x ∷ xs) zero (suc k) apart before within same =
    false≢true (sym apart.1 ∙ ap (is_in xs) same ∙ is_in-slice_index xs k 0 (omega arith))
apart_at (x ∷ xs) (suc j) (suc k) apart before within same = apart_at xs j k apart.2 (omega arith) (omega arith) same

-- drawn frames can be tables
pub AreTableFrames-drawn : (root : ℕ) (frames rest : List ℕ) → AreApart frames → frames ≡ root ∷ (root + 1) ∷ rest → AreTableFrames root frames
AreTableFrames-drawn root frames rest apart is = record {
  enough = (let n : length frames ≡ length (root ∷ (root + 1) ∷ rest) = ap (λ (list : List ℕ). length list) is in omega arith);
  first = ap (λ (list : List ℕ). slice_index list 0) is;
  second = ap (λ (list : List ℕ). slice_index list 1) is;
  low = λ k within. low_at frames k apart within;
  apart = λ j k before within. apart_at frames j k apart before within;
}

-- every drawn frame was free
pub drawn_free : (count : ℕ) (free : List ℕ) (root : ℕ) → lowest_pair free ≡ Some root → All (λ frame. IsTrue (is_in free frame)) (drawn_after count free root)
drawn_free count free root pair =
    let told = lowest_pair-tells free root pair in
    All-cons (λ (frame : ℕ). IsTrue (is_in free frame)) root ((root + 1) ∷ take (count - 2) (without root 2 free)) told.1
    (All-cons (λ (frame : ℕ). IsTrue (is_in free frame)) (root + 1) (take (count - 2) (without root 2 free)) told.2
    (All-take (λ (frame : ℕ). IsTrue (is_in free frame)) (count - 2) (without root 2 free)
    (λ k d within. (is_in-from_without root 2 free (get_or (without root 2 free) k d) (is_in-slice_index (without root 2 free) k d within)).0)))

-- the next of two root frames has no page yet
pub second_fresh : (pages : List Page) (root : ℕ) → frames_of pages ≡ root ∷ [] → IsNone (page_of pages (root + 1))
second_fresh pages root is =
    page_of-none pages (root + 1) (ap (λ (frames : List ℕ). is_in frames (root + 1)) is ∙ is_in_cons (root + 1) root [] ∙ both_false (eqb root (root + 1)) (is_in [] (root + 1)) (test_false root (root + 1) (λ same. omega arith)) (is_in_nil (root + 1)))

-- what `table_frames` tells, where the pair is known
pub drawn_is : (count : ℕ) (free frames : List ℕ) (root : ℕ) → lowest_pair free ≡ Some root → table_frames count free ≡ Some frames → frames ≡ drawn_after count free root
drawn_is count free frames root pair are =
    let drawn : drawn_from count free (lowest_pair free) ≡ Some (drawn_after count free root) = ap (drawn_from count free) pair in
    same_Some frames (drawn_after count free root) (sym are ∙ drawn)

-- the image holds its two root pages
pub has_root-tables : (free : List ℕ) (root : ℕ) (frames : List ℕ) → lowest_pair free ≡ Some root → AreTableFrames root frames → has_root root frames ≡ true
has_root-tables free root frames pair tables =
    let even : (root % 2 == 0) ≡ true = test_true (root % 2) 0 (lowest_pair-tells free root pair).0 in
    let enough = tables.enough in
    let first : is_in frames root ≡ true = ap (is_in frames) (sym tables.first) ∙ is_in-slice_index frames 0 0 (omega arith) in
    let second : is_in frames (root + 1) ≡ true = ap (is_in frames) (sym tables.second) ∙ is_in-slice_index frames 1 0 (omega arith) in
    rw (even, first, second) refl

-- the drawn frames and those that are left are apart
drawn_apart : (free left frames : List ℕ) (root count : ℕ) → AreFrames free → lowest_pair free ≡ Some root → left ≡ without root 2 free → frames ≡ root ∷ (root + 1) ∷ take count left → AreApart (frames ++ drop count left)
drawn_apart free left frames root count up pair left_is is =
    let all : AreApart (root ∷ (root + 1) ∷ without root 2 free) = AreApart-drawn free root up pair in
    let parts : root ∷ (root + 1) ∷ without root 2 free ≡ frames ++ drop count left =
    sym (ap (λ (list : List ℕ). list ++ drop count left) is ∙ ap (λ (list : List ℕ). root ∷ (root + 1) ∷ list) (take-append-drop count left) ∙ ap (λ (list : List ℕ). root ∷ (root + 1) ∷ list) left_is) in
    subst AreApart parts all

-- the drawn frames can be tables
pub drawn_tables : (free left frames : List ℕ) (root count : ℕ) → AreFrames free → lowest_pair free ≡ Some root → left ≡ without root 2 free → frames ≡ root ∷ (root + 1) ∷ take count left → AreTableFrames root frames
drawn_tables free left frames root count up pair left_is is =
    AreTableFrames-drawn root frames (take count left) (AreApart-front frames (drop count left) (drawn_apart free left frames root count up pair left_is is)) is

-- and none of them is left
taken : (xs ys : List ℕ) → AreApart (xs ++ ys) → All (λ frame. is_in ys frame ≡ false) xs
taken [] ys apart = All-nil (λ (frame : ℕ). is_in ys frame ≡ false)
taken (x ∷ xs) ys apart = All-cons (λ (frame : ℕ). is_in ys frame ≡ false) x xs (either_false (is_in xs x) (is_in ys x) (sym (is_in-append xs ys x) ∙ apart.1)).1 (taken xs ys apart.2)

pub drawn_taken : (free left frames : List ℕ) (root count : ℕ) → AreFrames free → lowest_pair free ≡ Some root → left ≡ without root 2 free → frames ≡ root ∷ (root + 1) ∷ take count left → All (λ frame. is_in (drop count left) frame ≡ false) frames
drawn_taken free left frames root count up pair left_is is = taken frames (drop count left) (drawn_apart free left frames root count up pair left_is is)

-- they are as many as were wanted
pub drawn_count : (free left frames : List ℕ) (root needed : ℕ) → AreFrames free → 2 ≤ needed → needed ≤ length free → left ≡ without root 2 free → frames ≡ root ∷ (root + 1) ∷ take (needed - 2) left → length frames ≡ needed
drawn_count free left frames root needed up roots enough left_is is =
    let some : length free ≤ length (without root 2 free) + 2 = length-without root 2 free up in
    let same : length left ≡ length (without root 2 free) = ap (λ (list : List ℕ). length list) left_is in
    let taken : length (take (needed - 2) left) ≡ needed - 2 = length-take-le (needed - 2) left (omega arith) in
    let all : length frames ≡ length (root ∷ (root + 1) ∷ take (needed - 2) left) = ap (λ (list : List ℕ). length list) is in
    omega arith

-- what is left was free
pub free_after-was_free : (count : ℕ) (free : List ℕ) (frame : ℕ) → is_in (free_after count free) frame ≡ true → is_in free frame ≡ true
free_after-was_free count free frame there = by_pair (lowest_pair free) there
  where
    or_true : (a b : Bool) → b ≡ true → (a || b) ≡ true
    or_true true b holds = refl
    or_true false b holds = holds

    by_pair : (pair : Option ℕ) → is_in (left_after count free pair) frame ≡ true → is_in free frame ≡ true
    by_pair None there = there
    by_pair (Some root) there =
        let rest : List ℕ = without root 2 free in
        let parts : is_in rest frame ≡ (is_in (take (count - 2) rest) frame || is_in (drop (count - 2) rest) frame) =
        sym (ap (λ (list : List ℕ). is_in list frame) (take-append-drop (count - 2) rest)) ∙ is_in-append (take (count - 2) rest) (drop (count - 2) rest) frame in
        (is_in-from_without root 2 free frame (parts ∙ or_true (is_in (take (count - 2) rest) frame) (is_in (drop (count - 2) rest) frame) there)).0
