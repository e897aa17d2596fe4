-- One leaf more of a range, and one range more of a map.
use Rattle.std.proofs.Common.{◌≡◌, ℕ, zero, suc, ◌+◌, ◌-◌, ◌^◌, ◌<◌, ◌≤◌, ◌⊎◌, Bool, true, false, cond, List, [], ◌∷◌, length, get_or, Option, Some, None, refl, sym, ap, subst, ◌∙◌, arith, inl, inr}
use Rattle.std.specs.Option.{is_some, IsSome}
use Rattle.std.specs.List.{slice_get}
use Rattle.std.proofs.lemmas.Option.{slice_get-get_or, slice_get_within, none-some, same_Some}
use Rattle.std.proofs.lemmas.Bool.{false≢true}
use Rattle.described.specs.Maps.{Target, target_of, holds_page, AreSortedFrom, AreMapRanges}
use Rattle.described.specs.Regions.{Map, Region, span, table_count}
use Rattle.described.specs.declared.map_range.MapRange.{MapRange}
use Rattle.described.proofs.RunLemmas.{holds_tells}
use Rattle.stage2_walk.specs.Pages.{Page, frames_of}
use Rattle.stage2_walk.specs.TableImages.{TableImage}
use Rattle.stage2_tables.specs.Leaves.{fits, leaf_level}
use Rattle.stage2_tables.specs.PrivateLeaves.{IsFresh}
use Rattle.stage2_tables.specs.Least.{leaf_word, leaf_word_at, region_word}
use Rattle.stage2_tables.specs.Sweeps.{IsCounted, IsWrittenTo, HasFrames, IsSweptTo}
use Rattle.stage2_tables.specs.Steps.{leaf_sweep, linked_pages, leaf_pages, HasRoom}
use Rattle.stage2_tables.specs.declared.sweep.Sweep.{Sweep}
use Rattle.stage2_tables.proofs.LeastWalk.{word_block}
use Rattle.stage2_tables.proofs.SweepSteps.{IsLeaf}
use Rattle.stage2_tables.proofs.SweepStates.{passed, same_counted, same_written}
use Rattle.stage2_tables.proofs.LeafChoice.{IsRange, IsAt, frame_at, left_at, leaf_here, fresh_next, target_at, fits_tells, ranges_apart}
use Rattle.stage2_tables.proofs.LeafSteps.{link_leaf, step_counted, step_written, step_frames, step_wide}

pub range_at : (ranges : List MapRange) (index : ℕ) (d : MapRange) → index < length ranges → slice_get ranges index ≡ Some (get_or ranges index d)
range_at ranges index d low = slice_get-get_or ranges index d low

-- a range of a sorted list has pages, and pages and frames below 2^28
pub record IsBounded (range : MapRange) : Type 0 where
  pub some : 0 < range.count
  pub pages : range.page + range.count ≤ 2 ^ 28
  pub frames : range.first + range.count ≤ 2 ^ 28

pub bounds : (ranges : List MapRange) (start index : ℕ) (range : MapRange) → AreSortedFrom start ranges → slice_get ranges index ≡ Some range → IsBounded range
bounds [] start index range sorted at = absurd (none-some range at)
bounds (r ∷ rs) start zero range sorted at = subst IsBounded (same_Some r range at) (record { some = sorted.1; pages = sorted.2; frames = sorted.3 })
bounds (r ∷ rs) start (suc index) range sorted at = bounds rs (r.page + r.count) index range sorted.4 at

-- what fits is left
level_left : (page frame left : ℕ) → 0 < left → span (leaf_level page frame left) ≤ left
level_left page frame left some = by_large (fits 1 page frame left) refl (fits 2 page frame left) refl
  where
    Fits : ℕ → Type 0
    Fits level = span level ≤ left

    by_large : (a : Bool) → fits 1 page frame left ≡ a → (b : Bool) → fits 2 page frame left ≡ b → span (leaf_level page frame left) ≤ left
    by_large true is b other = subst Fits (sym (ap (λ (x : Bool). cond x 1 (cond (fits 2 page frame left) 2 3)) is)) (fits_tells 1 page frame left is).2
    by_large false is true other = subst Fits (sym (ap (λ (x : Bool). cond x 1 (cond (fits 2 page frame left) 2 3)) is ∙ ap (λ (x : Bool). cond x 2 3) other)) (fits_tells 2 page frame left other).2
    by_large false is false other = subst Fits (sym (ap (λ (x : Bool). cond x 1 (cond (fits 2 page frame left) 2 3)) is ∙ ap (λ (x : Bool). cond x 2 3) other)) (one left some)
      where
        one : (n : ℕ) → 0 < n → span 3 ≤ n
        one n some = omega arith

-- the next leaf of a range
pub record IsStep (ranges : List MapRange) (range : MapRange) (done level : ℕ) : Type 0 where
  pub leaf : IsLeaf (target_of ranges) (record { level = level; page = range.page + done })
  pub within : done + span level ≤ range.count
  pub low : range.page + done < 2 ^ 28
  pub frame_low : range.first + done < 2 ^ 28
  pub fresh : IsFresh (target_of ranges) (range.page + (done + span level))
  pub word : (frames : List ℕ) → leaf_word level (record { frame = range.first + done; kind = range.kind }) ≡ region_word (target_of ranges) frames (record { level = level; page = range.page + done })

pub next_leaf : (ranges : List MapRange) (index : ℕ) (range : MapRange) (done level : ℕ) → IsRange ranges index range → IsFresh (target_of ranges) (range.page + done) → done < range.count → level ≡ leaf_level (range.page + done) (range.first + done) (range.count - done) → IsStep ranges range done level
next_leaf ranges index range done level is fresh some level_is =
    let bounded = bounds ranges 0 index range is.sorted is.at in
    let pages = bounded.pages in
    let frames_low = bounded.frames in
    let here : IsAt ranges range page = record { index = index; is = is; low = omega arith; high = omega arith; fresh = fresh } in
    let frame : range.first + done ≡ frame_at range page = omega arith in
    let left : range.count - done ≡ left_at range page = omega arith in
    let level_at : level ≡ leaf_level page (frame_at range page) (left_at range page) = level_is ∙ ap (λ (f : ℕ). leaf_level page f (range.count - done)) frame ∙ ap (leaf_level page (frame_at range page)) left in
    let leaf : IsLeaf (target_of ranges) (record { level = level; page = page }) = subst (λ (l : ℕ). IsLeaf (target_of ranges) (record { level = l; page = page })) (sym level_at) (leaf_here ranges range page here) in
    let behind : page + span level ≡ range.page + (done + span level) = omega arith in
    let inside : span level ≤ range.count - done = subst (λ (l : ℕ). span l ≤ range.count - done) (sym level_is) (level_left page (range.first + done) (range.count - done) (omega arith)) in
    let at : target_of ranges page ≡ Some (record { frame = range.first + done; kind = range.kind }) = target_at ranges 0 index page range is.sorted is.at (omega arith) (omega arith) ∙ ap (λ (f : ℕ). Some (record { frame = f; kind = range.kind })) (sym frame) in
    record {
      leaf = leaf;
      within = omega arith;
      low = omega arith;
      frame_low = omega arith;
      fresh = subst (IsFresh (target_of ranges)) behind (fresh_next (target_of ranges) (record { level = level; page = page }) leaf);
      word = λ frames. sym (word_block (target_of ranges) frames (record { level = level; page = page }) leaf.block ∙ ap (leaf_word_at level) at);
    }
  where
    page : ℕ
    page = range.page + done

-- the count behind the leaf
pub counted_more : (ranges : List MapRange) (range : MapRange) (done level : ℕ) (sweep : Sweep) → IsStep ranges range done level → IsCounted (target_of ranges) (range.page + done) 1 sweep → IsCounted (target_of ranges) (range.page + (done + span level)) 1 (leaf_sweep sweep (range.page + done) level)
counted_more ranges range done level sweep is was =
    let behind : range.page + done + span level ≡ range.page + (done + span level) = omega arith in
    subst (λ (p : ℕ). IsCounted (target_of ranges) p 1 (leaf_sweep sweep (range.page + done) level)) behind
    (step_counted (target_of ranges) sweep (record { level = level; page = range.page + done }) is.leaf is.low was)

-- and the image
pub swept_more : (ranges : List MapRange) (range : MapRange) (done level word : ℕ) (image new : TableImage) (sweep next : Sweep) → IsStep ranges range done level → IsSweptTo (target_of ranges) image sweep (range.page + done) → word ≡ leaf_word level (record { frame = range.first + done; kind = range.kind }) →
    new ≡ record image { pages = leaf_pages (linked_pages image.pages sweep (range.page + done) level) (leaf_sweep sweep (range.page + done) level) (range.page + done) level word } → next ≡ leaf_sweep sweep (range.page + done) level →
    IsSweptTo (target_of ranges) new next (range.page + (done + span level)) × (frames_of new.pages ≡ frames_of image.pages) × (new.root ≡ image.root)
swept_more ranges range done level word image new sweep next is was word_is new_is next_is =
    subst (λ (n : TableImage). IsSweptTo mapping n next (range.page + (done + span level)) × (frames_of n.pages ≡ frames_of image.pages) × (n.root ≡ image.root)) (sym new_is)
    (subst (λ (s : Sweep). IsSweptTo mapping made s (range.page + (done + span level)) × (frames_of made.pages ≡ frames_of image.pages) × (made.root ≡ image.root)) (sym next_is)
    (subst (λ (p : ℕ). IsSweptTo mapping made (leaf_sweep sweep page level) p × (frames_of made.pages ≡ frames_of image.pages) × (made.root ≡ image.root)) behind (
      record {
        frames = subst (HasFrames mapping) (sym frames) was.frames;
        wide = step_wide mapping image.pages sweep leaf word is.leaf is.low was.counted was.wide;
        counted = step_counted mapping sweep leaf is.leaf is.low was.counted;
        written = subst (λ (fs : List ℕ). IsWrittenTo mapping fs pages (page + span level) 1) (sym frames)
            (step_written mapping (frames_of image.pages) image.pages sweep leaf word was.frames refl is.leaf is.low was.counted was.written (word_is ∙ is.word (frames_of image.pages)));
      },
      frames,
      refl,
    )))
  where
    mapping : Map
    mapping = target_of ranges

    page : ℕ
    page = range.page + done

    leaf : Region
    leaf = record { level = level; page = page }

    pages : List Page
    pages = leaf_pages (linked_pages image.pages sweep page level) (leaf_sweep sweep page level) page level word

    made : TableImage
    made = record image { pages = pages }

    frames : frames_of pages ≡ frames_of image.pages
    frames = step_frames mapping image.pages sweep leaf word is.leaf is.low was.counted

    behind : page + span level ≡ range.page + (done + span level)
    behind = omega arith

pub length_frames : (pages : List Page) → length (frames_of pages) ≡ length pages
length_frames [] = refl
length_frames (p ∷ ps) = let rest = length_frames ps in omega arith

-- there is room for the leaf
pub room_for : (ranges : List MapRange) (range : MapRange) (done level : ℕ) (image : TableImage) (sweep : Sweep) → IsStep ranges range done level → IsSweptTo (target_of ranges) image sweep (range.page + done) → HasRoom (length image.pages) sweep (range.page + done) level
room_for ranges range done level image sweep is was =
    let enough = was.frames.enough in
    let all = length_frames image.pages in
    let count : table_count (target_of ranges) ≡ length image.pages = omega arith in
    subst (λ (n : ℕ). HasRoom n sweep (range.page + done) level) count (link_leaf (target_of ranges) sweep (record { level = level; page = range.page + done }) is.leaf is.low was.counted).room

-- a mapped page lies in a range
pub mapped_range : (ranges : List MapRange) (page : ℕ) → IsSome (target_of ranges page) → (index : ℕ) × (range : MapRange) × (slice_get ranges index ≡ Some range) × (range.page ≤ page) × (page < range.page + range.count)
mapped_range [] page some = absurd (false≢true some)
mapped_range (r ∷ rs) page some = by_test (holds_tells r page) some (mapped_range rs page)
  where
    target : Target
    target = record { frame = r.first + (page - r.page); kind = r.kind }

    by_test : ((holds_page r page ≡ true) × (r.page ≤ page) × (page < r.page + r.count)) ⊎ ((holds_page r page ≡ false) × ((page < r.page) ⊎ (r.page + r.count ≤ page))) → IsSome (target_of (r ∷ rs) page) →
        (IsSome (target_of rs page) → (index : ℕ) × (range : MapRange) × (slice_get rs index ≡ Some range) × (range.page ≤ page) × (page < range.page + range.count)) → (index : ℕ) × (range : MapRange) × (slice_get (r ∷ rs) index ≡ Some range) × (range.page ≤ page) × (page < range.page + range.count)
    by_test (inl h) some rest = (0, r, refl, h.1, h.2)
    by_test (inr h) some rest =
        let miss : target_of (r ∷ rs) page ≡ target_of rs page = ap (λ (b : Bool). cond b (Some target) (target_of rs page)) h.0 in
        let found = rest (subst (λ (o : Option Target). IsSome o) miss some) in
        (suc found.0, found.1, found.2, found.3, found.4)

-- up to a page come the ranges before an index, and no others
pub record IsBetween (ranges : List MapRange) (index page : ℕ) : Type 0 where
  pub before : (j : ℕ) (range : MapRange) → j < index → slice_get ranges j ≡ Some range → range.page + range.count ≤ page
  pub after : (j : ℕ) (range : MapRange) → index ≤ j → slice_get ranges j ≡ Some range → page ≤ range.page

pub between_first : (ranges : List MapRange) → IsBetween ranges 0 0
between_first ranges = record { before = λ j range less at. absurd (omega arith); after = λ j range high at. omega arith }

pub between_more : (ranges : List MapRange) (index page : ℕ) (range : MapRange) → AreMapRanges ranges → slice_get ranges index ≡ Some range → IsBetween ranges index page → IsBetween ranges (index + 1) (range.page + range.count)
between_more ranges index page range sorted at was = record {
  before = λ j r less there. by_place j r there (order j index) less;
  after = λ j r high there. ranges_apart ranges 0 index j range r sorted at there (omega arith);
}
  where
    order : (j k : ℕ) → (j < k) ⊎ ((j ≡ k) ⊎ (k < j))
    order j k = grind arith

    by_place : (j : ℕ) (r : MapRange) → slice_get ranges j ≡ Some r → (j < index) ⊎ ((j ≡ index) ⊎ (index < j)) → j < index + 1 → r.page + r.count ≤ range.page + range.count
    by_place j r there (inl less) low = let h = ranges_apart ranges 0 j index r range sorted there at less in omega arith
    by_place j r there (inr (inl same)) low = let h : r ≡ range = same_Some r range (sym there ∙ ap (slice_get ranges) same ∙ at) in let p = ap (λ (x : MapRange). x.page + x.count) h in omega arith
    by_place j r there (inr (inr more)) low = absurd (omega arith)

-- no page between two ranges is mapped
pub gap_before : (ranges : List MapRange) (index page : ℕ) (range : MapRange) → slice_get ranges index ≡ Some range → AreMapRanges ranges → IsBetween ranges index page → (page ≤ range.page) × ((q : ℕ) → page ≤ q → q < range.page → target_of ranges q ≡ None)
gap_before ranges index page range at sorted was = (was.after index range (omega arith) at, λ q from upto. by_target q from upto (target_of ranges q) refl)
  where
    page_or_past : (a b : ℕ) → (a < b) ⊎ (b ≤ a)
    page_or_past a b = grind arith

    at_or_past : (a b : ℕ) → a ≤ b → (a < b) ⊎ (a ≡ b)
    at_or_past a b low = grind arith

    by_target : (q : ℕ) → page ≤ q → q < range.page → (o : Option Target) → target_of ranges q ≡ o → o ≡ None
    by_target q from upto None is = refl
    by_target q from upto (Some target) is =
        let found = mapped_range ranges q (ap is_some is) in
        absurd (by_place found.0 found.1 found.2 found.3 found.4 (page_or_past found.0 index))
      where
        by_index : (j : ℕ) (r : MapRange) → slice_get ranges j ≡ Some r → r.page ≤ q → (index < j) ⊎ (index ≡ j) → ⊥
        by_index j r there low (inl more) = let h = ranges_apart ranges 0 index j range r sorted at there more in omega arith
        by_index j r there low (inr same) = let h : range ≡ r = same_Some range r (sym at ∙ ap (slice_get ranges) same ∙ there) in let p = ap (λ (x : MapRange). x.page) h in omega arith

        by_place : (j : ℕ) (r : MapRange) → slice_get ranges j ≡ Some r → r.page ≤ q → q < r.page + r.count → (j < index) ⊎ (index ≤ j) → ⊥
        by_place j r there low high (inl less) = let h = was.before j r less there in omega arith
        by_place j r there low high (inr past) = by_index j r there low (at_or_past index j past)

pub skip_counted : (ranges : List MapRange) (index page : ℕ) (range : MapRange) (sweep : Sweep) → slice_get ranges index ≡ Some range → AreMapRanges ranges → IsBetween ranges index page → IsCounted (target_of ranges) page 1 sweep → IsCounted (target_of ranges) range.page 1 sweep
skip_counted ranges index page range sweep at sorted between was =
    let gap = gap_before ranges index page range at sorted between in
    same_counted (target_of ranges) page 1 range.page 1 sweep (passed (target_of ranges) page range.page gap.0 gap.1) was

pub skip_swept : (ranges : List MapRange) (index page : ℕ) (range : MapRange) (image : TableImage) (sweep : Sweep) → slice_get ranges index ≡ Some range → AreMapRanges ranges → IsBetween ranges index page → IsSweptTo (target_of ranges) image sweep page → IsSweptTo (target_of ranges) image sweep range.page
skip_swept ranges index page range image sweep at sorted between was =
    let gap = gap_before ranges index page range at sorted between in
    let same = passed (target_of ranges) page range.page gap.0 gap.1 in
    record {
      frames = was.frames;
      wide = was.wide;
      counted = same_counted (target_of ranges) page 1 range.page 1 sweep same was.counted;
      written = same_written (target_of ranges) (frames_of image.pages) image.pages page 1 range.page 1 same was.written;
    }

-- behind the last range no page is mapped
pub all_before : (ranges : List MapRange) (page : ℕ) → IsBetween ranges (length ranges) page → (q : ℕ) → IsSome (target_of ranges q) → q < page
all_before ranges page between q some =
    let found = mapped_range ranges q some in
    let low = slice_get_within ranges found.0 found.1 found.2 in
    let h = between.before found.0 found.1 low found.2 in
    let upto = found.4 in
    omega arith
