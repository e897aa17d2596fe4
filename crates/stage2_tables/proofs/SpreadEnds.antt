-- The beginning and the end of a sweep over a map.
use Rattle.std.proofs.Common.{◌≡◌, ℕ, zero, suc, ◌+◌, ◌-◌, ◌<◌, Bool, true, false, cond, eqb, List, [], ◌∷◌, map, length, replicate, Some, refl, sym, ap, subst, ◌∙◌, arith}
use Rattle.std.specs.Prelude.{slice_index}
use Rattle.std.specs.Option.{is_some, option_and_then}
use Rattle.std.specs.List.{slice_get}
use Rattle.std.proofs.lemmas.Option.{slice_get-get_or, same_Some}
use Rattle.std.proofs.lemmas.List.{get_or-replicate, length-replicate}
use Rattle.std.proofs.lemmas.Bool.Decides.{nat_tests}
use Rattle.described.specs.Maps.{Target, target_of, AreMapRanges}
use Rattle.described.specs.Regions.{Map, table_count}
use Rattle.described.specs.declared.map_range.MapRange.{MapRange}
use Rattle.stage2_walk.specs.Pages.{Page, word_in, frames_of, blank_page, page_of}
use Rattle.stage2_walk.specs.TableImages.{TableImage}
use Rattle.stage2_tables.specs.TableFrames.{AreTableFrames}
use Rattle.stage2_tables.specs.Laws.{MapsLow}
use Rattle.stage2_tables.specs.Least.{least_image}
use Rattle.stage2_tables.specs.Sweeps.{AreWide, IsSweptTo, IsCounted}
use Rattle.stage2_tables.specs.declared.sweep.Sweep.{Sweep}
use Rattle.stage2_tables.proofs.SweepStates.{begins_counted, begins_written, all_linked, all_written}
use Rattle.stage2_tables.proofs.LinkSteps.{table_at, table_within}
use Rattle.stage2_tables.proofs.LeastPages.{pages_are_least}
use Rattle.stage2_tables.proofs.LeafChoice.{target_at}
use Rattle.stage2_tables.proofs.SpreadSteps.{bounds, mapped_range, IsBetween, all_before}

zero_word : (index : ℕ) → index < 512 → slice_get (replicate {A = ℕ} 512 0) index ≡ Some 0
zero_word index low =
    slice_get-get_or (replicate {A = ℕ} 512 0) index 0 (omega (arith, length-replicate {A = ℕ} 512 0)) ∙ ap Some (get_or-replicate {A = ℕ} 512 index 0 0 low)

-- a word of a blank page
pub blank_word : (frames : List ℕ) (k index : ℕ) → k < length frames → index < 512 → word_in (map blank_page frames) (slice_index frames k) index ≡ Some 0
unfolding word_in blank_page
blank_word [] k index within low = absurd (omega arith)
blank_word (x ∷ xs) zero index within low =
    let same : eqb x x ≡ true = grind (arith, nat_tests) in
    rw same (zero_word index low)
blank_word (x ∷ xs) (suc k) index within low = choose (eqb x (slice_index xs k)) (blank_word xs k index (omega arith) low)
  where
    choose : (b : Bool) → option_and_then (λ (page : Page). slice_get page.words index) (page_of (map blank_page xs) (slice_index xs k)) ≡ Some 0 →
        option_and_then (λ (page : Page). slice_get page.words index) (cond b (Some (blank_page x)) (page_of (map blank_page xs) (slice_index xs k))) ≡ Some 0
    choose true rest = zero_word index low
    choose false rest = rest

wide-blank : (frames : List ℕ) → AreWide (map blank_page frames)
unfolding blank_page
wide-blank [] = tt
wide-blank (x ∷ xs) = (length-replicate {A = ℕ} 512 0, wide-blank xs)

-- the sweep before its first page
abbrev pub start : Sweep
start = record { used = 2; large = 0; small = 0; middle = 0; last = 0 }

-- an image of blank pages is swept up to its first page
pub swept_first : (mapping : Map) (image : TableImage) (sweep : Sweep) → image.pages ≡ map blank_page (frames_of image.pages) → AreTableFrames image.root (frames_of image.pages) → length (frames_of image.pages) ≡ table_count mapping → sweep ≡ start → IsSweptTo mapping image sweep 0
swept_first mapping image sweep blank tables count begun = subst (λ (s : Sweep). IsSweptTo mapping image s 0) (sym begun) (record {
  frames = record { root = image.root; are = tables; enough = count };
  wide = subst AreWide (sym blank) (wide-blank (frames_of image.pages));
  counted = begins_counted mapping 0 0;
  written = begins_written mapping (frames_of image.pages) image.pages (λ k index region at low. word k index (let within = table_within mapping k region at in omega arith) low);
})
  where
    word : (k index : ℕ) → k < length (frames_of image.pages) → index < 512 → word_in image.pages (slice_index (frames_of image.pages) k) index ≡ Some 0
    word k index within low = ap (λ (pages : List Page). word_in pages (slice_index (frames_of image.pages) k) index) blank ∙ blank_word (frames_of image.pages) k index within low

-- swept over all ranges it is the least image
pub swept_last : (ranges : List MapRange) (frames : List ℕ) (image : TableImage) (sweep : Sweep) (index page : ℕ) → IsBetween ranges index page → index ≡ length ranges → frames_of image.pages ≡ frames → IsSweptTo (target_of ranges) image sweep page → image.pages ≡ least_image (target_of ranges) frames
swept_last ranges frames image sweep index page between all same was =
    let last = all_before ranges page (subst (λ (n : ℕ). IsBetween ranges n page) all between) in
    subst (λ (fs : List ℕ). image.pages ≡ least_image (target_of ranges) fs) same
    (pages_are_least (target_of ranges) (frames_of image.pages) image.pages was.frames refl was.wide (all_written (target_of ranges) (frames_of image.pages) image.pages page last was.written))

-- and all its tables are counted
pub counted_last : (ranges : List MapRange) (sweep : Sweep) (index page : ℕ) → IsBetween ranges index page → index ≡ length ranges → IsCounted (target_of ranges) page 1 sweep → sweep.used ≡ table_count (target_of ranges)
counted_last ranges sweep index page between all was =
    all_linked (target_of ranges) page sweep (all_before ranges page (subst (λ (n : ℕ). IsBetween ranges n page) all between)) was (table_at (target_of ranges))

-- the frames of sorted ranges are low
pub maps_low : (ranges : List MapRange) → AreMapRanges ranges → MapsLow (target_of ranges)
maps_low ranges sorted page target at =
    let found = mapped_range ranges page (ap is_some at) in
    let bounded = bounds ranges 0 found.0 found.1 sorted found.2 in
    let frames = bounded.frames in
    let low = found.3 in
    let high = found.4 in
    let range : MapRange = found.1 in
    let same : record { frame = range.first + (page - range.page); kind = range.kind } ≡ target = same_Some (record { frame = range.first + (page - range.page); kind = range.kind }) target (sym (target_at ranges 0 found.0 page range sorted found.2 low high) ∙ at) in
    let frame : range.first + (page - range.page) ≡ target.frame = ap (λ (t : Target). t.frame) same in
    omega arith
