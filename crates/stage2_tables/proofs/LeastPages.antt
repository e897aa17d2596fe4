-- An image of which each word is that of its region is the least image.
use Rattle.std.proofs.Common.{◌≡◌, ◌≢◌, ℕ, zero, suc, ◌<◌, ◌⊎◌, Bool, true, false, cond, eqb, List, [], ◌∷◌, length, map, get_or, Some, refl, sym, ap, ◌∙◌, arith, inl, inr}
use Rattle.std.specs.Prelude.{slice_index, slice_set}
use Rattle.std.specs.Option.{option_and_then}
use Rattle.std.specs.List.{slice_get}
use Rattle.std.proofs.lemmas.List.{length-set}
use Rattle.std.proofs.lemmas.Option.{slice_get-get_or, slice_get_within, none-some, same_Some}
use Rattle.std.proofs.lemmas.Bool.Decides.{eqb_tells}
use Rattle.described.specs.Regions.{Map, Region, tables_of}
use Rattle.texts.proofs.NumberLists.{map-numbers-from_all}
use Rattle.stage2_walk.specs.Pages.{Page, page_of, word_in, frames_of, with_word}
use Rattle.stage2_tables.specs.Least.{region_word, part_of, table_frame, table_page, least_image}
use Rattle.stage2_tables.specs.Sweeps.{IsTable, HasFrames, AreWide}
use Rattle.stage2_tables.proofs.LeastWords.{IsPlace, place_found, table_place}
use Rattle.stage2_tables.proofs.TableOrder.{member_at}
use Rattle.stage2_tables.proofs.SweepFacts.{table_once}

-- a written word keeps the sizes
pub wide-with_word : (pages : List Page) (frame index word : ℕ) → AreWide pages → AreWide (with_word pages frame index word)
unfolding with_word
wide-with_word [] frame index word wide = tt
wide-with_word (page ∷ pages) frame index word wide = (by_test (eqb page.frame frame), wide-with_word pages frame index word wide.1)
  where
    by_test : (b : Bool) → length (cond b (record { frame = page.frame; words = slice_set page.words index word }) page).words ≡ 512
    by_test true = length-set page.words index word ∙ wide.0
    by_test false = wide.0

wide_at : (pages : List Page) (k : ℕ) (page : Page) → AreWide pages → slice_get pages k ≡ Some page → length page.words ≡ 512
wide_at [] k page wide at = absurd (none-some page at)
wide_at (p ∷ ps) zero page wide at = ap (λ (q : Page). length q.words) (sym (same_Some p page at)) ∙ wide.0
wide_at (p ∷ ps) (suc k) page wide at = wide_at ps k page wide.1 at

frame_at : (pages : List Page) (k : ℕ) (page : Page) → slice_get pages k ≡ Some page → slice_index (frames_of pages) k ≡ page.frame
frame_at [] k page at = absurd (none-some page at)
frame_at (p ∷ ps) zero page at = ap (λ (q : Page). q.frame) (same_Some p page at)
frame_at (p ∷ ps) (suc k) page at = frame_at ps k page at

-- a page is found by its frame where no earlier one has it
found_at : (pages : List Page) (k : ℕ) (page : Page) → slice_get pages k ≡ Some page → ((j : ℕ) → j < k → slice_index (frames_of pages) j ≢ page.frame) → page_of pages page.frame ≡ Some page
found_at [] k page at apart = absurd (none-some page at)
found_at (p ∷ ps) zero page at apart = by_test (eqb_tells p.frame page.frame)
  where
    same : p ≡ page
    same = same_Some p page at

    by_test : ((eqb p.frame page.frame ≡ true) × (p.frame ≡ page.frame)) ⊎ ((eqb p.frame page.frame ≡ false) × (p.frame ≢ page.frame)) → page_of (p ∷ ps) page.frame ≡ Some page
    by_test (inl h) = ap (λ (b : Bool). cond b (Some p) (page_of ps page.frame)) h.0 ∙ ap Some same
    by_test (inr h) = absurd (h.1 (ap (λ (q : Page). q.frame) same))
found_at (p ∷ ps) (suc k) page at apart = by_test (eqb_tells p.frame page.frame) (found_at ps k page at (λ j less. apart (suc j) (omega arith)))
  where
    by_test : ((eqb p.frame page.frame ≡ true) × (p.frame ≡ page.frame)) ⊎ ((eqb p.frame page.frame ≡ false) × (p.frame ≢ page.frame)) → page_of ps page.frame ≡ Some page → page_of (p ∷ ps) page.frame ≡ Some page
    by_test (inl h) rest = absurd (apart zero (omega arith) h.1)
    by_test (inr h) rest = ap (λ (b : Bool). cond b (Some p) (page_of ps page.frame)) h.0 ∙ rest

-- lists that agree place by place
from_places : {X : Type 0} (f : X → Page) (pages : List Page) (xs : List X) → length pages ≡ length xs → ((k : ℕ) (page : Page) (x : X) → slice_get pages k ≡ Some page → slice_get xs k ≡ Some x → page ≡ f x) → pages ≡ map f xs
from_places f [] [] same each = refl
from_places f [] (x ∷ xs) same each = absurd (omega arith)
from_places f (p ∷ ps) [] same each = absurd (omega arith)
from_places f (p ∷ ps) (x ∷ xs) same each =
    let first : p ≡ f x = each zero p x refl refl in
    let rest : ps ≡ map f xs = from_places f ps xs (omega arith) (λ k page y at there. each (suc k) page y at there) in
    ap (λ (q : Page). q ∷ ps) first ∙ ap (λ (qs : List Page). f x ∷ qs) rest

length_frames : (pages : List Page) → length (frames_of pages) ≡ length pages
length_frames [] = refl
length_frames (p ∷ ps) = let rest = length_frames ps in omega arith

each_page : (mapping : Map) (frames : List ℕ) (pages : List Page) (k : ℕ) (page : Page) (region : Region) → HasFrames mapping frames → frames_of pages ≡ frames → AreWide pages →
    ((index : ℕ) → index < 512 → word_in pages (slice_index frames k) index ≡ Some (region_word mapping frames (part_of region index))) → slice_get pages k ≡ Some page → IsTable mapping k region → page ≡ table_page mapping frames region
unfolding table_page word_in
each_page mapping frames pages k page region has same wide words at there =
    ap (λ (f : ℕ). record { frame = f; words = page.words }) (frame ∙ sym named)
    ∙ ap (λ (ws : List ℕ). record { frame = table_frame mapping frames region; words = ws }) (map-numbers-from_all (λ (index : ℕ). region_word mapping frames (part_of region index)) page.words 512 0 (wide_at pages k page wide at) each_word)
  where
    frame : page.frame ≡ slice_index frames k
    frame = sym (frame_at pages k page at) ∙ ap (λ (fs : List ℕ). slice_index fs k) same

    place : (place : ℕ) × IsPlace (tables_of mapping) region place
    place = place_found (tables_of mapping) region (member_at (tables_of mapping) k region there)

    named : table_frame mapping frames region ≡ slice_index frames k
    named = table_place mapping frames region place.0 place.1 ∙ ap (slice_index frames) (table_once mapping place.0 k region place.1.is there)

    within : k < length frames
    within = let low = slice_get_within (tables_of mapping) k region there in let enough = has.enough in omega arith

    found : page_of pages page.frame ≡ Some page
    found = found_at pages k page at (λ j less clash. has.are.apart j k less within (ap (λ (fs : List ℕ). slice_index fs j) (sym same) ∙ clash ∙ frame))

    each_word : (index : ℕ) → index < 512 → get_or page.words index 0 ≡ region_word mapping frames (part_of region index)
    each_word index low =
        let word : slice_get page.words index ≡ Some (region_word mapping frames (part_of region index)) =
        sym (ap (option_and_then (λ (p : Page). slice_get p.words index)) (ap (page_of pages) (sym frame) ∙ found)) ∙ words index low in
        let long = wide_at pages k page wide at in
        same_Some (get_or page.words index 0) (region_word mapping frames (part_of region index)) (sym (slice_get-get_or page.words index 0 (omega arith)) ∙ word)

pub pages_are_least : (mapping : Map) (frames : List ℕ) (pages : List Page) → HasFrames mapping frames → frames_of pages ≡ frames → AreWide pages →
    ((k index : ℕ) (region : Region) → IsTable mapping k region → index < 512 → word_in pages (slice_index frames k) index ≡ Some (region_word mapping frames (part_of region index))) → pages ≡ least_image mapping frames
unfolding least_image
pages_are_least mapping frames pages has same wide words = from_places (table_page mapping frames) pages (tables_of mapping) count each
  where
    count : length pages ≡ length (tables_of mapping)
    count = let enough = has.enough in let all = length_frames pages in let frames_same = ap length same in omega arith

    each : (k : ℕ) (page : Page) (region : Region) → slice_get pages k ≡ Some page → IsTable mapping k region → page ≡ table_page mapping frames region
    each k page region at there = each_page mapping frames pages k page region has same wide (λ index low. words k index region there low) at there
