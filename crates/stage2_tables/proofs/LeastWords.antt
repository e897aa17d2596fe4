-- Where the word of a region stands in the least tables.
use Rattle.std.proofs.Common.{◌≡◌, ◌≢◌, ℕ, zero, suc, ◌+◌, ◌*◌, ◌^◌, ◌<◌, ◌≤◌, ◌⊎◌, Bool, true, false, eqb, List, [], ◌∷◌, ◌++◌, length, map, Some, refl, sym, ap, subst, ◌∙◌, arith, inl, inr}
use Rattle.std.specs.Prelude.{slice_index}
use Rattle.std.specs.List.{position_or_len, slice_get, flat_map, range_with_len}
use Rattle.std.specs.Option.{option_and_then}
use Rattle.std.proofs.lemmas.Option.{slice_get-get_or, same_Some}
use Rattle.std.proofs.lemmas.Bool.{false≢true}
use Rattle.std.proofs.lemmas.Bool.Decides.{nat_tests, eqb_tells}
use Rattle.texts.specs.Consecutive.{numbers}
use Rattle.described.specs.Regions.{Map, Region, has_table, regions_in, all_regions, table_regions, tables_of, table_count}
use Rattle.texts.proofs.Ascending.{IsMember, member-filter}
use Rattle.described.proofs.RegionLemmas.{both_true}
use Rattle.texts.proofs.NumberLists.{length-map-numbers, get_or-map-numbers}
use Rattle.stage2_walk.specs.Pages.{Page, page_of, word_in}
use Rattle.stage2_tables.specs.TableFrames.{AreTableFrames}
use Rattle.stage2_tables.specs.Least.{same_region, table_frame, region_word, part_of, table_page, least_image}

same_region_tells : (a b : Region) → same_region a b ≡ true → a ≡ b
same_region_tells a b h =
    let parts = both_true (eqb a.level b.level) (eqb a.page b.page) h in
    let levels : a.level ≡ b.level = from_test a.level b.level parts.0 in
    let pages : a.page ≡ b.page = from_test a.page b.page parts.1 in
    ap (λ (l : ℕ). record { level = l; page = a.page }) levels ∙ ap (λ (p : ℕ). record { level = b.level; page = p }) pages
  where
    from_test : (a b : ℕ) → eqb a b ≡ true → a ≡ b
    from_test a b h = grind (arith, nat_tests)

same_region_self : (a : Region) → same_region a a ≡ true
same_region_self a = let x : eqb a.level a.level ≡ true = grind (arith, nat_tests) in let y : eqb a.page a.page ≡ true = grind (arith, nat_tests) in rw (x, y) refl

-- the place of a region in a list that has it
pub record IsPlace (regions : List Region) (region : Region) (place : ℕ) : Type 0 where
  pub found : position_or_len (same_region region) regions ≡ place
  pub within : place < length regions
  pub is : slice_get regions place ≡ Some region

pub place_found : (regions : List Region) (region : Region) → IsMember region regions → (place : ℕ) × IsPlace regions region place
place_found [] region is = absurd is
place_found (x ∷ xs) region is = by_test (same_region region x) refl is (place_found xs region)
  where
    by_test : (b : Bool) → same_region region x ≡ b → (x ≡ region) ⊎ IsMember region xs → (IsMember region xs → (place : ℕ) × IsPlace xs region place) → (place : ℕ) × IsPlace (x ∷ xs) region place
    by_test true hit is rest = (0, record { found = rw hit refl; within = omega arith; is = ap Some (sym (same_region_tells region x hit)) })
    by_test false miss (inl same) rest = absurd (false≢true (sym miss ∙ ap (same_region region) same ∙ same_region_self region))
    by_test false miss (inr is) rest =
        let r = rest is in
        let found = r.1.found in
        let within = r.1.within in
        (suc r.0, record { found = rw miss (omega arith); within = omega arith; is = r.1.is })

-- members at one place are one region
pub one_place : (regions : List Region) (a b : Region) (place : ℕ) → IsPlace regions a place → IsPlace regions b place → a ≡ b
one_place regions a b place p q = same_Some a b (sym p.is ∙ q.is)

-- finding a page by a key that tells members apart
find_page : (regions : List Region) (key : Region → ℕ) (make : Region → Page) (region : Region) → ((r : Region) → (make r).frame ≡ key r) → ((r : Region) → IsMember r regions → key r ≡ key region → r ≡ region) → IsMember region regions → page_of (map make regions) (key region) ≡ Some (make region)
find_page [] key make region named apart is = absurd is
find_page (x ∷ xs) key make region named apart is = by_test (eqb_tells (make x).frame (key region)) is (λ (is : IsMember region xs). find_page xs key make region named (λ r is. apart r (inr is)) is)
  where
    by_test : ((eqb (make x).frame (key region) ≡ true) × ((make x).frame ≡ key region)) ⊎ ((eqb (make x).frame (key region) ≡ false) × ((make x).frame ≢ key region)) → (x ≡ region) ⊎ IsMember region xs → (IsMember region xs → page_of (map make xs) (key region) ≡ Some (make region)) → page_of (map make (x ∷ xs)) (key region) ≡ Some (make region)
    by_test (inl h) is rest = rw h.0 (ap (λ (r : Region). Some (make r)) (apart x (inl refl) (sym (named x) ∙ h.1)))
    by_test (inr h) (inl same) rest = absurd (h.1 (named x ∙ ap key same))
    by_test (inr h) (inr is) rest = rw h.0 (rest is)

-- frames at two places of the tables are equal only where the places are
apart_places : (root : ℕ) (frames : List ℕ) (j k : ℕ) → AreTableFrames root frames → j < length frames → k < length frames → slice_index frames j ≡ slice_index frames k → j ≡ k
apart_places root frames j k are low high same = by_order (order j k)
  where
    order : (j k : ℕ) → (j < k) ⊎ ((j ≡ k) ⊎ (k < j))
    order j k = grind arith

    by_order : (j < k) ⊎ ((j ≡ k) ⊎ (k < j)) → j ≡ k
    by_order (inl less) = absurd (are.apart j k less high same)
    by_order (inr (inl is)) = is
    by_order (inr (inr more)) = absurd (are.apart k j more low (sym same))

-- where a region has its table
pub table_place : (mapping : Map) (frames : List ℕ) (region : Region) (place : ℕ) → IsPlace (tables_of mapping) region place → table_frame mapping frames region ≡ slice_index frames place
table_place mapping frames region place at = ap (slice_index frames) at.found

-- the page of a region that has a table
pub least_page : (mapping : Map) (root : ℕ) (frames : List ℕ) (region : Region) → AreTableFrames root frames → length frames ≡ table_count mapping → IsMember region (tables_of mapping) → page_of (least_image mapping frames) (table_frame mapping frames region) ≡ Some (table_page mapping frames region)
unfolding least_image table_page
least_page mapping root frames region are enough is =
    find_page (tables_of mapping) (table_frame mapping frames) (table_page mapping frames) region (λ r. refl) apart is
  where
    apart : (r : Region) → IsMember r (tables_of mapping) → table_frame mapping frames r ≡ table_frame mapping frames region → r ≡ region
    apart r there same =
        let a = place_found (tables_of mapping) r there in
        let b = place_found (tables_of mapping) region is in
        let low = a.1.within in
        let high = b.1.within in
        let places : a.0 ≡ b.0 = apart_places root frames a.0 b.0 are (omega arith) (omega arith) (sym (table_place mapping frames r a.0 a.1) ∙ same ∙ table_place mapping frames region b.0 b.1) in
        one_place (tables_of mapping) r region b.0 (subst (IsPlace (tables_of mapping) r) places a.1) b.1

-- the word at an index of a table
table_word_at : (mapping : Map) (frames : List ℕ) (region : Region) (index : ℕ) → index < 512 → slice_get (table_page mapping frames region).words index ≡ Some (region_word mapping frames (part_of region index))
unfolding table_page
table_word_at mapping frames region index low =
    let f : ℕ → ℕ = λ (i : ℕ). region_word mapping frames (part_of region i) in
    let count : length (map f (numbers 0 512)) ≡ 512 = length-map-numbers f 0 512 in
    let at : 0 + index ≡ index = omega arith in
    slice_get-get_or (map f (numbers 0 512)) index 0 (omega arith) ∙ ap Some (get_or-map-numbers f 0 512 index 0 low ∙ ap f at)

-- its words
pub least_word : (mapping : Map) (root : ℕ) (frames : List ℕ) (region : Region) (index : ℕ) → AreTableFrames root frames → length frames ≡ table_count mapping → IsMember region (tables_of mapping) → index < 512 → word_in (least_image mapping frames) (table_frame mapping frames region) index ≡ Some (region_word mapping frames (part_of region index))
unfolding word_in
least_word mapping root frames region index are enough is low =
    ap (option_and_then (λ (page : Page). slice_get page.words index)) (least_page mapping root frames region are enough is) ∙ table_word_at mapping frames region index low

-- the regions of the least tables
pub root_member : (mapping : Map) → IsMember (record { level = 0; page = 0 }) (tables_of mapping)
root_member mapping = inl refl

pub second_member : (mapping : Map) → IsMember (record { level = 0; page = 2 ^ 27 }) (tables_of mapping)
second_member mapping = inr (inl refl)

member-append_left : {X : Type 0} (x : X) (xs ys : List X) → IsMember x xs → IsMember x (xs ++ ys)
member-append_left x [] ys is = absurd is
member-append_left x (z ∷ zs) ys (inl same) = inl same
member-append_left x (z ∷ zs) ys (inr is) = inr (member-append_left x zs ys is)

member-append_right : {X : Type 0} (x : X) (xs ys : List X) → IsMember x ys → IsMember x (xs ++ ys)
member-append_right x [] ys is = is
member-append_right x (z ∷ zs) ys is = inr (member-append_right x zs ys is)

member-range : {X : Type 0} (f : ℕ → List X) (x : X) (a n k : ℕ) → a ≤ k → k < a + n → IsMember x (f k) → IsMember x (flat_map f (range_with_len a n))
member-range f x a zero k low high is = absurd (omega arith)
member-range f x a (suc n) k low high is = by_place (at_or_past a k low) (λ (past : a < k). member-range f x (a + 1) n k (omega arith) (omega arith) is)
  where
    at_or_past : (a k : ℕ) → a ≤ k → (a ≡ k) ⊎ (a < k)
    at_or_past a k low = grind arith

    by_place : (a ≡ k) ⊎ (a < k) → (a < k → IsMember x (flat_map f (range_with_len (a + 1) n))) → IsMember x (f a ++ flat_map f (range_with_len (a + 1) n))
    by_place (inl same) rest = member-append_left x (f a) (flat_map f (range_with_len (a + 1) n)) (subst (λ (j : ℕ). IsMember x (f j)) (sym same) is)
    by_place (inr past) rest = member-append_right x (f a) (flat_map f (range_with_len (a + 1) n)) (rest past)

member-map_range : {X : Type 0} (f : ℕ → X) (a n k : ℕ) → a ≤ k → k < a + n → IsMember (f k) (map f (range_with_len a n))
member-map_range f a zero k low high = absurd (omega arith)
member-map_range f a (suc n) k low high = by_place (at_or_past a k low) (λ (past : a < k). member-map_range f (a + 1) n k (omega arith) (omega arith))
  where
    at_or_past : (a k : ℕ) → a ≤ k → (a ≡ k) ⊎ (a < k)
    at_or_past a k low = grind arith

    by_place : (a ≡ k) ⊎ (a < k) → (a < k → IsMember (f k) (map f (range_with_len (a + 1) n))) → IsMember (f k) (f a ∷ map f (range_with_len (a + 1) n))
    by_place (inl same) rest = inl (ap f same)
    by_place (inr past) rest = inr (rest past)

has_member : (mapping : Map) (region : Region) → IsMember region all_regions → has_table mapping region ≡ true → IsMember region (tables_of mapping)
unfolding table_regions
has_member mapping region is has = inr (inr (member-filter (has_table mapping) all_regions region is has))

-- a 1 GiB region with a table
pub large_member : (mapping : Map) (large : ℕ) → large < 1024 → has_table mapping (record { level = 1; page = large * 2 ^ 18 }) ≡ true → IsMember (record { level = 1; page = large * 2 ^ 18 }) (tables_of mapping)
unfolding numbers
large_member mapping large low has = has_member mapping (record { level = 1; page = large * 2 ^ 18 }) (member-range regions_in (record { level = 1; page = large * 2 ^ 18 }) 0 1024 large (omega arith) (omega arith) (inl refl)) has

-- a 2 MiB region with a table
pub small_member : (mapping : Map) (large index : ℕ) → large < 1024 → index < 512 → has_table mapping (record { level = 2; page = large * 2 ^ 18 + index * 2 ^ 9 }) ≡ true → IsMember (record { level = 2; page = large * 2 ^ 18 + index * 2 ^ 9 }) (tables_of mapping)
unfolding numbers
small_member mapping large index low within has =
    has_member mapping (record { level = 2; page = large * 2 ^ 18 + index * 2 ^ 9 })
    (member-range regions_in (record { level = 2; page = large * 2 ^ 18 + index * 2 ^ 9 }) 0 1024 large (omega arith) (omega arith)
    (inr (member-map_range (λ (i : ℕ). record { level = 2; page = large * 2 ^ 18 + i * 2 ^ 9 }) 0 512 index (omega arith) (omega arith)))) has
