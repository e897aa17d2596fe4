-- The places of the pages of a file as a map from frames, and the index that it makes.
use Rattle.std.proofs.Common.{◌≡◌, ◌≢◌, ℕ, zero, suc, ◌+◌, ◌*◌, ◌^◌, ◌<◌, ◌⊎◌, true, false, cond, eqb, List, [], ◌∷◌, length, get_or, map, drop, Option, Some, None, refl, sym, ap, subst, ◌∙◌, arith, inl, inr, ⊎_elim}
use Rattle.std.specs.Option.{is_some}
use Rattle.std.specs.Ordering.{nat_cmp}
use Rattle.std.specs.BTreeMap.{BTreeMap, IsEmpty, IsOrdered, Updates, btree_map_len, get, is_at}
use Rattle.std.specs.Map.{keys_of, lookup}
use Rattle.std.proofs.lemmas.Bool.Decides.{nat_tests, eqb_tells}
use Rattle.std.proofs.lemmas.List.{length-map, length-drop}
use Rattle.std.proofs.lemmas.Map.Keys.{below_from_sorted}
use Rattle.std.proofs.lemmas.Option.{same_Some, none-some}
use Rattle.texts.specs.Consecutive.{numbers}
use Rattle.texts.proofs.NumberLists.{find-map-numbers, find-map-numbers-none, same-map-numbers}
use Rattle.stage2_walk.specs.Pages.{Page, page_of, number_at, page_at, pages_at}
use Rattle.stage2_walk.specs.Places.{place_in, AreAscending}
use Rattle.stage2_walk.specs.PrivatePlaceMaps.{ArePlaces, entry_of}
use Rattle.stage2_walk.specs.ImageViews.{IsIndex}
use Rattle.stage2_walk.specs.declared.places.Place.{Place}
use Rattle.stage2_walk.proofs.Numbers.{little_from-drop}
use Rattle.stage2_walk.proofs.PageLemmas.{page_at-frame}
use Rattle.stage2_walk.proofs.PlaceLemmas.{eqb-apart, eqb-same}
use Rattle.stage2_walk.proofs.ReadLemmas.{stands_before, stands_by_pages}

pub ArePlaces-none : (file : List ℕ) (places : BTreeMap ℕ ℕ) → IsEmpty places → btree_map_len places ≡ 0 → IsOrdered nat_cmp places → ArePlaces file 0 places
ArePlaces-none file places empty none ordered = record {
  found = λ k low. absurd (omega arith);
  within = λ frame k at. absurd (nowhere frame k at);
  right = λ frame k at. absurd (nowhere frame k at);
  whole = none;
  ordered = ordered;
}
  where
    nowhere : (frame k : ℕ) → get nat_cmp places frame ≡ Some k → ⊥
    nowhere frame k at = none-some k (sym (ap (lookup (is_at (nat_cmp frame))) empty) ∙ at)

-- a search for another frame passes, and one for the same frame hits
other_frame : (f g : ℕ) → f ≢ g → is_at (nat_cmp f) g ≡ false
other_frame f g apart = grind (arith, nat_tests)

same_frame : (f : ℕ) → is_at (nat_cmp f) f ≡ true
same_frame f = grind (arith, nat_tests)

-- one page more
pub ArePlaces-more : (file : List ℕ) (k frame : ℕ) (old new : BTreeMap ℕ ℕ) → ArePlaces file k old → frame ≡ number_at file (24 + 4104 * k) → get nat_cmp old frame ≡ None →
    Updates nat_cmp old new frame (Some k) → btree_map_len new ≡ k + 1 → IsOrdered nat_cmp new → ArePlaces file (k + 1) new
ArePlaces-more file k frame old new are is fresh put whole ordered = record {
  found = λ j low. found j (side j low);
  within = λ f j at. (told f j at).0;
  right = λ f j at. (told f j at).1;
  whole = whole;
  ordered = ordered;
}
  where
    side : (j : ℕ) → j < k + 1 → (j < k) ⊎ (j ≡ k)
    side j low = grind arith

    found : (j : ℕ) → (j < k) ⊎ (j ≡ k) → get nat_cmp new (number_at file (24 + 4104 * j)) ≡ Some j
    found j (inl low) =
        let was : get nat_cmp old (number_at file (24 + 4104 * j)) ≡ Some j = are.found j low in
        let apart : frame ≢ number_at file (24 + 4104 * j) = λ same. none-some j (sym fresh ∙ ap (get nat_cmp old) same ∙ was) in
        put.2 (number_at file (24 + 4104 * j)) (other_frame frame (number_at file (24 + 4104 * j)) apart) ∙ was
    found j (inr at) =
        ap (λ (i : ℕ). get nat_cmp new (number_at file (24 + 4104 * i))) at ∙ ap (get nat_cmp new) (sym is) ∙ put.1 ∙ ap Some (sym at)

    told : (f j : ℕ) → get nat_cmp new f ≡ Some j → (j < k + 1) × (number_at file (24 + 4104 * j) ≡ f)
    told f j at = ⊎_elim
        (λ (h : (eqb frame f ≡ true) × (frame ≡ f)).
        let own : k ≡ j = same_Some k j (sym put.1 ∙ ap (get nat_cmp new) h.1 ∙ at) in
        (omega arith, ap (λ (i : ℕ). number_at file (24 + 4104 * i)) (sym own) ∙ sym is ∙ h.1))
        (λ (h : (eqb frame f ≡ false) × (frame ≢ f)).
        let was : get nat_cmp old f ≡ Some j = sym (put.2 f (other_frame frame f h.1)) ∙ at in
        let low : j < k = are.within f j was in
        (omega arith, are.right f j was))
        (eqb_tells frame f)

-- whether the frame of the next page stands earlier is whether it is in the map
pub stands_by_places : (file : List ℕ) (n k : ℕ) (places : BTreeMap ℕ ℕ) → k < n → ArePlaces file k places → stands_before file n k ≡ is_some (get nat_cmp places (number_at file (24 + 4104 * k)))
unfolding pages_at
stands_by_places file n k places low are =
    stands_by_pages file n k low ∙ by_place (number_at file (24 + 4104 * k)) (get nat_cmp places (number_at file (24 + 4104 * k))) refl
  where
    page : ℕ → Page
    page j = page_at file (24 + 4104 * j)

    frame_of : (j : ℕ) → (page j).frame ≡ number_at file (24 + 4104 * j)
    frame_of j = page_at-frame file (24 + 4104 * j)

    by_place : (f : ℕ) (o : Option ℕ) → get nat_cmp places f ≡ o → is_some (page_of (pages_at file 24 k) f) ≡ is_some o
    by_place f None none =
        ap is_some (find-map-numbers-none (λ (p : Page). eqb p.frame f) page 0 k (λ j _ below. eqb-apart (page j).frame f (λ same.
        none-some j (sym none ∙ ap (get nat_cmp places) (sym (sym (frame_of j) ∙ same)) ∙ are.found j (omega arith)))))
    by_place f (Some j) at =
        let within : j < k = are.within f j at in
        let hit : (page j).frame ≡ f = frame_of j ∙ are.right f j at in
        ap is_some (find-map-numbers (λ (p : Page). eqb p.frame f) page 0 k j (omega arith) (omega arith) (eqb-same (page j).frame f hit) (λ i _ below. eqb-apart (page i).frame f (λ same.
        let both : Some i ≡ Some j = sym (are.found i (omega arith)) ∙ ap (get nat_cmp places) (sym (frame_of i) ∙ same) ∙ at in
        let equal = same_Some i j both in
        omega arith)))

-- the index that the entries make has the places of the map
place_in-entries : (entries : List (ℕ × ℕ)) (f : ℕ) → place_in (map entry_of entries) f ≡ lookup (is_at (nat_cmp f)) entries
place_in-entries [] f = refl
place_in-entries (entry ∷ entries) f = by_test (eqb_tells entry.0 f) (place_in-entries entries f)
  where
    by_test : ((eqb entry.0 f ≡ true) × (entry.0 ≡ f)) ⊎ ((eqb entry.0 f ≡ false) × (entry.0 ≢ f)) → place_in (map entry_of entries) f ≡ lookup (is_at (nat_cmp f)) entries →
        cond (eqb entry.0 f) (Some entry.1) (place_in (map entry_of entries) f) ≡ cond (is_at (nat_cmp f) entry.0) (Some entry.1) (lookup (is_at (nat_cmp f)) entries)
    by_test (inl h) rest =
        let hit : is_at (nat_cmp f) entry.0 ≡ true = ap (is_at (nat_cmp f)) h.1 ∙ same_frame f in
        rw (h.0, hit) refl
    by_test (inr h) rest =
        let miss : is_at (nat_cmp f) entry.0 ≡ false = other_frame f entry.0 (λ same. h.1 (sym same)) in
        rw (h.0, miss) rest

frame-entries : (entries : List (ℕ × ℕ)) (k : ℕ) (d : Place) → (get_or (map entry_of entries) k d).frame ≡ get_or (keys_of entries) k d.frame
frame-entries [] k d = refl
frame-entries (entry ∷ entries) zero d = refl
frame-entries (entry ∷ entries) (suc k) d = frame-entries entries k d

AreAscending-entries : (places : BTreeMap ℕ ℕ) → IsOrdered nat_cmp places → AreAscending (map entry_of places.entries)
AreAscending-entries places ordered j k d less within =
    let count : length (map entry_of places.entries) ≡ length places.entries = length-map places.entries entry_of in
    let keys : length (keys_of places.entries) ≡ length places.entries = length-map places.entries (λ (e : ℕ × ℕ). e.0) in
    let rise : get_or (keys_of places.entries) j d.frame < get_or (keys_of places.entries) k d.frame = below_from_sorted (keys_of places.entries) j k d.frame ordered less (omega arith) in
    omega (arith, frame-entries places.entries j d, frame-entries places.entries k d)

number_at-behind : (file : List ℕ) (p o : ℕ) → number_at (drop p file) o ≡ number_at file (p + o)
unfolding number_at
number_at-behind file p o = little_from-drop p o 8 file

-- the pages behind the header
pub pages-behind : (file : List ℕ) (n : ℕ) → pages_at (drop 24 file) 0 n ≡ pages_at file 24 n
unfolding pages_at page_at
pages-behind file n = same-map-numbers (λ (k : ℕ). page_at (drop 24 file) (0 + 4104 * k)) (λ (k : ℕ). page_at file (24 + 4104 * k)) 0 n (λ k _ low. page-behind k)
  where
    page-behind : (k : ℕ) → page_at (drop 24 file) (0 + 4104 * k) ≡ page_at file (24 + 4104 * k)
    page-behind k =
        let frame : number_at (drop 24 file) (0 + 4104 * k) ≡ number_at file (24 + 4104 * k) = number_at-behind file 24 (0 + 4104 * k) ∙ (let at : 24 + (0 + 4104 * k) ≡ 24 + 4104 * k = omega arith in ap (number_at file) at) in
        let words : map (λ (i : ℕ). number_at (drop 24 file) (0 + 4104 * k + 8 + 8 * i)) (numbers 0 512) ≡ map (λ (i : ℕ). number_at file (24 + 4104 * k + 8 + 8 * i)) (numbers 0 512) =
        same-map-numbers (λ (i : ℕ). number_at (drop 24 file) (0 + 4104 * k + 8 + 8 * i)) (λ (i : ℕ). number_at file (24 + 4104 * k + 8 + 8 * i)) 0 512
        (λ i _ low. number_at-behind file 24 (0 + 4104 * k + 8 + 8 * i) ∙ (let at : 24 + (0 + 4104 * k + 8 + 8 * i) ≡ 24 + 4104 * k + 8 + 8 * i = omega arith in ap (number_at file) at)) in
        cc

-- the bytes behind the header and the entries of the map are those of an image
pub IsIndex-entries : (file : List ℕ) (n : ℕ) (places : BTreeMap ℕ ℕ) (bytes : List ℕ) (index : List Place) → length file ≡ 24 + 4104 * n → ((k : ℕ) → k < n → number_at file (24 + 4104 * k) < 2 ^ 28) →
    ArePlaces file n places → bytes ≡ drop 24 file → index ≡ map entry_of places.entries → IsIndex bytes index
IsIndex-entries file n places bytes index size low are behind entries = record {
  bytes_whole = (let all = ap length behind in let left = length-drop 24 file in omega (arith, count));
  found = λ k within. ap (place_in index) (at_place k) ∙ search_is (number_at file (24 + 4104 * k)) ∙ are.found k (omega (arith, count));
  within = λ f k at. (let was = are.within f k (sym (search_is f) ∙ at) in omega (arith, count));
  right = λ f k at. at_place k ∙ are.right f k (sym (search_is f) ∙ at);
  ascending = subst AreAscending (sym entries) (AreAscending-entries places are.ordered);
  low = λ k within. (let was = low k (omega (arith, count)) in omega (arith, at_place k));
}
  where
    count : length index ≡ n
    count = ap length entries ∙ length-map places.entries entry_of ∙ are.whole

    at_place : (k : ℕ) → number_at bytes (4104 * k) ≡ number_at file (24 + 4104 * k)
    at_place k = ap (λ (bs : List ℕ). number_at bs (4104 * k)) behind ∙ number_at-behind file 24 (4104 * k)

    search_is : (f : ℕ) → place_in index f ≡ get nat_cmp places f
    search_is f = ap (λ (ps : List Place). place_in ps f) entries ∙ place_in-entries places.entries f
