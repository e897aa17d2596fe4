-- The pages that the bytes of an image spell, read and changed through its index.
use Rattle.std.proofs.Common.{◌≡◌, ◌≢◌, ℕ, ◌+◌, ◌*◌, ◌<◌, ◌≤◌, ◌⊎◌, false, eqb, List, [], length, get_or, map, Option, Some, None, refl, sym, ap, ◌∙◌, arith, ⊎_elim}
use Rattle.std.specs.List.{slice_get, slice_set}
use Rattle.std.specs.Option.{option_and_then, is_some}
use Rattle.std.proofs.lemmas.Option.{slice_get-get_or, slice_get_past, same_Some, none-some}
use Rattle.std.proofs.lemmas.List.{length-set, get_or-set_same, get_or-set_other}
use Rattle.texts.specs.Consecutive.{numbers}
use Rattle.texts.proofs.NumberLists.{numbers-zero, length-map-numbers, get_or-map-numbers, same-map-numbers, map-map-numbers, map-numbers-from_all, find-map-numbers, find-map-numbers-none}
use Rattle.stage2_walk.specs.Pages.{Page, page_of, frames_of, word_in, page_with_word, with_word, number_at, page_at, pages_at}
use Rattle.stage2_walk.specs.Places.{place_in}
use Rattle.stage2_walk.specs.ImageViews.{IsIndex}
use Rattle.stage2_walk.specs.declared.places.Place.{Place}
use Rattle.stage2_walk.proofs.PlaceLemmas.{eqb-apart, eqb-same}

pub page_at-frame : (bytes : List ℕ) (place : ℕ) → (page_at bytes place).frame ≡ number_at bytes place
unfolding page_at
page_at-frame bytes place = refl

pub page_at-word : (bytes : List ℕ) (place i : ℕ) → i < 512 → slice_get (page_at bytes place).words i ≡ Some (number_at bytes (place + 8 + 8 * i))
unfolding page_at
page_at-word bytes place i low =
    let f : ℕ → ℕ = λ (index : ℕ). number_at bytes (place + 8 + 8 * index) in
    let len : i < length (map f (numbers 0 512)) = omega (arith, length-map-numbers f 0 512) in
    let at : 0 + i ≡ i = omega arith in
    slice_get-get_or (map f (numbers 0 512)) i 0 len ∙ ap Some (get_or-map-numbers f 0 512 i 0 low ∙ ap f at)

pub page_at-word_past : (bytes : List ℕ) (place i : ℕ) → 512 ≤ i → slice_get (page_at bytes place).words i ≡ None
unfolding page_at
page_at-word_past bytes place i high =
    let f : ℕ → ℕ = λ (index : ℕ). number_at bytes (place + 8 + 8 * index) in
    slice_get_past (map f (numbers 0 512)) i (omega (arith, length-map-numbers f 0 512))

pub length-pages_at : (bytes : List ℕ) (place n : ℕ) → length (pages_at bytes place n) ≡ n
unfolding pages_at
length-pages_at bytes place n = length-map-numbers (λ k. page_at bytes (place + 4104 * k)) 0 n

pub from_start : (k : ℕ) → 0 + 4104 * k ≡ 4104 * k
from_start k = omega arith

-- no two pages have one frame
pub frames-apart : (bytes : List ℕ) (index : List Place) → IsIndex bytes index → (j k : ℕ) → j < length index → k < length index → j ≢ k → number_at bytes (4104 * j) ≢ number_at bytes (4104 * k)
frames-apart bytes index ok j k low high apart same =
    let at_j = ok.found j low in
    let at_k = ok.found k high in
    let both : place_in index (number_at bytes (4104 * j)) ≡ place_in index (number_at bytes (4104 * k)) = ap (place_in index) same in
    apart (same_Some j k (sym at_j ∙ both ∙ at_k))

-- the page of a frame that has a place
pub page_of-found : (bytes : List ℕ) (index : List Place) → IsIndex bytes index → (frame k : ℕ) → place_in index frame ≡ Some k → page_of (pages_at bytes 0 (length index)) frame ≡ Some (page_at bytes (4104 * k))
unfolding pages_at
page_of-found bytes index ok frame k found =
    let g : ℕ → Page = λ (j : ℕ). page_at bytes (0 + 4104 * j) in
    let low = ok.within frame k found in
    let frame_k : (g k).frame ≡ frame = page_at-frame bytes (0 + 4104 * k) ∙ ap (number_at bytes) (from_start k) ∙ ok.right frame k found in
    let miss : (j : ℕ) → 0 ≤ j → j < k → eqb (g j).frame frame ≡ false =
    λ j _ below. eqb-apart (g j).frame frame (λ same.
    frames-apart bytes index ok j k (omega arith) low (omega arith)
    (ap (number_at bytes) (sym (from_start j)) ∙ sym (page_at-frame bytes (0 + 4104 * j)) ∙ same ∙ sym (ok.right frame k found))) in
    find-map-numbers (λ (page : Page). eqb page.frame frame) g 0 (length index) k (omega arith) (omega arith) (eqb-same (g k).frame frame frame_k) miss
    ∙ ap (λ place. Some (page_at bytes place)) (from_start k)

-- a frame without a place has no page
pub page_of-none : (bytes : List ℕ) (index : List Place) → IsIndex bytes index → (frame : ℕ) → place_in index frame ≡ None → page_of (pages_at bytes 0 (length index)) frame ≡ None
unfolding pages_at
page_of-none bytes index ok frame none =
    let g : ℕ → Page = λ (j : ℕ). page_at bytes (0 + 4104 * j) in
    find-map-numbers-none (λ (page : Page). eqb page.frame frame) g 0 (length index)
    (λ j _ below. eqb-apart (g j).frame frame (λ same.
    let here : number_at bytes (4104 * j) ≡ frame = ap (number_at bytes) (sym (from_start j)) ∙ sym (page_at-frame bytes (0 + 4104 * j)) ∙ same in
    none-some j (sym none ∙ ap (place_in index) (sym here) ∙ ok.found j (omega arith))))

-- the word of a frame that has a place
pub word_in-found : (bytes : List ℕ) (index : List Place) → IsIndex bytes index → (frame k i : ℕ) → place_in index frame ≡ Some k → i < 512 → word_in (pages_at bytes 0 (length index)) frame i ≡ Some (number_at bytes (4104 * k + 8 + 8 * i))
unfolding word_in
word_in-found bytes index ok frame k i found low =
    ap (option_and_then (λ (page : Page). slice_get page.words i)) (page_of-found bytes index ok frame k found) ∙ page_at-word bytes (4104 * k) i low

pub word_in-none : (bytes : List ℕ) (index : List Place) → IsIndex bytes index → (frame i : ℕ) → place_in index frame ≡ None → word_in (pages_at bytes 0 (length index)) frame i ≡ None
unfolding word_in
word_in-none bytes index ok frame i none =
    ap (option_and_then (λ (page : Page). slice_get page.words i)) (page_of-none bytes index ok frame none)

pub word_in-past : (bytes : List ℕ) (index : List Place) → IsIndex bytes index → (frame k i : ℕ) → place_in index frame ≡ Some k → 512 ≤ i → word_in (pages_at bytes 0 (length index)) frame i ≡ None
unfolding word_in
word_in-past bytes index ok frame k i found high =
    ap (option_and_then (λ (page : Page). slice_get page.words i)) (page_of-found bytes index ok frame k found) ∙ page_at-word_past bytes (4104 * k) i high

-- bytes after one number was written: it stands there, and every number that does not overlap it stays
pub record IsWritten (old new : List ℕ) (place number : ℕ) : Type 0 where
  pub written : number_at new place ≡ number
  pub before : (other : ℕ) → other + 8 ≤ place → number_at new other ≡ number_at old other
  pub after : (other : ℕ) → place + 8 ≤ other → number_at new other ≡ number_at old other
  pub same_length : length new ≡ length old

-- a word of page k leaves every frame
pub frames-kept : (old new : List ℕ) (k i word : ℕ) → IsWritten old new (4104 * k + 8 + 8 * i) word → i < 512 → (j : ℕ) → number_at new (4104 * j) ≡ number_at old (4104 * j)
frames-kept old new k i word put low j =
    ⊎_elim (λ (h : j < k + 1). put.before (4104 * j) (omega arith)) (λ (h : k + 1 ≤ j). put.after (4104 * j) (omega arith)) (split j (k + 1))
  where
    split : (a b : ℕ) → (a < b) ⊎ (b ≤ a)
    split a b = grind arith

pub IsIndex-kept : (old new : List ℕ) (index : List Place) (k i word : ℕ) → IsIndex old index → IsWritten old new (4104 * k + 8 + 8 * i) word → i < 512 → IsIndex new index
IsIndex-kept old new index k i word ok put low = record {
  bytes_whole = put.same_length ∙ ok.bytes_whole;
  found = λ j below. ap (place_in index) (frames-kept old new k i word put low j) ∙ ok.found j below;
  within = ok.within;
  right = λ frame j at. frames-kept old new k i word put low j ∙ ok.right frame j at;
  ascending = ok.ascending;
  low = λ j below. let was = ok.low j below in omega (arith, frames-kept old new k i word put low j);
}

-- another page stays
page-kept : (old new : List ℕ) (k i word j : ℕ) → IsWritten old new (4104 * k + 8 + 8 * i) word → i < 512 → j ≢ k → page_at new (4104 * j) ≡ page_at old (4104 * j)
unfolding page_at
page-kept old new k i word j put low apart =
    let frame : number_at new (4104 * j) ≡ number_at old (4104 * j) = frames-kept old new k i word put low j in
    let words : map (λ (n : ℕ). number_at new (4104 * j + 8 + 8 * n)) (numbers 0 512) ≡ map (λ (n : ℕ). number_at old (4104 * j + 8 + 8 * n)) (numbers 0 512) =
    same-map-numbers (λ (n : ℕ). number_at new (4104 * j + 8 + 8 * n)) (λ (n : ℕ). number_at old (4104 * j + 8 + 8 * n)) 0 512
    (λ n _ below. ⊎_elim (λ (h : j < k). put.before (4104 * j + 8 + 8 * n) (omega arith)) (λ (h : k < j). put.after (4104 * j + 8 + 8 * n) (omega arith)) (other_side j k apart)) in
    cc
  where
    other_side : (a b : ℕ) → a ≢ b → (a < b) ⊎ (b < a)
    other_side a b h = grind arith

-- the page that was written to
page-changed : (old new : List ℕ) (k i word : ℕ) → IsWritten old new (4104 * k + 8 + 8 * i) word → i < 512 →
    page_at new (4104 * k) ≡ record { frame = number_at old (4104 * k); words = slice_set (page_at old (4104 * k)).words i word }
unfolding page_at
page-changed old new k i word put low =
    let frame : number_at new (4104 * k) ≡ number_at old (4104 * k) = frames-kept old new k i word put low k in
    let f : ℕ → ℕ = λ (n : ℕ). number_at old (4104 * k + 8 + 8 * n) in
    let g : ℕ → ℕ = λ (n : ℕ). number_at new (4104 * k + 8 + 8 * n) in
    let was : List ℕ = map f (numbers 0 512) in
    let len : length was ≡ 512 = length-map-numbers f 0 512 in
    let words : slice_set was i word ≡ map g (numbers 0 512) =
    map-numbers-from_all g (slice_set was i word) 512 0 (length-set was i word ∙ len)
    (λ n below. ⊎_elim
    (λ (h : n ≡ i). ap (λ m. get_or (slice_set was i word) m 0) h ∙ get_or-set_same was i word 0 (omega arith) ∙ sym put.written ∙ ap g (sym h))
    (λ (h : n ≢ i). get_or-set_other was i n word 0 h ∙ get_or-map-numbers f 0 512 n 0 below ∙ ap f (zero_from n) ∙ sym (kept n h))
    (same_or_not n i)) in
    cc
  where
    zero_from : (n : ℕ) → 0 + n ≡ n
    zero_from n = omega arith

    same_or_not : (a b : ℕ) → (a ≡ b) ⊎ (a ≢ b)
    same_or_not a b = grind arith

    sides : (a b : ℕ) → a ≢ b → (a < b) ⊎ (b < a)
    sides a b h = grind arith

    kept : (n : ℕ) → n ≢ i → number_at new (4104 * k + 8 + 8 * n) ≡ number_at old (4104 * k + 8 + 8 * n)
    kept n apart = ⊎_elim (λ (h : n < i). put.before (4104 * k + 8 + 8 * n) (omega arith)) (λ (h : i < n). put.after (4104 * k + 8 + 8 * n) (omega arith)) (sides n i apart)

-- the pages after one word of the page at place k was written
pub with_word-pages_at : (old new : List ℕ) (index : List Place) → IsIndex old index → (frame k i word : ℕ) → place_in index frame ≡ Some k → i < 512 → IsWritten old new (4104 * k + 8 + 8 * i) word →
    pages_at new 0 (length index) ≡ with_word (pages_at old 0 (length index)) frame i word
unfolding pages_at with_word
with_word-pages_at old new index ok frame k i word found low put =
    let g : ℕ → Page = λ (j : ℕ). page_at old (0 + 4104 * j) in
    let h : ℕ → Page = λ (j : ℕ). page_at new (0 + 4104 * j) in
    sym (map-map-numbers (page_with_word frame i word) g 0 (length index)
    ∙ same-map-numbers (λ j. page_with_word frame i word (g j)) h 0 (length index) (λ j _ below. each j (omega arith)))
  where
    changed : (page : Page) → page.frame ≡ frame → page_with_word frame i word page ≡ record { frame = page.frame; words = slice_set page.words i word }
    changed page at = rw (eqb-same page.frame frame at) refl

    unchanged : (page : Page) → page.frame ≢ frame → page_with_word frame i word page ≡ page
    unchanged page other = rw (eqb-apart page.frame frame other) refl

    frame_at : (j : ℕ) → (page_at old (0 + 4104 * j)).frame ≡ number_at old (4104 * j)
    frame_at j = page_at-frame old (0 + 4104 * j) ∙ ap (number_at old) (from_start j)

    same_or_not : (a b : ℕ) → (a ≡ b) ⊎ (a ≢ b)
    same_or_not a b = grind arith

    at_place : (j : ℕ) → j ≡ k → page_with_word frame i word (page_at old (0 + 4104 * j)) ≡ page_at new (0 + 4104 * j)
    at_place j at =
        let here : number_at old (4104 * j) ≡ frame = ap (λ m. number_at old (4104 * m)) at ∙ ok.right frame k found in
        let there : page_at old (0 + 4104 * j) ≡ page_at old (4104 * k) = ap (page_at old) (from_start j ∙ ap (λ m. 4104 * m) at) in
        let now : page_at new (0 + 4104 * j) ≡ page_at new (4104 * k) = ap (page_at new) (from_start j ∙ ap (λ m. 4104 * m) at) in
        let made = changed (page_at old (4104 * k)) (page_at-frame old (4104 * k) ∙ ok.right frame k found) in
        let frame_same : (page_at old (4104 * k)).frame ≡ number_at old (4104 * k) = page_at-frame old (4104 * k) in
        let words : ℕ → Page = λ (f : ℕ). record { frame = f; words = slice_set (page_at old (4104 * k)).words i word } in
        ap (page_with_word frame i word) there ∙ made ∙ ap words frame_same ∙ sym (page-changed old new k i word put low) ∙ sym now

    elsewhere : (j : ℕ) → j < length index → j ≢ k → page_with_word frame i word (page_at old (0 + 4104 * j)) ≡ page_at new (0 + 4104 * j)
    elsewhere j below apart =
        let other : (page_at old (0 + 4104 * j)).frame ≢ frame = λ same. frames-apart old index ok j k below (ok.within frame k found) apart (sym (frame_at j) ∙ same ∙ sym (ok.right frame k found)) in
        unchanged (page_at old (0 + 4104 * j)) other
        ∙ ap (page_at old) (from_start j) ∙ sym (page-kept old new k i word j put low apart) ∙ ap (page_at new) (sym (from_start j))

    each : (j : ℕ) → j < length index → page_with_word frame i word (page_at old (0 + 4104 * j)) ≡ page_at new (0 + 4104 * j)
    each j below = ⊎_elim (λ (at : j ≡ k). at_place j at) (λ (apart : j ≢ k). elsewhere j below apart) (same_or_not j k)

pub frame-pages_at : (bytes : List ℕ) (n k : ℕ) → k < n → get_or (frames_of (pages_at bytes 0 n)) k 0 ≡ number_at bytes (4104 * k)
unfolding pages_at
frame-pages_at bytes n k low =
    let g : ℕ → Page = λ (j : ℕ). page_at bytes (0 + 4104 * j) in
    let at : 0 + k ≡ k = omega arith in
    ap (λ frames. get_or frames k 0) (map-map-numbers (λ (page : Page). page.frame) g 0 n)
    ∙ get_or-map-numbers (λ j. (g j).frame) 0 n k 0 low ∙ ap (λ j. (g j).frame) at ∙ page_at-frame bytes (0 + 4104 * k) ∙ ap (number_at bytes) (from_start k)

pub no_pages : (bytes : List ℕ) (index : List Place) → index ≡ [] → pages_at bytes 0 (length index) ≡ []
unfolding pages_at
no_pages bytes index none =
    ap (λ (places : List Place). pages_at bytes 0 (length places)) none ∙ ap (λ (ks : List ℕ). map (λ (k : ℕ). page_at bytes (0 + 4104 * k)) ks) (numbers-zero 0)

pub IsIndex-none : (bytes : List ℕ) (index : List Place) → bytes ≡ [] → index ≡ [] → IsIndex bytes index
IsIndex-none bytes index empty none =
    let no_bytes : length bytes ≡ 0 = ap length empty in
    let no_places : length index ≡ 0 = ap length none in
    record {
      bytes_whole = omega arith;
      found = λ k low. absurd (omega arith);
      within = λ frame k at. absurd (none-some k (sym (ap (λ places. place_in places frame) none) ∙ at));
      right = λ frame k at. absurd (none-some k (sym (ap (λ places. place_in places frame) none) ∙ at));
      ascending = λ j k d earlier late. absurd (omega arith);
      low = λ k low. absurd (omega arith);
    }

pub is_some-page_of : (bytes : List ℕ) (index : List Place) → IsIndex bytes index → (frame : ℕ) (o : Option ℕ) → place_in index frame ≡ o → is_some (page_of (pages_at bytes 0 (length index)) frame) ≡ is_some o
is_some-page_of bytes index ok frame None at = ap is_some (page_of-none bytes index ok frame at)
is_some-page_of bytes index ok frame (Some k) at = ap is_some (page_of-found bytes index ok frame k at)
