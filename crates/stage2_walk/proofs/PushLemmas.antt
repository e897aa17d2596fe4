-- An image after a page of zeros was added.
use Rattle.std.proofs.Common.{◌≡◌, ◌≢◌, ◌^◌, ℕ, zero, suc, ◌+◌, ◌-◌, ◌*◌, ◌<◌, ◌≤◌, ◌⊎◌, Bool, true, false, cond, eqb, List, [], ◌∷◌, ◌++◌, length, get_or, map, replicate, take, Some, None, refl, sym, ap, ◌∙◌, arith, inl, inr, ⊎_elim}
use Rattle.std.proofs.lemmas.Option.{same_Some, none-some}
use Rattle.std.specs.List.{insert}
use Rattle.std.proofs.lemmas.List.Edits.{length-insert}
use Rattle.stage2_walk.proofs.PlaceLemmas.{place_in-absent, place_in-insert_own, place_in-insert_other, AreAscending-insert}
use Rattle.std.proofs.lemmas.List.{length-append, length-replicate, get_or_append_left, get_or-append_right, get_or-replicate, take_all}
use Rattle.std.proofs.lemmas.Bool.Decides.{eqb_tells}
use Rattle.byteorder.specs.Endian.{little_from}
use Rattle.texts.specs.Consecutive.{numbers}
use Rattle.texts.proofs.NumberLists.{same-map-numbers, map-numbers-more, map-numbers-from_all}
use Rattle.stage2_walk.specs.Pages.{Page, blank_page, number_at, page_at, pages_at}
use Rattle.stage2_walk.specs.Places.{place_in}
use Rattle.stage2_walk.specs.ImageViews.{IsIndex}
use Rattle.stage2_walk.specs.declared.places.Place.{Place}
use Rattle.stage2_walk.proofs.Numbers.{number_at-same}
use Rattle.stage2_walk.proofs.PageLemmas.{IsWritten, from_start}

get_or-zeros : (m k : ℕ) → get_or {A = ℕ} (replicate m 0) k 0 ≡ 0
get_or-zeros zero k = refl
get_or-zeros (suc m) zero = refl
get_or-zeros (suc m) (suc k) = get_or-zeros m k

little_from-zero : (i n : ℕ) (xs : List ℕ) → ((k : ℕ) → i ≤ k → get_or xs k 0 ≡ 0) → little_from i n xs ≡ 0
little_from-zero i zero xs each = refl
little_from-zero i (suc n) xs each =
    let first : get_or xs i 0 ≡ 0 = each i (omega arith) in
    let rest : little_from (suc i) n xs ≡ 0 = little_from-zero (suc i) n xs (λ k low. each k (omega arith)) in
    omega arith

number_at-zeros : (xs : List ℕ) (m o : ℕ) → length xs ≤ o → number_at (xs ++ replicate m 0) o ≡ 0
unfolding number_at
number_at-zeros xs m o past = little_from-zero o 8 (xs ++ replicate m 0) (λ k low. get_or-append_right xs (replicate m 0) (length xs) k 0 refl (omega arith) ∙ get_or-zeros m (k - length xs))

number_at-append : (xs ys : List ℕ) (o : ℕ) → o + 8 ≤ length xs → number_at (xs ++ ys) o ≡ number_at xs o
number_at-append xs ys o low = number_at-same o (xs ++ ys) xs (λ k a b. get_or_append_left xs ys 0 k (omega arith))

-- the bytes after a page of zeros was added and its frame written
pub record IsPushed (old new : List ℕ) (n frame : ℕ) : Type 0 where
  pub written : IsWritten (old ++ replicate 4104 0) new (4104 * n) frame
  pub whole : length old ≡ 4104 * n

old_number : (old new : List ℕ) (n frame o : ℕ) → IsPushed old new n frame → o + 8 ≤ 4104 * n → number_at new o ≡ number_at old o
old_number old new n frame o pushed low =
    let whole = pushed.whole in
    pushed.written.before o low ∙ number_at-append old (replicate 4104 0) o (omega arith)

new_number : (old new : List ℕ) (n frame o : ℕ) → IsPushed old new n frame → 4104 * n + 8 ≤ o → number_at new o ≡ 0
new_number old new n frame o pushed high =
    let whole = pushed.whole in
    pushed.written.after o high ∙ number_at-zeros old 4104 o (omega arith)

page-old : (old new : List ℕ) (n frame k : ℕ) → IsPushed old new n frame → k < n → page_at new (0 + 4104 * k) ≡ page_at old (0 + 4104 * k)
unfolding page_at
page-old old new n frame k pushed low =
    let first : number_at new (0 + 4104 * k) ≡ number_at old (0 + 4104 * k) = old_number old new n frame (0 + 4104 * k) pushed (omega arith) in
    let words : map (λ (i : ℕ). number_at new (0 + 4104 * k + 8 + 8 * i)) (numbers 0 512) ≡ map (λ (i : ℕ). number_at old (0 + 4104 * k + 8 + 8 * i)) (numbers 0 512) =
    same-map-numbers (λ (i : ℕ). number_at new (0 + 4104 * k + 8 + 8 * i)) (λ (i : ℕ). number_at old (0 + 4104 * k + 8 + 8 * i)) 0 512
    (λ i _ below. old_number old new n frame (0 + 4104 * k + 8 + 8 * i) pushed (omega arith)) in
    cc

page-new : (old new : List ℕ) (n frame : ℕ) → IsPushed old new n frame → page_at new (0 + 4104 * n) ≡ blank_page frame
unfolding page_at blank_page
page-new old new n frame pushed =
    let first : number_at new (0 + 4104 * n) ≡ frame = ap (number_at new) (from_start n) ∙ pushed.written.written in
    let f : ℕ → ℕ = λ (i : ℕ). number_at new (0 + 4104 * n + 8 + 8 * i) in
    let words : replicate 512 0 ≡ map f (numbers 0 512) =
    map-numbers-from_all f (replicate 512 0) 512 0 (length-replicate {A = ℕ} 512 0) (λ i low. get_or-replicate {A = ℕ} 512 i 0 0 low ∙ sym (new_number old new n frame (0 + 4104 * n + 8 + 8 * i) pushed (omega arith))) in
    cc

pub pages_at-pushed : (old new : List ℕ) (n frame : ℕ) → IsPushed old new n frame → pages_at new 0 (n + 1) ≡ pages_at old 0 n ++ blank_page frame ∷ []
unfolding pages_at
pages_at-pushed old new n frame pushed =
    let g : ℕ → Page = λ (k : ℕ). page_at new (0 + 4104 * k) in
    let h : ℕ → Page = λ (k : ℕ). page_at old (0 + 4104 * k) in
    let at : 0 + n ≡ n = omega arith in
    map-numbers-more g 0 n
    ∙ ap (λ (pages : List Page). pages ++ g (0 + n) ∷ []) (same-map-numbers g h 0 n (λ k _ low. page-old old new n frame k pushed (omega arith)))
    ∙ ap (λ (page : Page). map h (numbers 0 n) ++ page ∷ []) (ap g at ∙ page-new old new n frame pushed)

-- the index after an entry for the new page was added in its order
pub IsIndex-pushed : (old new : List ℕ) (index : List Place) (frame i : ℕ) → IsIndex old index → place_in index frame ≡ None → frame < 2 ^ 28 → i ≤ length index →
    ((k : ℕ) (d : Place) → k < i → (get_or index k d).frame < frame) → ((k : ℕ) (d : Place) → i ≤ k → k < length index → frame ≤ (get_or index k d).frame) →
    IsPushed old new (length index) frame → IsIndex new (insert index i (record { frame = frame; place = length index }))
IsIndex-pushed old new index frame i ok fresh small fits below above pushed = record {
  bytes_whole =
      (let same = pushed.written.same_length in
      let whole = pushed.whole in
      omega (arith, length-append old (replicate 4104 0), length-replicate {A = ℕ} 4104 0, count));
  found = λ k low. found k (side k (omega (arith, count)));
  within = λ f k at. omega (arith, count, (told f k at).0);
  right = λ f k at. (told f k at).1;
  ascending = AreAscending-insert index i entry ok.ascending fits below
      (λ k d high late. let le = above k d high late in let other = place_in-absent index frame d fresh k late in omega arith);
  low = λ k low. low_at k (side k (omega (arith, count)));
}
  where
    entry : Place
    entry = record { frame = frame; place = length index }

    count : length (insert index i entry) ≡ length index + 1
    count = length-insert index i entry fits

    side : (k : ℕ) → k < length index + 1 → (k < length index) ⊎ (k ≡ length index)
    side k low = grind arith

    kept : (k : ℕ) → k < length index → number_at new (4104 * k) ≡ number_at old (4104 * k)
    kept k low = old_number old new (length index) frame (4104 * k) pushed (omega arith)

    last : (k : ℕ) → k ≡ length index → number_at new (4104 * k) ≡ frame
    last k at = ap (λ (j : ℕ). number_at new (4104 * j)) at ∙ pushed.written.written

    other : (k : ℕ) → k < length index → frame ≢ number_at old (4104 * k)
    other k low same = none-some k (sym fresh ∙ ap (place_in index) same ∙ ok.found k low)

    found : (k : ℕ) → (k < length index) ⊎ (k ≡ length index) → place_in (insert index i entry) (number_at new (4104 * k)) ≡ Some k
    found k (inl low) = ap (place_in (insert index i entry)) (kept k low) ∙ place_in-insert_other index i entry (number_at old (4104 * k)) (other k low) ∙ ok.found k low
    found k (inr at) = ap (place_in (insert index i entry)) (last k at) ∙ place_in-insert_own index i entry fresh ∙ ap Some (sym at)

    told : (f k : ℕ) → place_in (insert index i entry) f ≡ Some k → (k < length index + 1) × (number_at new (4104 * k) ≡ f)
    told f k at = ⊎_elim
        (λ (h : (eqb frame f ≡ true) × (frame ≡ f)).
        let own : k ≡ length index = sym (same_Some (length index) k (sym (ap (place_in (insert index i entry)) (sym h.1) ∙ place_in-insert_own index i entry fresh) ∙ at)) in
        (omega arith, last k own ∙ h.1))
        (λ (h : (eqb frame f ≡ false) × (frame ≢ f)).
        let was : place_in index f ≡ Some k = sym (place_in-insert_other index i entry f h.1) ∙ at in
        let low : k < length index = ok.within f k was in
        (omega arith, kept k low ∙ ok.right f k was))
        (eqb_tells frame f)

    low_at : (k : ℕ) → (k < length index) ⊎ (k ≡ length index) → number_at new (4104 * k) < 2 ^ 28
    low_at k (inl low) = let was = ok.low k low in omega (arith, kept k low)
    low_at k (inr at) = omega (arith, last k at)

-- what `resize` leaves where it does not fail
pub grown_is : (r : Bool) (xs out : List ℕ) (want had : ℕ) → r ≡ true → out ≡ cond r (take want xs ++ replicate (want - had) 0) xs → want ≡ length xs + 4104 → had ≡ length xs → out ≡ xs ++ replicate 4104 0
grown_is r xs out want had fine is size same =
    let cut : take want xs ≡ xs = take_all want xs (omega arith) in
    let more : want - had ≡ 4104 = omega arith in
    is ∙ ap (λ (b : Bool). cond b (take want xs ++ replicate (want - had) 0) xs) fine
    ∙ ap (λ (ys : List ℕ). ys ++ replicate (want - had) 0) cut ∙ ap (λ (m : ℕ). xs ++ replicate m 0) more
