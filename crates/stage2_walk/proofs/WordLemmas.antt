-- The words, frames and pages of an image after one word was changed, and after a page of zeros was added.
use Rattle.std.proofs.Common.{◌≡◌, ◌≢◌, ℕ, zero, suc, ◌<◌, Bool, true, false, cond, eqb, List, [], ◌∷◌, ◌++◌, length, map, set, replicate, Option, Some, None, refl, sym, ap, ◌∙◌, arith, ⊎_elim}
use Rattle.std.specs.List.{find, slice_get, slice_set}
use Rattle.std.specs.Option.{option_and_then, option_map, option_or, is_some, IsNone, IsSome}
use Rattle.std.proofs.lemmas.Option.{slice_get-get_or, slice_get_within, same_Some, none-some}
use Rattle.std.proofs.lemmas.List.{length-set, get_or-set_same, length-map, length-replicate, get_or-replicate}
use Rattle.std.proofs.lemmas.List.Folds.{find-append}
use Rattle.std.proofs.lemmas.Bool.{false≢true}
use Rattle.std.proofs.lemmas.Bool.Decides.{nat_tests, eqb_tells}
use Rattle.stage2_walk.specs.Pages.{Page, page_of, frames_of, blank_page, word_in, page_with_word, with_word}

find-map : {X : Type 0} (p : X → Bool) (h : X → X) (xs : List X) → ((x : X) → p (h x) ≡ p x) → find p (map h xs) ≡ option_map h (find p xs)
find-map p h [] same = refl
find-map p h (x ∷ xs) same = rw (same x) (choose (find-map p h xs same) (p x))
  where
    choose : find p (map h xs) ≡ option_map h (find p xs) → (b : Bool) → cond b (Some (h x)) (find p (map h xs)) ≡ option_map h (cond b (Some x) (find p xs))
    choose rest true = refl
    choose rest false = rest

frame-with_word : (f i w : ℕ) (page : Page) → (page_with_word f i w page).frame ≡ page.frame
frame-with_word f i w page = choose (eqb page.frame f)
  where
    choose : (b : Bool) → (cond b (record { frame = page.frame; words = slice_set page.words i w }) page).frame ≡ page.frame
    choose true = refl
    choose false = refl

pub page_of-with_word : (pages : List Page) (f i w g : ℕ) → page_of (with_word pages f i w) g ≡ option_map (page_with_word f i w) (page_of pages g)
unfolding with_word
page_of-with_word pages f i w g = find-map (λ (page : Page). eqb page.frame g) (page_with_word f i w) pages (λ page. ap (λ frame. eqb frame g) (frame-with_word f i w page))

-- what is found has the frame that was sought
page_of-frame : (pages : List Page) (g : ℕ) (page : Page) → page_of pages g ≡ Some page → page.frame ≡ g
page_of-frame [] g page at = absurd (none-some page at)
page_of-frame (x ∷ xs) g page at = ⊎_elim (λ (h : (eqb x.frame g ≡ true) × (x.frame ≡ g)). here h.0 h.1) (λ (h : (eqb x.frame g ≡ false) × (x.frame ≢ g)). there (page_of-frame xs g page) h.0) (eqb_tells x.frame g)
  where
    here : eqb x.frame g ≡ true → x.frame ≡ g → page.frame ≡ g
    here hit same =
        let e : Some x ≡ Some page = sym (rw hit refl) ∙ at in
        ap (λ (p : Page). p.frame) (sym (same_Some x page e)) ∙ same

    there : (page_of xs g ≡ Some page → page.frame ≡ g) → eqb x.frame g ≡ false → page.frame ≡ g
    there rest miss = rest (sym (rw miss refl) ∙ at)

-- the changed word
pub word_in-with_word_same : (pages : List Page) (f i w old : ℕ) → word_in pages f i ≡ Some old → word_in (with_word pages f i w) f i ≡ Some w
unfolding word_in
word_in-with_word_same pages f i w old at = ap (option_and_then (λ (page : Page). slice_get page.words i)) (page_of-with_word pages f i w f) ∙ by_page (page_of pages f) refl
  where
    changed : (page : Page) → page.frame ≡ f → page_with_word f i w page ≡ record { frame = page.frame; words = slice_set page.words i w }
    changed page same = let e : eqb page.frame f ≡ true = grind (arith, nat_tests) in rw e refl

    by_page : (o : Option Page) → page_of pages f ≡ o → option_and_then (λ (page : Page). slice_get page.words i) (option_map (page_with_word f i w) o) ≡ Some w
    by_page None found = absurd (none-some old (sym (ap (option_and_then (λ (page : Page). slice_get page.words i)) found) ∙ at))
    by_page (Some page) found =
        let was : slice_get page.words i ≡ Some old = sym (ap (option_and_then (λ (page : Page). slice_get page.words i)) found) ∙ at in
        let low : i < length page.words = slice_get_within page.words i old was in
        let len : i < length (set page.words i w) = omega (arith, length-set page.words i w) in
        ap (λ (p : Page). slice_get p.words i) (changed page (page_of-frame pages f page found))
        ∙ slice_get-get_or (set page.words i w) i 0 len ∙ ap Some (get_or-set_same page.words i w 0 low)

-- every other word
pub word_in-with_word_other : (pages : List Page) (f i w g j : ℕ) → ((g ≡ f) → (j ≡ i) → ⊥) → word_in (with_word pages f i w) g j ≡ word_in pages g j
unfolding word_in
word_in-with_word_other pages f i w g j other = ap (option_and_then (λ (page : Page). slice_get page.words j)) (page_of-with_word pages f i w g) ∙ by_page (page_of pages g) refl
  where
    slice_get-set_other : (xs : List ℕ) (i j v : ℕ) → j ≢ i → slice_get (set xs i v) j ≡ slice_get xs j
    slice_get-set_other [] i j v apart = refl
    slice_get-set_other (x ∷ xs) zero zero v apart = absurd (apart refl)
    slice_get-set_other (x ∷ xs) zero (suc j) v apart = refl
    slice_get-set_other (x ∷ xs) (suc i) zero v apart = refl
    slice_get-set_other (x ∷ xs) (suc i) (suc j) v apart = slice_get-set_other xs i j v (λ same. apart (ap suc same))

    by_page : (o : Option Page) → page_of pages g ≡ o → option_and_then (λ (page : Page). slice_get page.words j) (option_map (page_with_word f i w) o) ≡ option_and_then (λ (page : Page). slice_get page.words j) o
    by_page None found = refl
    by_page (Some page) found = ⊎_elim (λ (h : (eqb page.frame f ≡ true) × (page.frame ≡ f)). same_page h.0 h.1) (λ (h : (eqb page.frame f ≡ false) × (page.frame ≢ f)). ap (λ (p : Page). slice_get p.words j) (kept h.0)) (eqb_tells page.frame f)
      where
        kept : eqb page.frame f ≡ false → page_with_word f i w page ≡ page
        kept miss = rw miss refl

        same_page : eqb page.frame f ≡ true → page.frame ≡ f → slice_get (page_with_word f i w page).words j ≡ slice_get page.words j
        same_page hit same =
            let at : g ≡ f = sym (page_of-frame pages g page found) ∙ same in
            let changed : page_with_word f i w page ≡ record { frame = page.frame; words = slice_set page.words i w } = rw hit refl in
            ap (λ (p : Page). slice_get p.words j) changed ∙ slice_get-set_other page.words i j w (other at)

-- a changed word leaves the frames, their order and their number
pub frames_of-with_word : (pages : List Page) (f i w : ℕ) → frames_of (with_word pages f i w) ≡ frames_of pages
unfolding with_word
frames_of-with_word [] f i w = refl
frames_of-with_word (page ∷ pages) f i w =
    let first : (page_with_word f i w page).frame ≡ page.frame = frame-with_word f i w page in
    let rest : frames_of (map (page_with_word f i w) pages) ≡ frames_of pages = frames_of-with_word pages f i w in
    cc

pub length-with_word : (pages : List Page) (f i w : ℕ) → length (with_word pages f i w) ≡ length pages
unfolding with_word
length-with_word pages f i w = length-map pages (page_with_word f i w)

pub is_some-page_of-with_word : (pages : List Page) (f i w g : ℕ) → is_some (page_of (with_word pages f i w) g) ≡ is_some (page_of pages g)
is_some-page_of-with_word pages f i w g = ap is_some (page_of-with_word pages f i w g) ∙ by_page (page_of pages g)
  where
    by_page : (o : Option Page) → is_some (option_map (page_with_word f i w) o) ≡ is_some o
    by_page None = refl
    by_page (Some page) = refl

-- a changed word leaves which words the image has
pub is_some-word_in-with_word : (pages : List Page) (f i w g j : ℕ) → is_some (word_in (with_word pages f i w) g j) ≡ is_some (word_in pages g j)
unfolding word_in
is_some-word_in-with_word pages f i w g j = ap (λ (o : Option Page). is_some (option_and_then (λ (page : Page). slice_get page.words j) o)) (page_of-with_word pages f i w g) ∙ by_page (page_of pages g)
  where
    is_some-set : (xs : List ℕ) (i j v : ℕ) → is_some (slice_get (set xs i v) j) ≡ is_some (slice_get xs j)
    is_some-set [] i j v = refl
    is_some-set (x ∷ xs) zero zero v = refl
    is_some-set (x ∷ xs) zero (suc j) v = refl
    is_some-set (x ∷ xs) (suc i) zero v = refl
    is_some-set (x ∷ xs) (suc i) (suc j) v = is_some-set xs i j v

    by_test : (b : Bool) (page : Page) → is_some (slice_get (cond b (record { frame = page.frame; words = set page.words i w }) page).words j) ≡ is_some (slice_get page.words j)
    by_test true page = is_some-set page.words i j w
    by_test false page = refl

    by_page : (o : Option Page) → is_some (option_and_then (λ (page : Page). slice_get page.words j) (option_map (page_with_word f i w) o)) ≡ is_some (option_and_then (λ (page : Page). slice_get page.words j) o)
    by_page None = refl
    by_page (Some page) = by_test (eqb page.frame f) page

-- the frames after a page was added
pub frames_of-push : (pages : List Page) (frame : ℕ) → frames_of (pages ++ blank_page frame ∷ []) ≡ frames_of pages ++ frame ∷ []
unfolding blank_page
frames_of-push [] frame = refl
frames_of-push (page ∷ pages) frame = ap (λ (frames : List ℕ). page.frame ∷ frames) (frames_of-push pages frame)

pub page_of-push : (pages : List Page) (frame g : ℕ) → page_of (pages ++ blank_page frame ∷ []) g ≡ option_or (page_of pages g) (page_of (blank_page frame ∷ []) g)
page_of-push pages frame g = find-append (λ (page : Page). eqb page.frame g) pages (blank_page frame ∷ [])

-- the page of another frame
pub page_of-push_other : (pages : List Page) (frame g : ℕ) → g ≢ frame → page_of (pages ++ blank_page frame ∷ []) g ≡ page_of pages g
unfolding blank_page
page_of-push_other pages frame g apart = page_of-push pages frame g ∙ ap (option_or (page_of pages g)) (missed frame g (λ same. apart (sym same))) ∙ with_none (page_of pages g)
  where
    missed : (frame g : ℕ) → frame ≢ g → page_of (blank_page frame ∷ []) g ≡ None
    missed frame g other = let e : eqb frame g ≡ false = grind (arith, nat_tests) in rw e refl

    with_none : (o : Option Page) → option_or o None ≡ o
    with_none None = refl
    with_none (Some page) = refl

-- a page that was there is still there
pub page_of-push_held : (pages : List Page) (frame g : ℕ) (page : Page) → page_of pages g ≡ Some page → page_of (pages ++ blank_page frame ∷ []) g ≡ Some page
page_of-push_held pages frame g page at = page_of-push pages frame g ∙ ap (λ (o : Option Page). option_or o (page_of (blank_page frame ∷ []) g)) at

-- the new page
pub page_of-push_own : (pages : List Page) (frame : ℕ) → IsNone (page_of pages frame) → page_of (pages ++ blank_page frame ∷ []) frame ≡ Some (blank_page frame)
unfolding blank_page
page_of-push_own pages frame fresh = page_of-push pages frame frame ∙ ap (λ (o : Option Page). option_or o (page_of (blank_page frame ∷ []) frame)) (none (page_of pages frame) fresh) ∙ hit frame
  where
    none : (o : Option Page) → IsNone o → o ≡ None
    none None at = refl
    none (Some page) at = absurd (false≢true (sym at))

    hit : (frame : ℕ) → page_of (blank_page frame ∷ []) frame ≡ Some (blank_page frame)
    hit frame = let e : eqb frame frame ≡ true = grind (arith, nat_tests) in rw e refl

-- the words of the pages that were there
pub word_in-push_other : (pages : List Page) (frame g j : ℕ) → g ≢ frame → word_in (pages ++ blank_page frame ∷ []) g j ≡ word_in pages g j
unfolding word_in
word_in-push_other pages frame g j apart = ap (option_and_then (λ (page : Page). slice_get page.words j)) (page_of-push_other pages frame g apart)

pub word_in-push_held : (pages : List Page) (frame g j w : ℕ) → word_in pages g j ≡ Some w → word_in (pages ++ blank_page frame ∷ []) g j ≡ Some w
unfolding word_in
word_in-push_held pages frame g j w at = by_page (page_of pages g) refl
  where
    by_page : (o : Option Page) → page_of pages g ≡ o → word_in (pages ++ blank_page frame ∷ []) g j ≡ Some w
    by_page None found = absurd (none-some w (sym (ap (option_and_then (λ (page : Page). slice_get page.words j)) found) ∙ at))
    by_page (Some page) found =
        let word : slice_get page.words j ≡ Some w = sym (ap (option_and_then (λ (page : Page). slice_get page.words j)) found) ∙ at in
        ap (option_and_then (λ (page : Page). slice_get page.words j)) (page_of-push_held pages frame g page found) ∙ word

blank_word : (frame j : ℕ) → j < 512 → slice_get (blank_page frame).words j ≡ Some 0
unfolding blank_page
blank_word frame j low =
    let len : j < length (replicate {A = ℕ} 512 0) = omega (arith, length-replicate {A = ℕ} 512 0) in
    slice_get-get_or (replicate {A = ℕ} 512 0) j 0 len ∙ ap Some (get_or-replicate {A = ℕ} 512 j 0 0 low)

-- the words of the new page are 0
pub word_in-push_own : (pages : List Page) (frame j : ℕ) → IsNone (page_of pages frame) → j < 512 → word_in (pages ++ blank_page frame ∷ []) frame j ≡ Some 0
unfolding word_in
word_in-push_own pages frame j fresh low = ap (option_and_then (λ (page : Page). slice_get page.words j)) (page_of-push_own pages frame fresh) ∙ blank_word frame j low

-- the page of a frame that has a word
pub is_some-page_of-word : (pages : List Page) (g j w : ℕ) → word_in pages g j ≡ Some w → IsSome (page_of pages g)
unfolding word_in
is_some-page_of-word pages g j w at = by_page (page_of pages g) refl
  where
    by_page : (o : Option Page) → page_of pages g ≡ o → IsSome (page_of pages g)
    by_page None found = absurd (none-some w (sym (ap (option_and_then (λ (page : Page). slice_get page.words j)) found) ∙ at))
    by_page (Some page) found = ap is_some found
