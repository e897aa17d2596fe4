-- What holds of an image that was read from a file.
use Rattle.std.proofs.Common.{◌≡◌, ◌≢◌, ◌∙◌, refl, sym, subst, ℕ, ◌+◌, ◌*◌, ◌^◌, ◌<◌, ◌≤◌, ◌⊎◌, ◌&&◌, ◌||◌, ◌%◌, Bool, true, false, cond, eqb, leb, ltb, List, [], ◌∷◌, length, Option, Some, None, arith, inl, inr}
use Rattle.std.specs.Prelude.{Result, Ok, Err, IsSome, not}
use Rattle.std.specs.List.{starts_with, prefix_len}
use Rattle.std.proofs.lemmas.Bool.{false≢true}
use Rattle.std.proofs.lemmas.Bool.Decides.{nat_tests, eqb_tells}
use Rattle.texts.specs.Consecutive.{is_in}
use Rattle.described.proofs.RegionLemmas.{both_true}
use Rattle.frame_alloc.proofs.FreeFrames.{is_in_nil, is_in_cons}
use Rattle.stage2_walk.specs.Pages.{Page, frames_of, page_of, number_at, pages_at}
use Rattle.stage2_walk.specs.Files.{magic, image_of, has_root, first_high, first_repeat, checked, checked_pages, checked_repeat}
use Rattle.stage2_walk.specs.declared.image_fault.ImageFault.{ImageFault}
use Rattle.stage2_walk.specs.declared.image_fault.ImageFault.TheVariants.{Magic, Length, TooHigh, FrameTwice, Root}
use Rattle.stage2_walk.proofs.ReadLemmas.{has_frame}

abbrev Image : Type 0
Image = ℕ × List Page

abbrev Answer : Type 0
Answer = Result Image ImageFault

abbrev read_as : Image → Answer
read_as image = Ok image

-- both root pages are there, and all frames are low
pub record IsRooted (image : Image) : Type 0 where
  pub low : first_high (frames_of image.1) ≡ None
  pub rooted : has_root image.0 (frames_of image.1) ≡ true

same_image : (one other : Image) → read_as one ≡ read_as other → one ≡ other
same_image one other e = cc

no_image : (fault : ImageFault) (image : Image) → Err fault ≡ read_as image → ⊥
no_image fault image e = cc

module _ (root : ℕ) (pages : List Page) (image : Image) (low : first_high (frames_of pages) ≡ None) where
  by_root : (b : Bool) → has_root root (frames_of pages) ≡ b → cond b (read_as (root, pages)) (Err Root) ≡ read_as image → IsRooted image
  by_root true is e = subst IsRooted (same_image (root, pages) image e) (record { low = low; rooted = is })
  by_root false is e = absurd (no_image Root image e)

  by_repeat : (o : Option ℕ) → checked_repeat root pages o ≡ read_as image → IsRooted image
  by_repeat None e = by_root (has_root root (frames_of pages)) refl e
  by_repeat (Some k) e = absurd (no_image (FrameTwice k) image e)

by_height : (root : ℕ) (pages : List Page) (image : Image) (o : Option ℕ) → first_high (frames_of pages) ≡ o → checked_pages root pages o ≡ read_as image → IsRooted image
by_height root pages image None is e = by_repeat root pages image is (first_repeat (frames_of pages)) e
by_height root pages image (Some k) is e = absurd (no_image (TooHigh k) image e)

by_checks : (short other long : Bool) (root : ℕ) (pages : List Page) (image : Image)
    → cond short (Err Magic) (cond (not other) (Err Magic) (cond (not long) (Err Length) (checked root pages))) ≡ read_as image → IsRooted image
by_checks true other long root pages image e = absurd (no_image Magic image e)
by_checks false false long root pages image e = absurd (no_image Magic image e)
by_checks false true false root pages image e = absurd (no_image Length image e)
by_checks false true true root pages image e = by_height root pages image (first_high (frames_of pages)) refl e

rooted_of : (file : List ℕ) (image : Image) → image_of file ≡ read_as image → IsRooted image
unfolding image_of
rooted_of file image is =
    by_checks (ltb (length file) 24) (starts_with (λ a b. eqb a b) file magic) (eqb (length file) (24 + 4104 * number_at file 16)) (number_at file 8) (pages_at file 24 (number_at file 16)) image is

-- the root pages are in the image
module _ (file : List ℕ) (root : ℕ) (pages : List Page) (is : image_of file ≡ Ok (root, pages)) where
  parts : ((eqb (root % 2) 0 && is_in (frames_of pages) root) ≡ true) × (is_in (frames_of pages) (root + 1) ≡ true)
  parts = both_true _ _ (rooted_of file (root, pages) is).rooted

  pub first_there : IsSome (page_of pages root)
  first_there = has_frame pages root ∙ (both_true (eqb (root % 2) 0) (is_in (frames_of pages) root) parts.0).1

  pub second_there : IsSome (page_of pages (root + 1))
  second_there = has_frame pages (root + 1) ∙ parts.1

-- ---- all frames are below 2^28

abbrev low_test : ℕ → Bool
low_test frame = not (leb (2 ^ 28) frame)

low_told : (frame : ℕ) → low_test frame ≡ true → frame < 2 ^ 28
low_told frame h = grind (arith, nat_tests)

all_low : (frames : List ℕ) → length frames ≤ prefix_len low_test frames → (frame : ℕ) → is_in frames frame ≡ true → frame < 2 ^ 28
all_low [] all frame there = absurd (false≢true (sym (is_in_nil frame) ∙ there))
all_low (x ∷ xs) all frame there = by (low_test x) refl all (eqb_tells x frame) (sym (is_in_cons frame x xs) ∙ there) (λ rest. all_low xs rest frame)
  where
    by : (b : Bool) → low_test x ≡ b → length (x ∷ xs) ≤ cond b (1 + prefix_len low_test xs) 0 → ((eqb x frame ≡ true) × (x ≡ frame)) ⊎ ((eqb x frame ≡ false) × (x ≢ frame)) → (eqb x frame || is_in xs frame) ≡ true
        → (length xs ≤ prefix_len low_test xs → is_in xs frame ≡ true → frame < 2 ^ 28) → frame < 2 ^ 28
    by true low all (inl h) there rest = subst (λ (f : ℕ). f < 2 ^ 28) h.1 (low_told x low)
    by true low all (inr h) there rest = rest (omega arith) (rw h.0 at there)
    by false low all h there rest = absurd (omega arith)

none_before : (n m : ℕ) (b : Bool) → ltb n m ≡ b → cond b (Some n) None ≡ None → m ≤ n
none_before n m true test e = absurd (cc)
none_before n m false test e = grind (arith, nat_tests)

pub frame_low : (file : List ℕ) (root : ℕ) (pages : List Page) → image_of file ≡ Ok (root, pages) → (frame : ℕ) → is_in (frames_of pages) frame ≡ true → frame < 2 ^ 28
frame_low file root pages is frame there =
    all_low (frames_of pages) (none_before (prefix_len low_test (frames_of pages)) (length (frames_of pages)) (ltb (prefix_len low_test (frames_of pages)) (length (frames_of pages))) refl (rooted_of file (root, pages) is).low) frame there
