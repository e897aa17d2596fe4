-- Images of a plan whose maps are apart are apart.
use Rattle.std.proofs.Common.{◌≡◌, ◌≢◌, ◌∙◌, ◌+◌, ◌-◌, ◌*◌, ◌/◌, ◌%◌, ◌^◌, ◌<◌, zero, suc, refl, sym, ap, subst, ℕ, Bool, true, false, arith, List, [], ◌∷◌, drop, Option, Some, None, option_map, unwrap_or, inl, inr, true≢false}
use Rattle.std.proofs.lemmas.Bool.{cases_order}
use Rattle.std.proofs.lemmas.Bool.Decides.{eqb_tells}
use Rattle.std.specs.Prelude.{◌==◌, ◌||◌, Result, All, IsTrue, ◌⊎◌}
use Rattle.texts.specs.Consecutive.{is_in}
use Rattle.described.specs.Maps.{Target, attributes}
use Rattle.described.specs.declared.map_range.Kind.{Kind}
use Rattle.described.specs.declared.map_range.Kind.TheVariants.{Shared}
use Rattle.frame_alloc.specs.Frames.{AreFrames, lowest_pair, without}
use Rattle.frame_alloc.proofs.FreeFrames.{AreFrames-without, AreFramesFrom-weaker, is_in_nil, is_in_cons}
use Rattle.stage2_walk.specs.Pages.{Page, frames_of}
use Rattle.stage2_walk.specs.Files.{image_of}
use Rattle.stage2_walk.specs.declared.image_fault.ImageFault.{ImageFault}
use Rattle.stage2_tables.specs.Translation.{translated}
use Rattle.stage2_tables.specs.Draws.{drawn_after, table_frames, drawn_from, left_after}
use Rattle.stage2_tables.proofs.DrawLemmas.{drawn_free, drawn_taken, free_after-was_free}
use Rattle.domain_plan.specs.declared.planned.GuestPlan.{GuestPlan}
use Rattle.guest_images.specs.Requests.{tables_needed, left_by}
use Rattle.guest_images.specs.PrivateImageFiles.{IsImageFile, AreImageFiles}
use Rattle.guest_images.specs.Walks.{walked, WalksAsDescribed, AllWalk, walk_of, frame_of, attributes_of, MeetOnlyIn, tables_in, tables_of, AreApart}
use Rattle.domain_plan.specs.Apart.{target_in, ArePlannedApart}

-- each image walks as its guest's map says
image_walks : (plan : GuestPlan) (free image : List ℕ) → IsImageFile plan.ranges free image → WalksAsDescribed plan image
image_walks plan free image is address low = ap (λ (read : Result (ℕ × List Page) ImageFault). walked read address) is.file ∙ is.walk address low

pub all_walk : (plans : List GuestPlan) (free : List ℕ) (images : List (List ℕ)) → AreImageFiles plans free images → AllWalk plans images
all_walk [] free images are = are
all_walk (plan ∷ plans) free [] are = are
all_walk (plan ∷ plans) free (image ∷ images) are = (image_walks plan free image are.0, all_walk plans (left_by plan free) images are.1)

-- the walk of the n-th image goes where the n-th map says
walk_at : (guests : List GuestPlan) (images : List (List ℕ)) → AllWalk guests images → (n address : ℕ) → address < 2 ^ 40 → walk_of images n address ≡ translated address (target_in guests n (address / 2 ^ 12))
walk_at [] images all n address low = ap (λ (xs : List (List ℕ)). walk_of xs n address) all
walk_at (guest ∷ guests) [] all n address low = elim all [ ]
walk_at (guest ∷ guests) (image ∷ images) all zero address low = all.0 address low
walk_at (guest ∷ guests) (image ∷ images) all (suc n) address low = walk_at guests images all.1 n address low

-- what such a walk reaches was mapped
frame_in : (frame address : ℕ) → (frame * 2 ^ 12 + address % 2 ^ 12) / 2 ^ 12 ≡ frame
frame_in frame address = omega arith

mapped_to : (address : ℕ) (goal : Option Target) (frame : ℕ) → option_map (λ (place : ℕ × ℕ). place.0 / 2 ^ 12) (translated address goal) ≡ Some frame
    → (target : Target) × (goal ≡ Some target) × (target.frame ≡ frame) × (option_map (λ (place : ℕ × ℕ). place.1) (translated address goal) ≡ Some (attributes target.kind))
mapped_to address None frame e = absurd (cc)
mapped_to address (Some target) frame e =
    (target, refl, sym (frame_in target.frame address) ∙ ap (λ (o : Option ℕ). unwrap_or o 0) e, refl)

module _ (guests : List GuestPlan) (images : List (List ℕ)) (all : AllWalk guests images) where
  abbrev pub Reached : ℕ → ℕ → ℕ → Type 0
  Reached n address frame =
      (target : Target) × (target_in guests n (address / 2 ^ 12) ≡ Some target) × (target.frame ≡ frame) × (attributes_of images n address ≡ Some (attributes target.kind))

  pub reached_from : (n address frame : ℕ) → address < 2 ^ 40 → frame_of images n address ≡ Some frame → Reached n address frame
  reached_from n address frame low e =
      let same = walk_at guests images all n address low in
      let found = mapped_to address (target_in guests n (address / 2 ^ 12)) frame (sym (ap (option_map (λ (place : ℕ × ℕ). place.0 / 2 ^ 12)) same) ∙ e) in
      (found.0, found.1, found.2, ap (option_map (λ (place : ℕ × ℕ). place.1)) same ∙ found.3)

  module _ (common : ℕ → ℕ → ℕ → Bool) (free : List ℕ) (apart : ArePlannedApart common guests free) where
    -- frames of two guests meet only in common regions
    pub images_meet : MeetOnlyIn common images
    images_meet one other here there frame differ low_here low_there e f =
        let a = reached_from one here frame low_here e in
        let b = reached_from other there frame low_there f in
        subst (λ (f : ℕ). IsTrue (common one other f)) a.2 (apart.meet one other _ _ a.0 b.0 differ a.1 b.1 (a.2 ∙ sym b.2)).2

    -- and both have the attributes of shared memory there
    pub images_share : (one other here there frame : ℕ) → one ≢ other → here < 2 ^ 40 → there < 2 ^ 40 → frame_of images one here ≡ Some frame → frame_of images other there ≡ Some frame
        → (attributes_of images one here ≡ Some (attributes Shared)) × (attributes_of images other there ≡ Some (attributes Shared))
    images_share one other here there frame differ low_here low_there e f =
        let a = reached_from one here frame low_here e in
        let b = reached_from other there frame low_there f in
        let both = apart.meet one other _ _ a.0 b.0 differ a.1 b.1 (a.2 ∙ sym b.2) in
        (a.3 ∙ ap (λ (kind : Kind). Some (attributes kind)) both.0, b.3 ∙ ap (λ (kind : Kind). Some (attributes kind)) both.1)

    -- no frame that is left is reached
    left_unreached : (n address frame : ℕ) → address < 2 ^ 40 → is_in free frame ≡ true → frame_of images n address ≢ Some frame
    left_unreached n address frame low left e =
        let a = reached_from n address frame low e in
        true≢false (sym left ∙ ap (is_in free) (sym a.2) ∙ apart.unmapped n _ a.0 a.1)

-- ---- the frames of tables

-- a member of a list has what all have
all_member : (P : ℕ → Type 0) (xs : List ℕ) (x : ℕ) → All P xs → is_in xs x ≡ true → P x
all_member P [] x all there = absurd (true≢false (sym there ∙ is_in_nil x))
all_member P (y ∷ xs) x all there = by (eqb_tells y x) (sym (is_in_cons x y xs) ∙ there) (all_member P xs x (λ k d within. all (suc k) d (omega arith)))
  where
    by : (((y == x) ≡ true) × (y ≡ x)) ⊎ (((y == x) ≡ false) × (y ≢ x)) → ((y == x) || is_in xs x) ≡ true → (is_in xs x ≡ true → P x) → P x
    by (inl h) _ _ = subst P h.1 (all 0 0 (omega arith))
    by (inr h) is rest = rest (rw h.0 at is)

-- what is drawn for tables, where the lowest pair is known
drawn_of : (count : ℕ) (free frames : List ℕ) → table_frames count free ≡ Some frames → (root : ℕ) × (lowest_pair free ≡ Some root) × (frames ≡ drawn_after count free root)
drawn_of count free frames drawn = by (lowest_pair free) refl drawn
  where
    by : (pair : Option ℕ) → lowest_pair free ≡ pair → drawn_from count free pair ≡ Some frames → (root : ℕ) × (lowest_pair free ≡ Some root) × (frames ≡ drawn_after count free root)
    by None e d = absurd (cc)
    by (Some root) e d = (root, e, sym (ap (λ (o : Option (List ℕ)). unwrap_or o []) d))

-- what is left of ascending frames ascends
drop_ascends : (k : ℕ) (frames : List ℕ) → AreFrames frames → AreFrames (drop k frames)
drop_ascends zero frames ok = ok
drop_ascends (suc k) [] ok = ok
drop_ascends (suc k) (x ∷ xs) ok = drop_ascends k xs (AreFramesFrom-weaker xs 0 (x + 1) (omega arith) ok.2)

left_ascends : (plan : GuestPlan) (free : List ℕ) → AreFrames free → AreFrames (left_by plan free)
left_ascends plan free ok = by (lowest_pair free)
  where
    by : (pair : Option ℕ) → AreFrames (left_after (tables_needed plan) free pair)
    by None = ok
    by (Some root) = drop_ascends (tables_needed plan - 2) (without root 2 free) (AreFrames-without root 2 free ok)

-- the tables of an image lie in the frames that were free, and none of them is left
module _ (plan : GuestPlan) (free image : List ℕ) (is : IsImageFile plan.ranges free image) where
  tables_are : tables_in (image_of image) ≡ frames_of is.pages
  tables_are = ap tables_in is.file

  table_was_free : (frame : ℕ) → is_in (tables_in (image_of image)) frame ≡ true → is_in free frame ≡ true
  table_was_free frame there =
      let drawn = drawn_of (tables_needed plan) free (frames_of is.pages) is.drawn in
      all_member (λ f. is_in free f ≡ true) (frames_of is.pages) frame
      (subst (λ (frames : List ℕ). All (λ f. is_in free f ≡ true) frames) (sym drawn.2) (drawn_free (tables_needed plan) free drawn.0 drawn.1))
      (sym (ap (λ (frames : List ℕ). is_in frames frame) tables_are) ∙ there)

  table_is_taken : AreFrames free → (frame : ℕ) → is_in (tables_in (image_of image)) frame ≡ true → is_in (left_by plan free) frame ≡ false
  table_is_taken ok frame there =
      let drawn = drawn_of (tables_needed plan) free (frames_of is.pages) is.drawn in
      let taken = drawn_taken free (without drawn.0 2 free) (frames_of is.pages) drawn.0 (tables_needed plan - 2) ok drawn.1 refl drawn.2 in
      ap (λ (pair : Option ℕ). is_in (left_after (tables_needed plan) free pair) frame) drawn.1
      ∙ all_member (λ f. is_in (drop (tables_needed plan - 2) (without drawn.0 2 free)) f ≡ false) (frames_of is.pages) frame taken
      (sym (ap (λ (frames : List ℕ). is_in frames frame) tables_are) ∙ there)

-- a frame that was not free is no table's
not_true : (b : Bool) → (b ≡ true → ⊥) → b ≡ false
not_true true never = absurd (never refl)
not_true false never = refl

-- the tables of all images lie in the frames that were free
tables_were_free : (plans : List GuestPlan) (free : List ℕ) (images : List (List ℕ)) → AreImageFiles plans free images → (n frame : ℕ) → is_in (tables_of images n) frame ≡ true → is_in free frame ≡ true
tables_were_free [] free images are n frame there = absurd (true≢false (sym there ∙ ap (λ (xs : List (List ℕ)). is_in (tables_of xs n) frame) are ∙ is_in_nil frame))
tables_were_free (plan ∷ plans) free [] are n frame there = elim are [ ]
tables_were_free (plan ∷ plans) free (image ∷ images) are zero frame there = table_was_free plan free image are.0 frame there
tables_were_free (plan ∷ plans) free (image ∷ images) are (suc n) frame there =
    free_after-was_free (tables_needed plan) free frame (tables_were_free plans (left_by plan free) images are.1 n frame there)

-- the tables of a later image are none of an earlier one
later_apart : (plans : List GuestPlan) (free : List ℕ) (images : List (List ℕ)) → AreImageFiles plans free images → AreFrames free → (n m frame : ℕ) → n < m
    → is_in (tables_of images n) frame ≡ true → is_in (tables_of images m) frame ≡ true → ⊥
later_apart [] free images are ok n m frame less one other = true≢false (sym one ∙ ap (λ (xs : List (List ℕ)). is_in (tables_of xs n) frame) are ∙ is_in_nil frame)
later_apart (plan ∷ plans) free [] are ok n m frame less one other = elim are [ ]
later_apart (plan ∷ plans) free (image ∷ images) are ok n zero frame less one other = absurd (omega arith)
later_apart (plan ∷ plans) free (image ∷ images) are ok zero (suc m) frame less one other =
    true≢false (sym (tables_were_free plans (left_by plan free) images are.1 m frame other) ∙ table_is_taken plan free image are.0 ok frame one)
later_apart (plan ∷ plans) free (image ∷ images) are ok (suc n) (suc m) frame less one other =
    later_apart plans (left_by plan free) images are.1 (left_ascends plan free ok) n m frame (omega arith) one other

-- images of a plan whose maps are apart are apart
pub images_apart : (common : ℕ → ℕ → ℕ → Bool) (plans : List GuestPlan) (free : List ℕ) (images : List (List ℕ)) → ArePlannedApart common plans free → AreImageFiles plans free images → AreApart images
images_apart common plans free images planned are =
    let all = all_walk plans free images are in
    record {
      shared = images_share plans images all common free planned;
      unmapped = λ one other here frame low table. left_unreached plans images all common free planned other here frame low (tables_were_free plans free images are one frame table);
      tables = λ one other frame differ table. not_true (is_in (tables_of images other) frame) (λ there. by one other frame differ table there (order one other differ));
    }
  where
    order : (n m : ℕ) → n ≢ m → (n < m) ⊎ (m < n)
    order n m differ = elim (cases_order n m) [ inl same ↦ absurd (differ same) | inr apart ↦ apart ]

    by : (one other frame : ℕ) → one ≢ other → is_in (tables_of images one) frame ≡ true → is_in (tables_of images other) frame ≡ true → (one < other) ⊎ (other < one) → ⊥
    by one other frame differ table there (inl less) = later_apart plans free images are planned.ascending one other frame less table there
    by one other frame differ table there (inr more) = later_apart plans free images are planned.ascending other one frame more there table
