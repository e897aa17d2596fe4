-- Image after image: what was audited by ranges of frames was audited by all plans and by the images before.
use Rattle.std.proofs.Common.{◌≡◌, ◌∙◌, refl, sym, ap, subst, ℕ, ◌+◌, ◌^◌, ◌<◌, ◌&&◌, ◌||◌, Bool, true, false, cond, eqb, List, [], ◌∷◌, ◌++◌, length, take, drop, get_or, Some, inl, inr}
use Rattle.std.specs.Prelude.{Option, option_map, Result, Ok, Err, not, find}
use Rattle.std.specs.Option.{option_or}
use Rattle.std.proofs.lemmas.Bool.Decides.{eqb_tells}
use Rattle.std.proofs.lemmas.List.{take_more, take-append-drop, drop_more}
use Rattle.std.proofs.lemmas.List.Folds.{list_any-append}
use Rattle.texts.specs.Consecutive.{is_in}
use Rattle.outside.specs.Outside.{File}
use Rattle.outside.specs.declared.files.FileError.{FileError}
use Rattle.texts.specs.declared.ranges.FrameRange.{FrameRange}
use Rattle.described.specs.declared.map_range.MapRange.{MapRange}
use Rattle.frame_alloc.proofs.FreeFrames.{is_in_cons}
use Rattle.frame_alloc.proofs.CommonFrames.{or_right}
use Rattle.stage2_walk.specs.Pages.{Page, frames_of}
use Rattle.stage2_walk.specs.Files.{image_of}
use Rattle.stage2_walk.specs.declared.image_fault.ImageFault.{ImageFault}
use Rattle.domain_plan.specs.declared.planned.GuestPlan.{GuestPlan}
use Rattle.guest_images.specs.Walks.{tables_in}
use Rattle.run_steps.specs.Endings.{Outcome}
use Rattle.run_steps.specs.Steps.{OnResult, IsReadRefusal, nothing}
use Rattle.image_audit.specs.Findings.{tear, difference, table_where, audit_finding, is_mapped}
use Rattle.image_audit.specs.Texts.{frame_text, table_mapped, table_shared}
use Rattle.image_audit.specs.Audits.{image_limit, image_file, has_table, IsImageRefusal, UnlessFound, AfterImage, AfterAudit, AfterLater, AfterAudits, IsSound, IsAudited, AreAudited}
use Rattle.image_audit.specs.PrivateRests.{is_outside, IsRest, IsLeft}
use Rattle.image_audit.proofs.ImageFiles.{frame_low}
use Rattle.image_audit.proofs.AuditSteps.{audit_step}

-- ---- two tests that agree on low frames

abbrev AgreeLow : (ℕ → Bool) → (ℕ → Bool) → Type 0
AgreeLow f g = (frame : ℕ) → frame < 2 ^ 28 → f frame ≡ g frame

found_alike : (f g : ℕ → Bool) (frames : List ℕ) → ((frame : ℕ) → is_in frames frame ≡ true → f frame ≡ g frame) → find f frames ≡ find g frames
found_alike f g [] agree = refl
found_alike f g (x ∷ xs) agree =
    ap (λ b. cond b (Some x) (find f xs)) (agree x (is_in_cons x x xs ∙ rw (self x) refl))
    ∙ ap (λ (o : Option ℕ). cond (g x) (Some x) o) (found_alike f g xs (λ frame there. agree frame (is_in_cons frame x xs ∙ or_right (eqb x frame) (is_in xs frame) there)))
  where
    self : (a : ℕ) → eqb a a ≡ true
    self a = elim (eqb_tells a a) [ inl h ↦ h.0 | inr h ↦ absurd (h.1 refl) ]

module _ (mapped other_mapped earlier other_earlier : ℕ → Bool) (same_mapped : AgreeLow mapped other_mapped) (same_earlier : AgreeLow earlier other_earlier) (ranges : List MapRange) where
  -- find the same in an image
  module _ (bytes : List ℕ) (root : ℕ) (pages : List Page) (is : image_of bytes ≡ Ok (root, pages)) where
    same_table : (name : List ℕ) (f g : ℕ → Bool) → AgreeLow f g → table_where name f pages ≡ table_where name g pages
    unfolding table_where
    same_table name f g agree = ap (option_map (frame_text name)) (found_alike f g (frames_of pages) (λ frame there. agree frame (frame_low bytes root pages is frame there)))

    pub same_finding : audit_finding mapped earlier ranges pages root ≡ audit_finding other_mapped other_earlier ranges pages root
    same_finding =
        ap (λ (t : Option (List ℕ)). option_or (tear pages root) (option_or (difference ranges pages root) (option_or t (table_where table_shared earlier pages)))) (same_table table_mapped mapped other_mapped same_mapped)
        ∙ ap (λ (t : Option (List ℕ)). option_or (tear pages root) (option_or (difference ranges pages root) (option_or (table_where table_mapped other_mapped pages) t))) (same_table table_shared earlier other_earlier same_earlier)

  same_sound : (bytes : List ℕ) → IsSound mapped earlier ranges bytes → IsSound other_mapped other_earlier ranges bytes
  same_sound bytes sound = record { root = sound.root; pages = sound.pages; image = sound.image; nothing_found = sym (same_finding bytes sound.root sound.pages sound.image) ∙ sound.nothing_found }

  same_image : (name bytes : List ℕ) (outcome : Outcome) (answer : Result (ℕ × List Page) ImageFault) → image_of bytes ≡ answer
      → OnResult (IsImageRefusal name) (λ image. UnlessFound name (nothing bytes) (audit_finding mapped earlier ranges image.1 image.0)) answer outcome
      → OnResult (IsImageRefusal name) (λ image. UnlessFound name (nothing bytes) (audit_finding other_mapped other_earlier ranges image.1 image.0)) answer outcome
  same_image name bytes outcome (Ok (root, pages)) is p = subst (λ (text : Option (List ℕ)). UnlessFound name (nothing bytes) text outcome) (same_finding bytes root pages is) p
  same_image name bytes outcome (Err fault) is p = p

-- and refuse the same
module _ (told : Option (List File)) (folder : Option (List ℕ)) (plan : GuestPlan) (mapped other_mapped earlier other_earlier : ℕ → Bool) (same_mapped : AgreeLow mapped other_mapped) (same_earlier : AgreeLow earlier other_earlier) where
  same_read : (outcome : Outcome) (result : Result (List ℕ) FileError)
      → OnResult (IsReadRefusal (image_file folder plan) image_limit) (λ bytes. AfterImage (image_file folder plan) mapped earlier plan.ranges bytes nothing) result outcome
      → OnResult (IsReadRefusal (image_file folder plan) image_limit) (λ bytes. AfterImage (image_file folder plan) other_mapped other_earlier plan.ranges bytes nothing) result outcome
  same_read outcome (Ok bytes) p = same_image mapped other_mapped earlier other_earlier same_mapped same_earlier plan.ranges (image_file folder plan) bytes outcome (image_of bytes) refl p
  same_read outcome (Err error) p = p

  same_refusal : (outcome : Outcome) → AfterAudit told folder mapped earlier plan nothing outcome → AfterAudit told folder other_mapped other_earlier plan nothing outcome
  same_refusal outcome (inl fails) = inl fails
  same_refusal outcome (inr p) = inr (p.0, p.1, same_read outcome p.0 p.2)

  same_audited : (bytes : List ℕ) → IsAudited told folder mapped earlier plan bytes → IsAudited told folder other_mapped other_earlier plan bytes
  same_audited bytes is = record { read = is.read; sound = same_sound mapped other_mapped earlier other_earlier same_mapped same_earlier plan.ranges bytes is.sound }

-- ---- the frames that are left are those that are not taken

not_not : (b : Bool) → not (not b) ≡ b
not_not true = refl
not_not false = refl

outside_taken : (taken : ℕ → Bool) (ranges : List FrameRange) → IsRest taken ranges → AgreeLow (is_outside ranges) taken
outside_taken taken ranges is frame low = ap not (is.rest frame low) ∙ not_not (taken frame)

both_left : (a b : Bool) → (not a && not b) ≡ not (a || (b || false))
both_left true b = refl
both_left false true = refl
both_left false false = refl

-- one more image has its tables
pub rest_more : (images : List (List ℕ)) (image : List ℕ) (free left : List FrameRange) → IsRest (has_table images) free → IsLeft free (tables_in (image_of image)) left → IsRest (has_table (images ++ image ∷ [])) left
rest_more images image free left is more = record {
  apart = more.apart;
  rest = λ frame low.
      more.left frame ∙ ap (λ b. b && not (is_in (tables_in (image_of image)) frame)) (is.rest frame low) ∙ both_left (has_table images frame) (is_in (tables_in (image_of image)) frame)
      ∙ ap not (sym (list_any-append (λ (image : List ℕ). is_in (tables_in (image_of image)) frame) images (image ∷ [])));
}

-- ---- one image after the others

module _ (told : Option (List File)) (folder : Option (List ℕ)) (plans : List GuestPlan) where
  audited_more : (before : List (List ℕ)) (front : List GuestPlan) (plan : GuestPlan) (images : List (List ℕ)) (image : List ℕ) → AreAudited told folder plans before front images
      → IsAudited told folder (is_mapped plans) (has_table images) plan image → AreAudited told folder plans before (front ++ plan ∷ []) (images ++ image ∷ [])
  audited_more before [] plan images image are is =
      (image, subst (λ (b : List (List ℕ)). IsAudited told folder (is_mapped plans) (has_table b) plan image) are is, ap (λ (b : List (List ℕ)). b ++ image ∷ []) are)
  audited_more before (first ∷ front) plan images image are is = (are.0, are.1, audited_more (before ++ are.0 ∷ []) front plan images image are.2 is)

  refuses_later : (before : List (List ℕ)) (front : List GuestPlan) (plan : GuestPlan) (behind : List GuestPlan) (images : List (List ℕ)) → AreAudited told folder plans before front images
      → (outcome : Outcome) → AfterAudit told folder (is_mapped plans) (has_table images) plan nothing outcome → AfterLater told folder plans before (front ++ plan ∷ behind) nothing outcome
  refuses_later before [] plan behind images are outcome refused =
      (audit_step folder (is_mapped plans) (has_table before) plan told).stays _ outcome (subst (λ (b : List (List ℕ)). AfterAudit told folder (is_mapped plans) (has_table b) plan nothing outcome) are refused)
  refuses_later before (first ∷ front) plan behind images are outcome refused =
      (audit_step folder (is_mapped plans) (has_table before) first told).gives are.0 are.1 _ outcome (refuses_later (before ++ are.0 ∷ []) front plan behind images are.2 outcome refused)

  -- the images of the guests so far, and the frames that are free of their tables
  pub record AuditedUpTo (front : List GuestPlan) (free : List FrameRange) : Type 0 where
    pub images : List (List ℕ)
    pub audited : AreAudited told folder plans [] front images
    pub rest : IsRest (has_table images) free

  pub audited_none : (free : List FrameRange) → IsRest (λ _. false) free → AuditedUpTo [] free
  audited_none free is = record { images = []; audited = refl; rest = is }

  module _ (unmapped : List FrameRange) (is_rest : IsRest (is_mapped plans) unmapped) (i : ℕ) (plan : GuestPlan) (below : i < length plans) (is : plan ≡ get_or plans i plan)
      (free : List FrameRange) (so_far : AuditedUpTo (take i plans) free) where
    -- the next image is audited too
    pub audited_next : (left : List FrameRange) → ((bytes : List ℕ) × IsAudited told folder (is_outside unmapped) (is_outside free) plan bytes × IsLeft free (tables_in (image_of bytes)) left) → AuditedUpTo (take (i + 1) plans) left
    audited_next left (bytes, audited, more) = record {
      images = so_far.images ++ bytes ∷ [];
      audited =
          subst (λ (front : List GuestPlan). AreAudited told folder plans [] front (so_far.images ++ bytes ∷ [])) (sym (take_more plans i plan below ∙ ap (λ (last : GuestPlan). take i plans ++ last ∷ []) (sym is)))
          (audited_more [] (take i plans) plan so_far.images bytes so_far.audited
          (same_audited told folder plan (is_outside unmapped) (is_mapped plans) (is_outside free) (has_table so_far.images) (outside_taken (is_mapped plans) unmapped is_rest) (outside_taken (has_table so_far.images) free so_far.rest) bytes audited));
      rest = rest_more so_far.images bytes free left so_far.rest more;
    }

    -- or it is refused
    pub refused_next : (outcome : Outcome) → AfterAudit told folder (is_outside unmapped) (is_outside free) plan nothing outcome → AfterAudits told folder plans nothing outcome
    refused_next outcome refused =
        subst (λ (all : List GuestPlan). AfterLater told folder plans [] all nothing outcome)
        (ap (λ (rest : List GuestPlan). take i plans ++ rest) (ap (λ (first : GuestPlan). first ∷ drop (i + 1) plans) is ∙ sym (drop_more plans i plan below)) ∙ take-append-drop i plans)
        (refuses_later [] (take i plans) plan (drop (i + 1) plans) so_far.images so_far.audited outcome
        (same_refusal told folder plan (is_outside unmapped) (is_mapped plans) (is_outside free) (has_table so_far.images) (outside_taken (is_mapped plans) unmapped is_rest) (outside_taken (has_table so_far.images) free so_far.rest) outcome refused))
