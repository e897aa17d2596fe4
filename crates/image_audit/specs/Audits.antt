-- The audit of the images of a plan's guests, as a step of a run.
use Rattle.std.specs.Prelude.{◌≡◌, ℕ, Bool, List, [], ◌∷◌, ◌++◌, Option, Some, None, Ok}
use Rattle.std.specs.List.{list_any}
use Rattle.texts.specs.Consecutive.{is_in}
use Rattle.outside.specs.Outside.{File}
use Rattle.described.specs.declared.map_range.MapRange.{MapRange}
use Rattle.outside.specs.declared.status.Status.TheVariants as statuses
use Rattle.stage2_walk.specs.Pages.{Page}
use Rattle.stage2_walk.specs.Files.{image_of}
use Rattle.stage2_walk.specs.declared.image_fault.ImageFault.{ImageFault}
use Rattle.domain_plan.specs.declared.planned.GuestPlan.{GuestPlan}
use Rattle.guest_images.specs.Walks.{AllWalk, MeetOnlyIn, AreApart, tables_in}
use Rattle.domain_plan.specs.Apart.{ArePlannedApart}
use Rattle.run_steps.specs.Endings.{Outcome}
use Rattle.run_steps.specs.Messages.{file_message}
use Rattle.run_steps.specs.Names.{joined}
use Rattle.run_steps.specs.Steps.{IsRefusal, OnResult, IsReading, AfterReading}
use Rattle.guest_images.specs.Names.{image_name}
use Rattle.image_audit.specs.Findings.{audit_finding, is_mapped}
use Rattle.image_audit.specs.Texts.{image_fault_text}

-- the longest image that is read, in bytes
abbrev pub image_limit : ℕ
image_limit = 268435456

-- the file of a guest's image, in a folder where one is given
abbrev pub image_file : Option (List ℕ) → GuestPlan → List ℕ
image_file folder plan = joined folder (image_name plan.number)

-- one of the images has a table in the frame
abbrev pub has_table : List (List ℕ) → ℕ → Bool
has_table images frame = list_any (λ image. is_in (tables_in (image_of image)) frame) images

-- a file that is no image is refused
abbrev pub IsImageRefusal : List ℕ → ImageFault → Outcome → Type 0
IsImageRefusal name fault outcome = IsRefusal statuses.Format (file_message name (image_fault_text fault)) outcome

-- what is found is refused; where nothing is, the audit goes on
abbrev pub UnlessFound : List ℕ → (Outcome → Type 0) → Option (List ℕ) → Outcome → Type 0
UnlessFound name next None outcome = next outcome
UnlessFound name next (Some text) outcome = IsRefusal statuses.Differs (file_message name text) outcome

-- the bytes of a guest's image: its format is tested, it is audited against these ranges and these two tests of frames, and then it is handed on
abbrev pub AfterImage : List ℕ → (ℕ → Bool) → (ℕ → Bool) → List MapRange → List ℕ → (List ℕ → Outcome → Type 0) → Outcome → Type 0
AfterImage name mapped earlier ranges bytes next outcome =
    OnResult (IsImageRefusal name) (λ image. UnlessFound name (next bytes) (audit_finding mapped earlier ranges image.1 image.0)) (image_of bytes) outcome

-- the image of a guest is read from a file in a folder, where one is given, and audited
abbrev pub AfterAudit : Option (List File) → Option (List ℕ) → (ℕ → Bool) → (ℕ → Bool) → GuestPlan → (List ℕ → Outcome → Type 0) → Outcome → Type 0
AfterAudit told folder mapped earlier plan next outcome =
    AfterReading told (image_file folder plan) image_limit (λ bytes. AfterImage (image_file folder plan) mapped earlier plan.ranges bytes next) outcome

-- the images of later guests among all plans, where these images came before: each is read and audited before the next is read, and all are handed on
abbrev pub AfterLater : Option (List File) → Option (List ℕ) → List GuestPlan → List (List ℕ) → List GuestPlan → (List (List ℕ) → Outcome → Type 0) → Outcome → Type 0
AfterLater told folder plans before [] next outcome = next before outcome
AfterLater told folder plans before (plan ∷ later) next outcome =
    AfterAudit told folder (is_mapped plans) (has_table before) plan (λ image. AfterLater told folder plans (before ++ image ∷ []) later next) outcome

-- the images of all guests are read and audited in the order of the guests, and handed on
abbrev pub AfterAudits : Option (List File) → Option (List ℕ) → List GuestPlan → (List (List ℕ) → Outcome → Type 0) → Outcome → Type 0
AfterAudits told folder plans next outcome = AfterLater told folder plans [] plans next outcome

-- the bytes are an image in which nothing is found
pub record IsSound (mapped earlier : ℕ → Bool) (ranges : List MapRange) (bytes : List ℕ) : Type 0 where
  pub root : ℕ
  pub pages : List Page
  pub image : image_of bytes ≡ Ok (root, pages)
  pub nothing_found : audit_finding mapped earlier ranges pages root ≡ None

-- these bytes were read as the image of a guest, and nothing is found in them
pub record IsAudited (told : Option (List File)) (folder : Option (List ℕ)) (mapped earlier : ℕ → Bool) (plan : GuestPlan) (bytes : List ℕ) : Type 0 where
  pub read : IsReading told (image_file folder plan) image_limit (Ok bytes)
  pub sound : IsSound mapped earlier plan.ranges bytes

-- these are the images that came before with those of later guests, each of which was read, and nothing is found in it
abbrev pub AreAudited : Option (List File) → Option (List ℕ) → List GuestPlan → List (List ℕ) → List GuestPlan → List (List ℕ) → Type 0
AreAudited told folder plans before [] images = images ≡ before
AreAudited told folder plans before (plan ∷ later) images =
    (image : List ℕ) × IsAudited told folder (is_mapped plans) (has_table before) plan image × AreAudited told folder plans (before ++ image ∷ []) later images

-- Nothing is found in the images of guests, whoever made them.
pub record FindsNothing (told : Option (List File)) (folder : Option (List ℕ)) (plans : List GuestPlan) : Type 0 where
  pub images : List (List ℕ)
  pub audited : AreAudited told folder plans [] plans images
  -- walking the image of a guest translates an address exactly where its plan maps it
  pub walks : AllWalk plans images
  -- where the plans are apart, two images meet only where that is common
  pub meet : (common : ℕ → ℕ → ℕ → Bool) (free : List ℕ) → ArePlannedApart common plans free → MeetOnlyIn common images
  -- and both have shared memory there; no table lies in a frame that an image maps, and none in a frame of another image
  pub apart : (common : ℕ → ℕ → ℕ → Bool) (free : List ℕ) → ArePlannedApart common plans free → AreApart images
