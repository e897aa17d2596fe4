-- A guest's parts call for no audit: neither reading them nor loading them refuses because images differ.
use Rattle.std.proofs.Common.{◌≡◌, ℕ, List, length, inl, inr}
use Rattle.std.specs.Prelude.{Option, Some, None, Ok}
use Rattle.outside.specs.Outside.{File}
use Rattle.outside.specs.declared.status.Status.{Status}
use Rattle.outside.specs.declared.status.Status.TheVariants as statuses
use Rattle.run_steps.specs.Endings.{Refuses}
use Rattle.run_steps.specs.Steps.{IsRefusal, IsReading, OnOption, AfterReading, IsSize, AfterSize}
use Rattle.tree_files.specs.Trees.{FlatTree, AfterTreeFile, IsTreeFile}
use Rattle.run_steps.proofs.Step.{Avoids, hand_on, hand_on_avoids, both_avoid}
use Rattle.run_steps.proofs.ReadingSteps.{reading_step, size_step}
use Rattle.run_steps.proofs.Avoided.{IsOfNoFile, reading_avoids, size_avoids}
use Rattle.tree_files.proofs.TreeSteps.{tree_file_step, tree_avoids}
use Rattle.guest_load.specs.declared.head.ImageHead.{ImageHead}
use Rattle.guest_load.specs.declared.places.Place.{Place}
use Rattle.guest_load.specs.declared.places.LoadPart.{LoadPart}
use Rattle.guest_load.specs.Banks.{first_bank}
use Rattle.guest_load.specs.Heads.{image_head}
use Rattle.guest_load.specs.Lines.{no_bank_message, no_image_message}
use Rattle.guest_load.specs.LoadPlaces.{first_past}
use Rattle.guest_load.specs.Words.{Asked}
use Rattle.guest_load.specs.Parts.{Parts, kernel_limit, IsRamdisk, AfterBank, AfterGuest, AfterHead, AfterKernel, AfterRamdisk, AfterParts}
use Rattle.guest_load.specs.Job.{plan_of, OnRoom, IsLoading, IsAskedJob}
use Rattle.guest_load.proofs.PartSteps.{IsGuest, IsKernel, AfterTheKernel, AfterTheTree, the_parts, bank_step, head_step, guest_step, kernel_step, ramdisk_step, parts_step}

-- that images differ is none of the statuses of reading files, and none of an item
difference_of_no_file : IsOfNoFile statuses.Differs
difference_of_no_file = record { read = λ e. cc; longer = λ e. cc; format = λ e. cc }

no_item : statuses.Differs ≡ statuses.Refused → ⊥
no_item e = cc

-- what is missing is refused with a status that is another one
missing_avoids : {A : Type 0} (status : Status) (message : List ℕ) → (statuses.Differs ≡ status → ⊥) → (option : Option A) → Avoids statuses.Differs (λ next. OnOption (IsRefusal status message) next option)
missing_avoids status text another (Some value) message p = p
missing_avoids status text another None message p = another p.0

bank_avoids : (name : List ℕ) (tree : FlatTree) → Avoids statuses.Differs (AfterBank name tree)
bank_avoids name tree = missing_avoids statuses.Refused (no_bank_message name) no_item (first_bank tree.root)

head_avoids : (name bytes : List ℕ) → Avoids statuses.Differs (AfterHead name bytes)
head_avoids name bytes = missing_avoids statuses.Format (no_image_message name) difference_of_no_file.format (image_head bytes)

module _ (told : Option (List File)) where
  guest_avoids : (name : List ℕ) → Avoids statuses.Differs (AfterGuest told name)
  guest_avoids name =
      both_avoid {B = FlatTree × Place} (IsTreeFile told name) statuses.Differs (AfterTreeFile told name) (λ tree next outcome. AfterBank name tree (λ bank. next (tree, bank)) outcome) (tree_file_step told name)
      (tree_avoids statuses.Differs difference_of_no_file told name)
      (λ tree. both_avoid {B = FlatTree × Place} (λ bank. first_bank tree.root ≡ Some bank) statuses.Differs (AfterBank name tree) (λ bank. hand_on (tree, bank)) (bank_step name tree) (bank_avoids name tree) (λ bank message p. p))

  kernel_avoids : (name : List ℕ) → Avoids statuses.Differs (AfterKernel told name)
  kernel_avoids name =
      both_avoid {B = ImageHead × ℕ} (λ file. IsReading told name kernel_limit (Ok file)) statuses.Differs (AfterReading told name kernel_limit) (λ file next outcome. AfterHead name file (λ head. next (head, length file)) outcome) (reading_step told name kernel_limit)
      (reading_avoids statuses.Differs difference_of_no_file told name kernel_limit)
      (λ file. both_avoid {B = ImageHead × ℕ} (λ head. image_head file ≡ Some head) statuses.Differs (AfterHead name file) (λ head. hand_on (head, length file)) (head_step name file) (head_avoids name file) (λ head message p. p))

  ramdisk_avoids : (name : Option (List ℕ)) → Avoids statuses.Differs (AfterRamdisk told name)
  ramdisk_avoids None = hand_on_avoids {A = Option ℕ} statuses.Differs None
  ramdisk_avoids (Some name) =
      both_avoid (λ size. IsSize told name (Some size)) statuses.Differs (AfterSize told name) (λ size. hand_on (Some size)) (size_step told name) (size_avoids statuses.Differs difference_of_no_file told name)
      (λ size. hand_on_avoids statuses.Differs (Some size))

  module _ (asked : Asked) where
    after_kernel_avoids : (guest : FlatTree × Place) (kernel : ImageHead × ℕ) → Avoids statuses.Differs (AfterTheKernel told asked guest kernel)
    after_kernel_avoids guest kernel =
        both_avoid (IsRamdisk told asked.ramdisk) statuses.Differs (AfterRamdisk told asked.ramdisk) (λ ramdisk. hand_on (the_parts told asked guest kernel ramdisk))
        (ramdisk_step told asked.ramdisk) (ramdisk_avoids asked.ramdisk) (λ ramdisk. hand_on_avoids statuses.Differs (the_parts told asked guest kernel ramdisk))

    after_tree_avoids : (guest : FlatTree × Place) → Avoids statuses.Differs (AfterTheTree told asked guest)
    after_tree_avoids guest =
        both_avoid (IsKernel told asked.kernel) statuses.Differs (AfterKernel told asked.kernel) (AfterTheKernel told asked guest) (kernel_step told asked.kernel) (kernel_avoids asked.kernel) (after_kernel_avoids guest)

    -- reading the parts
    parts_avoid : Avoids statuses.Differs (AfterParts told asked)
    parts_avoid =
        both_avoid (IsGuest told asked.tree) statuses.Differs (AfterGuest told asked.tree) (AfterTheTree told asked) (guest_step told asked.tree) (guest_avoids asked.tree) after_tree_avoids

-- loading them
room_avoids : (out : List ℕ) (parts : Parts) (found : Option LoadPart) (message : List ℕ) → OnRoom out parts found (Refuses statuses.Differs message) → ⊥
room_avoids out parts (Some part) message p = no_item p.0
room_avoids out parts None message p = p

loading_avoids : (out : List ℕ) (parts : Parts) (message : List ℕ) → IsLoading out parts (Refuses statuses.Differs message) → ⊥
loading_avoids out parts message (inl refused) = no_item refused.1.0
loading_avoids out parts message (inr fits) = room_avoids out parts (first_past parts.bank (plan_of parts)) message fits.1

-- so what is asked for calls for no such refusal
pub job_avoids : (told : Option (List File)) (asked : Asked) (message : List ℕ) → IsAskedJob told asked (Refuses statuses.Differs message) → ⊥
job_avoids told asked message job = elim ((parts_step told asked).splits (IsLoading asked.out) (Refuses statuses.Differs message) job) [
  | inl given ↦ loading_avoids asked.out given.0 message given.2
  | inr refused ↦ parts_avoid told asked message refused
]
