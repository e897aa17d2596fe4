-- Reading the parts are steps.
use Rattle.std.proofs.Common.{◌≡◌, ap, sym, subst, refl, ℕ, List, length}
use Rattle.std.specs.Prelude.{Option, Some, None, Ok}
use Rattle.outside.specs.Outside.{File}
use Rattle.outside.specs.declared.status.Status.TheVariants as statuses
use Rattle.run_steps.specs.Endings.{Outcome}
use Rattle.run_steps.specs.Steps.{IsRefusal, IsReading, AfterReading, IsSize, AfterSize, nothing}
use Rattle.tree_files.specs.Trees.{FlatTree, AfterTreeFile, IsTreeFile}
use Rattle.run_steps.proofs.Step.{Next, IsStep, and_then, said_as, hand_on, hand_on_step, on_option_step}
use Rattle.run_steps.proofs.ReadingSteps.{reading_step, size_step}
use Rattle.tree_files.proofs.TreeSteps.{tree_file_step}
use Rattle.guest_load.specs.declared.head.ImageHead.{ImageHead}
use Rattle.guest_load.specs.declared.places.Place.{Place}
use Rattle.guest_load.specs.Heads.{image_head}
use Rattle.guest_load.specs.Banks.{first_bank}
use Rattle.guest_load.specs.Lines.{no_bank_message, no_image_message}
use Rattle.guest_load.specs.Words.{Asked}
use Rattle.guest_load.specs.Parts.{Parts, kernel_limit, AfterBank, AfterGuest, AfterHead, AfterKernel, AfterRamdisk, AfterParts, IsRamdisk, AreParts}

-- a tree that was read, and its bank
abbrev pub IsGuest : Option (List File) → List ℕ → FlatTree × Place → Type 0
IsGuest told name guest = IsTreeFile told name guest.0 × (first_bank guest.0.root ≡ Some guest.1)

-- the head and the length of a kernel that was read
abbrev pub IsKernel : Option (List File) → List ℕ → ImageHead × ℕ → Type 0
IsKernel told name kernel = (file : List ℕ) × IsReading told name kernel_limit (Ok file) × (image_head file ≡ Some kernel.0) × (kernel.1 ≡ length file)

pub bank_step : (name : List ℕ) (tree : FlatTree) → IsStep (λ bank. first_bank tree.root ≡ Some bank) (AfterBank name tree)
bank_step name tree = on_option_step (IsRefusal statuses.Refused (no_bank_message name)) (λ outputs report p. p) (λ status list p. p) (first_bank tree.root)

pub head_step : (name bytes : List ℕ) → IsStep (λ head. image_head bytes ≡ Some head) (AfterHead name bytes)
head_step name bytes = on_option_step (IsRefusal statuses.Format (no_image_message name)) (λ outputs report p. p) (λ status list p. p) (image_head bytes)

module _ (told : Option (List File)) where
  pub guest_step : (name : List ℕ) → IsStep (IsGuest told name) (AfterGuest told name)
  guest_step name =
      said_as (λ guest. (tree : FlatTree) × IsTreeFile told name tree × ((bank : Place) × (first_bank tree.root ≡ Some bank) × (guest ≡ (tree, bank)))) (IsGuest told name) (AfterGuest told name)
      (and_then (IsTreeFile told name) (λ tree guest. (bank : Place) × (first_bank tree.root ≡ Some bank) × (guest ≡ (tree, bank)))
      (AfterTreeFile told name) (λ tree next outcome. AfterBank name tree (λ bank. next (tree, bank)) outcome) (tree_file_step told name)
      (λ tree. and_then (λ bank. first_bank tree.root ≡ Some bank) (λ bank guest. guest ≡ (tree, bank)) (AfterBank name tree) (λ bank. hand_on (tree, bank)) (bank_step name tree) (λ bank. hand_on_step (tree, bank))))
      (λ guest found. subst (IsGuest told name) (sym found.2.2) (found.1, found.2.1))
      (λ guest is. (guest.0, is.0, (guest.1, is.1, refl)))

  pub kernel_step : (name : List ℕ) → IsStep (IsKernel told name) (AfterKernel told name)
  kernel_step name =
      said_as (λ kernel. (file : List ℕ) × IsReading told name kernel_limit (Ok file) × ((head : ImageHead) × (image_head file ≡ Some head) × (kernel ≡ (head, length file)))) (IsKernel told name) (AfterKernel told name)
      (and_then (λ file. IsReading told name kernel_limit (Ok file)) (λ file kernel. (head : ImageHead) × (image_head file ≡ Some head) × (kernel ≡ (head, length file)))
      (AfterReading told name kernel_limit) (λ file next outcome. AfterHead name file (λ head. next (head, length file)) outcome) (reading_step told name kernel_limit)
      (λ file. and_then (λ head. image_head file ≡ Some head) (λ head kernel. kernel ≡ (head, length file)) (AfterHead name file) (λ head. hand_on (head, length file)) (head_step name file) (λ head. hand_on_step (head, length file))))
      (λ kernel found. subst (IsKernel told name) (sym found.2.2) (found.0, found.1, found.2.1, refl))
      (λ kernel is. (is.0, is.1, (kernel.0, is.2, paired kernel (length is.0) is.3)))
    where
      paired : (kernel : ImageHead × ℕ) (count : ℕ) → kernel.1 ≡ count → kernel ≡ (kernel.0, count)
      paired kernel count is = ap (λ n. (kernel.0, n)) is

  pub ramdisk_step : (name : Option (List ℕ)) → IsStep (IsRamdisk told name) (AfterRamdisk told name)
  ramdisk_step None = hand_on_step None
  ramdisk_step (Some name) =
      and_then (λ size. IsSize told name (Some size)) (λ size found. found ≡ Some size) (AfterSize told name) (λ size. hand_on (Some size)) (size_step told name) (λ size. hand_on_step (Some size))

  -- what follows the tree, and what follows the kernel
  abbrev pub AfterTheKernel : Asked → FlatTree × Place → ImageHead × ℕ → Next Parts → Outcome → Type 0
  AfterTheKernel asked guest kernel next outcome =
      AfterRamdisk told asked.ramdisk (λ ramdisk. next (record { tree = guest.0; bank = guest.1; head = kernel.0; kernel = kernel.1; ramdisk = ramdisk })) outcome

  abbrev pub AfterTheTree : Asked → FlatTree × Place → Next Parts → Outcome → Type 0
  AfterTheTree asked guest next outcome = AfterKernel told asked.kernel (λ kernel. AfterTheKernel asked guest kernel next) outcome

  module _ (asked : Asked) where
    abbrev pub the_parts : FlatTree × Place → ImageHead × ℕ → Option ℕ → Parts
    the_parts guest kernel ramdisk = record { tree = guest.0; bank = guest.1; head = kernel.0; kernel = kernel.1; ramdisk = ramdisk }

    abbrev FoundRamdisk : FlatTree × Place → ImageHead × ℕ → Parts → Type 0
    FoundRamdisk guest kernel parts = (ramdisk : Option ℕ) × IsRamdisk told asked.ramdisk ramdisk × (parts ≡ the_parts guest kernel ramdisk)

    abbrev FoundKernel : FlatTree × Place → Parts → Type 0
    FoundKernel guest parts = (kernel : ImageHead × ℕ) × IsKernel told asked.kernel kernel × FoundRamdisk guest kernel parts

    pub after_kernel_step : (guest : FlatTree × Place) (kernel : ImageHead × ℕ) → IsStep (FoundRamdisk guest kernel) (AfterTheKernel asked guest kernel)
    after_kernel_step guest kernel =
        and_then (IsRamdisk told asked.ramdisk) (λ ramdisk parts. parts ≡ the_parts guest kernel ramdisk) (AfterRamdisk told asked.ramdisk) (λ ramdisk. hand_on (the_parts guest kernel ramdisk))
        (ramdisk_step asked.ramdisk) (λ ramdisk. hand_on_step (the_parts guest kernel ramdisk))

    pub after_tree_step : (guest : FlatTree × Place) → IsStep (FoundKernel guest) (AfterTheTree asked guest)
    after_tree_step guest =
        and_then (IsKernel told asked.kernel) (FoundRamdisk guest) (AfterKernel told asked.kernel) (AfterTheKernel asked guest) (kernel_step asked.kernel) (after_kernel_step guest)

    pub parts_step : IsStep (AreParts told asked) (AfterParts told asked)
    parts_step =
        said_as (λ parts. (guest : FlatTree × Place) × IsGuest told asked.tree guest × FoundKernel guest parts) (AreParts told asked) (AfterParts told asked)
        (and_then (IsGuest told asked.tree) FoundKernel (AfterGuest told asked.tree) (AfterTheTree asked) (guest_step asked.tree) after_tree_step)
        (λ parts found.
        subst (AreParts told asked) (sym found.2.2.2)
        (record {
          tree = found.1.0;
          bank = found.1.1;
          file = found.2.1.0;
          read = found.2.1.1;
          head = found.2.1.2;
          kernel = found.2.1.3;
          ramdisk = found.2.2.1;
        }))
        (λ parts are. ((parts.tree, parts.bank), (are.tree, are.bank), ((parts.head, parts.kernel), (are.file, are.read, are.head, are.kernel), (parts.ramdisk, are.ramdisk, refl))))

    -- what each of them refuses
    pub refused_guest : (outcome : Outcome) → AfterGuest told asked.tree nothing outcome → AfterParts told asked nothing outcome
    refused_guest outcome refused = (guest_step asked.tree).stays (λ guest. AfterTheTree asked guest nothing) outcome refused

    module _ (guest : FlatTree × Place) (is : IsGuest told asked.tree guest) (outcome : Outcome) where
      pub refused_kernel : AfterKernel told asked.kernel nothing outcome → AfterParts told asked nothing outcome
      refused_kernel refused =
          (guest_step asked.tree).gives guest is (λ guest. AfterTheTree asked guest nothing) outcome
          ((kernel_step asked.kernel).stays (λ kernel. AfterTheKernel asked guest kernel nothing) outcome refused)

      pub refused_ramdisk : (kernel : ImageHead × ℕ) → IsKernel told asked.kernel kernel → AfterRamdisk told asked.ramdisk nothing outcome → AfterParts told asked nothing outcome
      refused_ramdisk kernel read refused =
          (guest_step asked.tree).gives guest is (λ guest. AfterTheTree asked guest nothing) outcome
          ((kernel_step asked.kernel).gives kernel read (λ kernel. AfterTheKernel asked guest kernel nothing) outcome
          ((ramdisk_step asked.ramdisk).stays (λ ramdisk. nothing (the_parts guest kernel ramdisk)) outcome refused))
