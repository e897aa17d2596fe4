-- The parts that a guest is started with, as its files give them.
use Rattle.std.specs.Prelude.{◌≡◌, ℕ, List, length, Option, Some, None, Ok}
use Rattle.outside.specs.Outside.{File}
use Rattle.outside.specs.declared.status.Status.TheVariants as statuses
use Rattle.run_steps.specs.Endings.{Outcome}
use Rattle.run_steps.specs.Steps.{IsRefusal, OnOption, IsReading, AfterReading, IsSize, AfterSize}
use Rattle.tree_files.specs.Trees.{FlatTree, AfterTreeFile, IsTreeFile}
use Rattle.guest_load.specs.declared.head.ImageHead.{ImageHead}
use Rattle.guest_load.specs.declared.places.Place.{Place}
use Rattle.guest_load.specs.Heads.{image_head}
use Rattle.guest_load.specs.Banks.{first_bank}
use Rattle.guest_load.specs.Lines.{no_bank_message, no_image_message}
use Rattle.guest_load.specs.Words.{Asked}

-- the longest kernel that is read, in bytes: 64 MiB
abbrev pub kernel_limit : ℕ
kernel_limit = 67108864

-- the tree and its first bank, the head of the kernel and the length of its file, and the length of the ramdisk's file, where there is one
pub record Parts : Type 0 where
  pub tree : FlatTree
  pub bank : Place
  pub head : ImageHead
  pub kernel : ℕ
  pub ramdisk : Option ℕ

-- the bank of a tree is handed on; a tree without one is refused
abbrev pub AfterBank : List ℕ → FlatTree → (Place → Outcome → Type 0) → Outcome → Type 0
AfterBank name tree next outcome = OnOption (IsRefusal statuses.Refused (no_bank_message name)) next (first_bank tree.root) outcome

-- the tree of a guest is read, and handed on with its bank
abbrev pub AfterGuest : Option (List File) → List ℕ → (FlatTree × Place → Outcome → Type 0) → Outcome → Type 0
AfterGuest told name next outcome = AfterTreeFile told name (λ tree. AfterBank name tree (λ bank. next (tree, bank))) outcome

-- the head of an image is handed on; other bytes are refused
abbrev pub AfterHead : List ℕ → List ℕ → (ImageHead → Outcome → Type 0) → Outcome → Type 0
AfterHead name bytes next outcome = OnOption (IsRefusal statuses.Format (no_image_message name)) next (image_head bytes) outcome

-- the kernel is read, and its head is handed on with its length
abbrev pub AfterKernel : Option (List File) → List ℕ → (ImageHead × ℕ → Outcome → Type 0) → Outcome → Type 0
AfterKernel told name next outcome = AfterReading told name kernel_limit (λ bytes. AfterHead name bytes (λ head. next (head, length bytes))) outcome

-- the ramdisk is measured, where one is named, and its length is handed on
abbrev pub AfterRamdisk : Option (List File) → Option (List ℕ) → (Option ℕ → Outcome → Type 0) → Outcome → Type 0
AfterRamdisk told None next outcome = next None outcome
AfterRamdisk told (Some name) next outcome = AfterSize told name (λ size. next (Some size)) outcome

-- the parts are read in this order, and handed on
abbrev pub AfterParts : Option (List File) → Asked → (Parts → Outcome → Type 0) → Outcome → Type 0
AfterParts told asked next outcome =
    AfterGuest told asked.tree (λ guest. AfterKernel told asked.kernel (λ kernel. AfterRamdisk told asked.ramdisk (λ ramdisk.
    next (record { tree = guest.0; bank = guest.1; head = kernel.0; kernel = kernel.1; ramdisk = ramdisk })))) outcome

-- the length of the ramdisk, which is missing exactly where none is named
abbrev pub IsRamdisk : Option (List File) → Option (List ℕ) → Option ℕ → Type 0
IsRamdisk told None size = size ≡ None
IsRamdisk told (Some name) size = (count : ℕ) × IsSize told name (Some count) × (size ≡ Some count)

-- the parts are those of the files, by what these hold where that is told
pub record AreParts (told : Option (List File)) (asked : Asked) (parts : Parts) : Type 0 where
  pub tree : IsTreeFile told asked.tree parts.tree
  pub bank : first_bank parts.tree.root ≡ Some parts.bank
  pub file : List ℕ
  pub read : IsReading told asked.kernel kernel_limit (Ok file)
  pub head : image_head file ≡ Some parts.head
  pub kernel : parts.kernel ≡ length file
  pub ramdisk : IsRamdisk told asked.ramdisk parts.ramdisk
