-- The words and files that tell what they hold call for one outcome.
use Rattle.std.specs.Prelude.{IsNone}
use Rattle.std.proofs.Common.{◌≤◌, ◌<◌, ℕ, List, Option, Some, None, inl, inr, arith, length}
use Rattle.outside.specs.Outside.{File}
use Rattle.outside.specs.declared.status.Status.TheVariants as statuses
use Rattle.run_steps.specs.Endings.{Outcome}
use Rattle.run_steps.specs.Laws.{IsDetermined}
use Rattle.run_steps.specs.Steps.{IsRefusal, AfterReading, AfterSize}
use Rattle.tree_files.specs.Trees.{AfterTreeFile}
use Rattle.run_steps.proofs.Step.{hand_on}
use Rattle.run_steps.proofs.OneOutcome.{Decides, both_decide, hand_on_decides, never_agrees, refusals_agree, writings_agree, on_option_decides, reading_decides, size_decides}
use Rattle.tree_files.proofs.TreeSteps.{tree_file_decides}
use Rattle.guest_load.specs.declared.places.LoadPart.{LoadPart}
use Rattle.guest_load.specs.Banks.{first_bank}
use Rattle.guest_load.specs.Heads.{image_head}
use Rattle.guest_load.specs.Lines.{no_bank_message, no_image_message}
use Rattle.guest_load.specs.LoadPlaces.{first_past}
use Rattle.guest_load.specs.Words.{Asked, asked}
use Rattle.guest_load.specs.Parts.{Parts, kernel_limit, AfterBank, AfterGuest, AfterHead, AfterKernel, AfterRamdisk, AfterParts}
use Rattle.guest_load.specs.Job.{plan_of, OnRoom, IsLoading, AreRefused, IsWordsJob, CallsFor}
use Rattle.program.specs.Laws.{IsOneOutcome, AsksNothing}

apart : (a b : ℕ) → a ≤ b → b < a → ⊥
apart a b le lt = grind (arith)

room_agrees : (out : List ℕ) (parts : Parts) (found : Option LoadPart) → IsDetermined (OnRoom out parts found)
room_agrees out parts (Some part) = refusals_agree _ _
room_agrees out parts None = writings_agree _ _

loading_agrees : (out : List ℕ) (parts : Parts) → IsDetermined (IsLoading out parts)
loading_agrees out parts a b (inl p) (inl q) = refusals_agree _ _ a b p.1 q.1
loading_agrees out parts a b (inl p) (inr q) = absurd (apart _ _ q.0 p.0)
loading_agrees out parts a b (inr p) (inl q) = absurd (apart _ _ p.0 q.0)
loading_agrees out parts a b (inr p) (inr q) = room_agrees out parts (first_past parts.bank (plan_of parts)) a b p.1 q.1

module _ (held : List File) where
  guest_decides : (name : List ℕ) → Decides (AfterGuest (Some held) name)
  guest_decides name =
      both_decide (AfterTreeFile (Some held) name) (λ tree next outcome. AfterBank name tree (λ bank. next (tree, bank)) outcome) (tree_file_decides held name)
      (λ tree. both_decide (AfterBank name tree) (λ bank. hand_on (tree, bank)) (on_option_decides (IsRefusal statuses.Refused (no_bank_message name)) (refusals_agree _ _) (first_bank tree.root)) (λ bank. hand_on_decides (tree, bank)))

  kernel_decides : (name : List ℕ) → Decides (AfterKernel (Some held) name)
  kernel_decides name =
      both_decide (AfterReading (Some held) name kernel_limit) (λ bytes next outcome. AfterHead name bytes (λ head. next (head, length bytes)) outcome) (reading_decides held name kernel_limit)
      (λ bytes. both_decide (AfterHead name bytes) (λ head. hand_on (head, length bytes)) (on_option_decides (IsRefusal statuses.Format (no_image_message name)) (refusals_agree _ _) (image_head bytes)) (λ head. hand_on_decides (head, length bytes)))

  ramdisk_decides : (name : Option (List ℕ)) → Decides (AfterRamdisk (Some held) name)
  ramdisk_decides None = hand_on_decides None
  ramdisk_decides (Some name) = both_decide (AfterSize (Some held) name) (λ size. hand_on (Some size)) (size_decides held name) (λ size. hand_on_decides (Some size))

  parts_decide : (asked : Asked) → Decides (AfterParts (Some held) asked)
  parts_decide asked next determined =
      guest_decides asked.tree _
      (λ guest. kernel_decides asked.kernel _
      (λ kernel. ramdisk_decides asked.ramdisk _
      (λ ramdisk. determined (record { tree = guest.0; bank = guest.1; head = kernel.0; kernel = kernel.1; ramdisk = ramdisk }))))

  words_agree : (asked : Option Asked) → IsDetermined (IsWordsJob (Some held) asked)
  words_agree None = never_agrees
  words_agree (Some asked) = parts_decide asked (IsLoading asked.out) (loading_agrees asked.out)

-- no words and files call for two outcomes that differ
pub one_outcome : IsOneOutcome CallsFor
one_outcome words held = words_agree held (asked words)

never_none : (asked : Asked) → IsNone (Some asked) → ⊥
never_none asked none = cc

none_job : (told : Option (List File)) (asked : Option Asked) (outcome : Outcome) → IsNone asked → IsWordsJob told asked outcome → ⊥
none_job told None outcome none job = job
none_job told (Some asked) outcome none job = absurd (never_none asked none)

-- words that are refused call for nothing
pub asks_nothing : AsksNothing AreRefused CallsFor
asks_nothing words text told outcome refused job = none_job told (asked words) outcome refused.0 job
