-- Overlays call for no audit: neither reading and applying them nor the length of what they make refuses because images differ.
use Rattle.std.proofs.Common.{◌≡◌, ℕ, List, [], ◌∷◌, inl, inr}
use Rattle.std.specs.Prelude.{Option, Result, Ok, Err}
use Rattle.outside.specs.Outside.{File}
use Rattle.outside.specs.declared.status.Status.TheVariants as statuses
use Rattle.fdt_tree.specs.Tree.{Tree}
use Rattle.run_steps.specs.Endings.{Refuses}
use Rattle.run_steps.specs.Steps.{IsRefusal, OnResult}
use Rattle.tree_files.specs.Trees.{FlatTree, AfterTreeFile, IsTreeFile}
use Rattle.run_steps.proofs.Step.{Avoids, hand_on, hand_on_avoids, both_avoid}
use Rattle.tree_files.proofs.TreeSteps.{tree_file_step}
use Rattle.run_steps.proofs.Avoided.{IsOfNoFile}
use Rattle.tree_files.proofs.TreeSteps.{tree_avoids}
use Rattle.overlaid_trees.specs.declared.fault.OverlayFault.{OverlayFault}
use Rattle.overlaid_trees.specs.Applied.{applied}
use Rattle.fdt_overlay.specs.Lines.{fault_message}
use Rattle.fdt_overlay.specs.Asked.{Asked}
use Rattle.fdt_overlay.specs.Overlays.{Overlaid, made_of, AfterApplied, AfterOverlay, AfterOverlays, AfterAll}
use Rattle.fdt_overlay.specs.Job.{IsOutput, IsAskedJob}
use Rattle.fdt_overlay.specs.PrivateSteps.{IsApplied, AreApplied}
use Rattle.fdt_overlay.proofs.OverlaySteps.{AfterTheBase, overlay_step, overlays_step, all_step}

-- that images differ is none of the statuses of reading files, and none of an overlay
difference_of_no_file : IsOfNoFile statuses.Differs
difference_of_no_file = record { read = λ e. cc; longer = λ e. cc; format = λ e. cc }

no_overlay : statuses.Differs ≡ statuses.Refused → ⊥
no_overlay e = cc

fault_avoids : (name : List ℕ) (result : Result Tree OverlayFault) → Avoids statuses.Differs (λ next. OnResult (λ fault. IsRefusal statuses.Refused (fault_message name fault)) next result)
fault_avoids name (Ok made) message p = p
fault_avoids name (Err fault) message p = no_overlay p.0

applied_avoids : (name : List ℕ) (base overlay : Tree) → Avoids statuses.Differs (AfterApplied name base overlay)
applied_avoids name base overlay = fault_avoids name (applied base overlay)

module _ (told : Option (List File)) where
  overlay_avoids : (name : List ℕ) (base : Tree) → Avoids statuses.Differs (AfterOverlay told name base)
  overlay_avoids name base =
      both_avoid {B = Tree} (IsTreeFile told name) statuses.Differs (AfterTreeFile told name) (λ overlay. AfterApplied name base overlay.root) (tree_file_step told name)
      (tree_avoids statuses.Differs difference_of_no_file told name) (λ overlay. applied_avoids name base overlay.root)

  overlays_avoid : (names : List (List ℕ)) (base : Tree) → Avoids statuses.Differs (AfterOverlays told names base)
  overlays_avoid [] base = hand_on_avoids {A = Tree} statuses.Differs base
  overlays_avoid (name ∷ names) base =
      both_avoid {B = Tree} (IsApplied told name base) statuses.Differs (AfterOverlay told name base) (AfterOverlays told names) (overlay_step told name base) (overlay_avoids name base) (overlays_avoid names)

  module _ (asked : Asked) where
    after_base_avoids : (base : FlatTree) → Avoids statuses.Differs (AfterTheBase told asked base)
    after_base_avoids base =
        both_avoid {B = Overlaid} (AreApplied told asked.overlays base.root) statuses.Differs (AfterOverlays told asked.overlays base.root) (λ root. hand_on (made_of base root)) (overlays_step told asked.overlays base.root)
        (overlays_avoid asked.overlays base.root) (λ root. hand_on_avoids {A = Overlaid} statuses.Differs (made_of base root))

    -- reading and applying all of them
    all_avoid : Avoids statuses.Differs (AfterAll told asked)
    all_avoid =
        both_avoid {B = Overlaid} (IsTreeFile told asked.base) statuses.Differs (AfterTreeFile told asked.base) (AfterTheBase told asked) (tree_file_step told asked.base)
        (tree_avoids statuses.Differs difference_of_no_file told asked.base) after_base_avoids

-- writing what they made
output_avoids : (out : List ℕ) (made : Overlaid) (message : List ℕ) → IsOutput out made (Refuses statuses.Differs message) → ⊥
output_avoids out made message (inl refused) = no_overlay refused.1.0
output_avoids out made message (inr fits) = fits.1

-- so what is asked for calls for no such refusal
pub job_avoids : (told : Option (List File)) (asked : Asked) (message : List ℕ) → IsAskedJob told asked (Refuses statuses.Differs message) → ⊥
job_avoids told asked message job = elim ((all_step told asked).splits (IsOutput asked.out) (Refuses statuses.Differs message) job) [
  | inl given ↦ output_avoids asked.out given.0 message given.2
  | inr refused ↦ all_avoid told asked message refused
]
