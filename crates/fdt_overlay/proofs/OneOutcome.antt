-- The words and files that tell what they hold call for one outcome.
use Rattle.std.proofs.Common.{◌≤◌, ◌<◌, ℕ, List, [], ◌∷◌, Option, Some, None, inl, inr, arith}
use Rattle.std.specs.Prelude.{IsNone}
use Rattle.outside.specs.Outside.{File}
use Rattle.outside.specs.declared.status.Status.TheVariants as statuses
use Rattle.fdt_tree.specs.Tree.{Tree}
use Rattle.run_steps.specs.Endings.{Outcome}
use Rattle.run_steps.specs.Laws.{IsDetermined}
use Rattle.run_steps.specs.Steps.{IsRefusal}
use Rattle.tree_files.specs.Trees.{AfterTreeFile}
use Rattle.run_steps.proofs.OneOutcome.{Decides, both_decide, hand_on_decides, never_agrees, refusals_agree, writings_agree, on_result_decides}
use Rattle.tree_files.proofs.TreeSteps.{tree_file_decides}
use Rattle.program.specs.Laws.{IsOneOutcome, AsksNothing}
use Rattle.overlaid_trees.specs.Applied.{applied}
use Rattle.fdt_overlay.specs.Lines.{fault_message}
use Rattle.fdt_overlay.specs.Asked.{Asked, asked}
use Rattle.fdt_overlay.specs.Overlays.{Overlaid, made_of, AfterApplied, AfterOverlay, AfterOverlays, AfterAll}
use Rattle.fdt_overlay.specs.Job.{IsOutput, AreRefused, IsWordsJob, CallsFor}

apart : (a b : ℕ) → a ≤ b → b < a → ⊥
apart a b le lt = grind (arith)

output_agrees : (out : List ℕ) (made : Overlaid) → IsDetermined (IsOutput out made)
output_agrees out made a b (inl p) (inl q) = refusals_agree _ _ a b p.1 q.1
output_agrees out made a b (inl p) (inr q) = absurd (apart _ _ q.0 p.0)
output_agrees out made a b (inr p) (inl q) = absurd (apart _ _ p.0 q.0)
output_agrees out made a b (inr p) (inr q) = writings_agree _ _ a b p.1 q.1

applied_decides : (name : List ℕ) (base overlay : Tree) → Decides (AfterApplied name base overlay)
applied_decides name base overlay = on_result_decides (λ fault. IsRefusal statuses.Refused (fault_message name fault)) (λ fault. refusals_agree _ _) (applied base overlay)

module _ (held : List File) where
  overlay_decides : (name : List ℕ) (base : Tree) → Decides (AfterOverlay (Some held) name base)
  overlay_decides name base = both_decide (AfterTreeFile (Some held) name) (λ overlay. AfterApplied name base overlay.root) (tree_file_decides held name) (λ overlay. applied_decides name base overlay.root)

  overlays_decide : (names : List (List ℕ)) (base : Tree) → Decides (AfterOverlays (Some held) names base)
  overlays_decide [] base = hand_on_decides base
  overlays_decide (name ∷ names) base = both_decide (AfterOverlay (Some held) name base) (AfterOverlays (Some held) names) (overlay_decides name base) (overlays_decide names)

  all_decide : (asked : Asked) → Decides (AfterAll (Some held) asked)
  all_decide asked next determined =
      tree_file_decides held asked.base _ (λ base. overlays_decide asked.overlays base.root _ (λ root. determined (made_of base root)))

  words_agree : (asked : Option Asked) → IsDetermined (IsWordsJob (Some held) asked)
  words_agree None = never_agrees
  words_agree (Some asked) = all_decide asked (IsOutput asked.out) (output_agrees asked.out)

-- no words and files call for two outcomes that differ
pub one_outcome : IsOneOutcome CallsFor
one_outcome words held = words_agree held (asked words)

never_none : (asked : Asked) → IsNone (Some asked) → ⊥
never_none asked none = cc

none_job : (told : Option (List File)) (asked : Option Asked) (outcome : Outcome) → IsNone asked → IsWordsJob told asked outcome → ⊥
none_job told None outcome none job = job
none_job told (Some asked) outcome none job = absurd (never_none asked none)

-- words that are refused call for nothing
pub asks_nothing : AsksNothing AreRefused CallsFor
asks_nothing words text told outcome refused job = none_job told (asked words) outcome refused.0 job
