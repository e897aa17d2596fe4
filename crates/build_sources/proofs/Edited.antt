-- A script that is made of a configuration can be run, and makes the edited tree.
use Rattle.std.proofs.Common.{◌≡◌, ◌∙◌, refl, sym, ap, subst, List, length, Some, None, Ok, Err}
use Rattle.std.specs.Prelude.{Option, Result, MatchOption, true}
use Rattle.std.proofs.lemmas.List.{length-map}
use Rattle.outside.specs.Outside.{File}
use Rattle.fdt_tree.specs.Tree.{Tree}
use Rattle.ib_placement.specs.declared.places.FilePlace.{FilePlace}
use Rattle.ib_script.specs.declared.make.LoadKind.{LoadKind}
use Rattle.script_run.specs.Edited.{edited_of}
use Rattle.script_run.specs.Effect.{has_good_names, load_count, tree_effect}
use Rattle.script_run.specs.Laws.{IsScript}
use Rattle.script_run.specs.declared.machine.StepFault.{StepFault}
use Rattle.script_run.proofs.ScriptLaws.{names_are_taken, reads_back, script_edits}
use Rattle.dom0less_words.specs.Words.{Word}
use Rattle.run_steps.proofs.Step.{IsStep, and_then, hand_on, hand_on_step, on_result_step}
use Rattle.build_sources.specs.Handed.{HandsOn}
use Rattle.build_sources.specs.Configs.{Made, IsMade, facts_of}
use Rattle.build_sources.specs.Edited.{StandsOnEdited}
use Rattle.build_sources.specs.PrivateReplays.{AfterMadeRun}
use Rattle.build_sources.specs.Scripts.{script_name}
use Rattle.build_sources.specs.Sources.{Stand, IsStepRefusal, AfterRun, config_stand}
use Rattle.build_sources.proofs.ConfigSteps.{as_many_sizes}
use Rattle.build_sources.proofs.Handing.{found_of}
use Rattle.build_sources.proofs.ScriptLoads.{made_loads}

abbrev ok : Tree → Result Tree StepFault
ok tree = Ok tree

-- an edited tree, where the script has an effect
edited_effect : (edited : Option Tree) (result : Result Tree StepFault) (fault : StepFault) (after : Tree) → MatchOption edited (result ≡ Err fault) (λ tree. result ≡ Ok tree) → result ≡ Ok after → edited ≡ Some after
edited_effect (Some tree) result fault after made effect = ap Some (same tree after (sym made ∙ effect))
  where
    same : (one other : Tree) → ok one ≡ ok other → one ≡ other
    same one other e = cc
edited_effect None result fault after made effect = cc

module _ (told : Option (List File)) (config : Word) (folder : Option Word) (kind : LoadKind) (made : Made) (is : IsMade told config folder kind made)
    (spoken : IsScript made.script made.settings is.places (facts_of made.tree.root) kind) where
  -- its names are such as a tree takes
  pub named : has_good_names made.script ≡ true
  named = names_are_taken made.settings is.places (facts_of made.tree.root) kind made.script spoken

  -- each of its loads has a size
  pub sized : length made.sizes ≡ load_count made.script
  sized =
      as_many_sizes told folder made.settings made.tree made.sizes (is.others, is.measured, is.sizes)
      ∙ sym (ap length spoken.placed) ∙ length-map is.places (λ (place : FilePlace). place.name)
      ∙ made_loads made.settings is.places (facts_of made.tree.root) kind made.script is.script

  -- what is made by running it
  run_found : (outputs : Option Word) → IsStep (λ stand. (root : Tree) × (tree_effect made.script made.tree.root ≡ Ok root) × (stand ≡ config_stand outputs made root)) (AfterMadeRun outputs made)
  run_found outputs =
      and_then (λ root. tree_effect made.script made.tree.root ≡ Ok root) (λ root stand. stand ≡ config_stand outputs made root) (AfterRun script_name made.script made.tree.root) (λ root. hand_on (config_stand outputs made root))
      (on_result_step (IsStepRefusal script_name) (λ fault outputs report p. p) (λ fault status list p. p) (tree_effect made.script made.tree.root)) (λ root. hand_on_step (config_stand outputs made root))

  edited_of_run : (outputs : Option Word) (root : Tree) → tree_effect made.script made.tree.root ≡ Ok root → StandsOnEdited told config folder kind outputs (config_stand outputs made root)
  edited_of_run outputs root effect = record {
    made = made;
    is_made = is;
    edited = edited_effect (edited_of made.settings is.places (facts_of made.tree.root) made.tree.root) (tree_effect made.script made.tree.root) _ root
        (script_edits made.settings is.places (facts_of made.tree.root) kind made.script made.tree.root spoken refl) effect;
    printed = refl;
    read_back = reads_back made.settings is.places (facts_of made.tree.root) kind made.script spoken;
    effect = effect;
  }

  pub stands_on_edited : (outputs : Option Word) (stand : Stand) → HandsOn (AfterMadeRun outputs made) stand → StandsOnEdited told config folder kind outputs stand
  stands_on_edited outputs stand hands =
      let found = found_of _ (AfterMadeRun outputs made) (run_found outputs) stand hands in
      subst (StandsOnEdited told config folder kind outputs) (sym found.2) (edited_of_run outputs found.0 found.1)
