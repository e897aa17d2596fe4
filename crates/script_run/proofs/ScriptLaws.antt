-- The laws of scripts: each is read back as it was, has names that a tree takes, and makes the edited tree.
use Rattle.std.proofs.Common.{◌≡◌, ℕ, ◌+◌, ◌==◌, true, false, List, [], ◌∷◌, Option, Some, None, Ok, Err, option_map, option_and_then, length, refl, sym, ap, subst, ◌∙◌, arith}
use Rattle.std.specs.Prelude.{codes, is_some, MatchOption}
use Rattle.std.specs.List.{list_all, position_or_len}
use Rattle.std.proofs.lemmas.Bool.{and_parts}
use Rattle.std.proofs.lemmas.Bool.Decides.{nat_tests}
use Rattle.fdt_tree.specs.Tree.{Trees, Place, Tree, first_named, find_place}
use Rattle.fdt_tree.specs.PathEdits.{has_named}
use Rattle.ib_script.specs.Script.{script_of}
use Rattle.ib_script.specs.Text.{text_of}
use Rattle.ib_script.specs.declared.command.Command.{Command}
use Rattle.ib_script.specs.declared.command.Command.TheVariants.{Load, Addr, Resize, Mknod, Set, SetEnv, Booti}
use Rattle.script_run.specs.Reading.{commands_of}
use Rattle.script_run.specs.Effect.{tree_effect, has_good_name, has_good_names}
use Rattle.script_run.specs.Edited.{edited_of}
use Rattle.script_run.specs.Laws.{NamesAreTaken, ReadsBack, ScriptEdits, adds_present}
use Rattle.script_run.specs.declared.machine.StepWhy.TheVariants.{Exists}
use Rattle.script_run.specs.declared.machine.StepFault.TheVariants.{Step}
use Rattle.script_run.specs.Commands.{is_plain_name}
use Rattle.script_run.proofs.TextLemmas.{node_name, prop_name}
use Rattle.script_run.proofs.CommandLemmas.{wordable, plain_wordable}
use Rattle.script_run.proofs.Printed.{IsGood}
use Rattle.script_run.proofs.PrintedLines.{AllGood}
use Rattle.script_run.proofs.GoodScript.{good_script, script_read_back}
use Rattle.script_run.proofs.GuestEdits.{chosen}
use Rattle.script_run.proofs.Refused.{Stops}
use Rattle.script_run.proofs.ScriptSteps.{parts, script-parts, effect-is, script_makes, script_stops}
use Rattle.script_run.proofs.SpokenScripts.{HasLaws, script_laws}

pub reads_back : ReadsBack
reads_back s places facts kind script h =
    let laws = script_laws script s places facts kind h in
    subst (λ cs. commands_of (text_of cs) ≡ Ok cs) laws.is (script_read_back s places facts kind laws.spoken)

some_byte : (c : ℕ) (cs : List ℕ) → (length (c ∷ cs) == 0) ≡ false
some_byte c cs = grind (arith, nat_tests)

-- a good command has such names
good_name_in : (c : Command) → IsGood c → has_good_name c ≡ true
good_name_in (Mknod path name) good =
    let parts = and_parts (wordable name) (is_plain_name name) good.1 in node_name name (plain_wordable name parts.0) parts.1
good_name_in (Set path [] value) good = cc
good_name_in (Set path (c ∷ cs) value) good = prop_name (c ∷ cs) (plain_wordable (c ∷ cs) good.1) (some_byte c cs)
good_name_in (Load how address name) good = refl
good_name_in (Addr address) good = refl
good_name_in (Resize bytes) good = refl
good_name_in (SetEnv name value) good = refl
good_name_in (Booti kernel address) good = refl

good_names_in : (cs : List Command) → AllGood cs → list_all has_good_name cs ≡ true
good_names_in [] good = refl
good_names_in (c ∷ cs) good = rw (good_name_in c good.0, good_names_in cs good.1) refl

pub names_are_taken : NamesAreTaken
unfolding has_good_names
names_are_taken s places facts kind script h =
    let laws = script_laws script s places facts kind h in
    subst (λ cs. list_all has_good_name cs ≡ true) laws.is (good_names_in (script_of s places facts kind) (good_script s places facts kind laws.spoken))

-- a path of one name finds a node where a child has it
found_is : (t : Tree) → is_some (find_place t (codes "/chosen")) ≡ has_named chosen t.children
found_is t = by (first_named chosen t.children)
  where
    by : (o : Option (ℕ × Trees)) → is_some (option_and_then (λ (h : ℕ × Trees). option_map (λ (p : Place). h.0 ∷ p) (Some [])) o) ≡ is_some o
    by None = refl
    by (Some h) = refl

pub script_edits : ScriptEdits
unfolding Stops
script_edits s places facts kind script t h known = by (edited_of s places facts t) refl
  where
    laws : HasLaws script s places facts kind
    laws = script_laws script s places facts kind h

    there : facts.chosen ≡ has_named chosen t.children
    there = known ∙ found_is t

    by : (o : Option Tree) → edited_of s places facts t ≡ o
        → MatchOption o (tree_effect script t ≡ Err (Step (position_or_len (adds_present t) script + 1) Exists)) (λ u. tree_effect script t ≡ Ok u)
    by (Some u) made = ap (λ cs. tree_effect cs t) (sym laws.is) ∙ script_makes s places facts kind t u laws.some laws.wide laws.few there made
    by None none =
        let stopped = script_stops s places facts kind t laws.some laws.wide laws.few there none in
        let same : parts s places facts kind ≡ script = sym (script-parts s places facts kind) ∙ laws.is in
        let number : length {A = Command} [] + position_or_len (adds_present t) (parts s places facts kind) + 1 ≡ position_or_len (adds_present t) (parts s places facts kind) + 1 = omega arith in
        ap (λ cs. tree_effect cs t) (sym laws.is) ∙ (effect-is s places facts kind t laws.some ∙ (stopped.1 ∙ (ap (λ n. Err (Step n Exists)) number ∙ ap (λ cs. Err (Step (position_or_len (adds_present t) cs + 1) Exists)) same)))
