-- The reservations of what a build stands on are those of a file, of which none is the pair that ends them.
use Rattle.std.proofs.Common.{◌≡◌, refl, sym, ap, subst, ℕ, List, [], ◌∷◌, Bool, true, false}
use Rattle.std.specs.Prelude.{Option, IsTrue, not, cond}
use Rattle.std.specs.List.{list_all}
use Rattle.std.proofs.lemmas.List.Sums.{take_while-cons}
use Rattle.outside.specs.Outside.{File}
use Rattle.fdt_read.specs.Reservations.{pairs, reservations_block, before_last, is_last_pair}
use Rattle.fdt_tree.specs.declared.reserve.Reserve.{Reserve}
use Rattle.ib_script.specs.declared.make.LoadKind.{LoadKind}
use Rattle.dom0less_words.specs.Words.{Word, Source, Config, Replay, Ready}
use Rattle.tree_files.specs.Trees.{FlatTree, AfterTreeFile, IsTreeFile}
use Rattle.run_steps.proofs.Step.{found_by}
use Rattle.tree_files.proofs.TreeSteps.{tree_file_step}
use Rattle.build_sources.specs.Handed.{HandsOn}
use Rattle.build_sources.specs.Configs.{AfterMade, IsMade}
use Rattle.build_sources.specs.Scripts.{script_name}
use Rattle.build_sources.specs.Sources.{Stand, AfterScriptFile, AfterRun, AfterLoadSizes, AfterConfigured, AfterReplay, AfterReady, StandsOn, config_stand, replay_stand, ready_stand}
use Rattle.build_sources.proofs.ConfigSteps.{made_step}
use Rattle.build_sources.proofs.SourceSteps.{run_step, script_file_step, load_sizes_step}

-- no reservation is the pair that ends the list
abbrev pub HasNoLast : List Reserve → Type 0
HasNoLast reserves = IsTrue (list_all (λ reserve. not (is_last_pair reserve)) reserves)

-- a pair that does not end the list, before others
one_more : (reserve : Reserve) (later : List Reserve) (test : Bool) → not (is_last_pair reserve) ≡ test → HasNoLast later → HasNoLast (cond test (reserve ∷ later) [])
one_more reserve later true e ok = rw e ok
one_more reserve later false e ok = refl

-- the pairs before the one that ends the list do not end it
before_the_last : (reserves : List Reserve) → HasNoLast (before_last reserves)
before_the_last [] = refl
before_the_last (reserve ∷ later) =
    rw (take_while-cons (λ (reserve : Reserve). not (is_last_pair reserve)) reserve later) (one_more reserve (before_last later) (not (is_last_pair reserve)) refl (before_the_last later))

module _ (told : Option (List File)) where
  -- those of a file that was read
  of_file : (name : List ℕ) (tree : FlatTree) → IsTreeFile told name tree → HasNoLast tree.reserves
  of_file name tree read = subst HasNoLast read.flattened.spelled.reserved (before_the_last (pairs (reservations_block read.file)))

  -- those of what a build stands on
  module _ (stand : Stand) where
    of_configuration : (config : Word) (folder : Option Word) (kind : LoadKind) (outputs : Option Word) → HandsOn (AfterConfigured told config folder kind outputs) stand → HasNoLast stand.reserves
    of_configuration config folder kind outputs hands =
        let made = found_by (IsMade told config folder kind) (AfterMade told config folder kind) (made_step told config folder kind)
        (λ made. AfterRun script_name made.script made.tree.root (λ root outcome. config_stand outputs made root ≡ stand)) [] [] hands in
        let root = found_by _ (AfterRun script_name made.0.script made.0.tree.root) (run_step script_name made.0.script made.0.tree.root) (λ root outcome. config_stand outputs made.0 root ≡ stand) [] [] made.2 in
        let is : config_stand outputs made.0 root.0 ≡ stand = root.2 in
        subst (λ (s : Stand). HasNoLast s.reserves) is (of_file _ made.0.tree made.1.tree)

    of_replay : (script tree : Word) (folder : Option Word) → HandsOn (AfterReplay told script tree folder) stand → HasNoLast stand.reserves
    of_replay script tree folder hands =
        let commands = found_by _ (AfterScriptFile told script) (script_file_step told script) _ [] [] hands in
        let file = found_by (IsTreeFile told tree) (AfterTreeFile told tree) (tree_file_step told tree) _ [] [] commands.2 in
        let sizes = found_by _ (AfterLoadSizes told folder commands.0 file.0.length) (load_sizes_step told folder commands.0 file.0.length) _ [] [] file.2 in
        let root = found_by _ (AfterRun script commands.0 file.0.root) (run_step script commands.0 file.0.root) _ [] [] sizes.2 in
        let is : replay_stand commands.0 file.0 sizes.0 root.0 ≡ stand = root.2 in
        subst (λ (s : Stand). HasNoLast s.reserves) is (of_file tree file.0 file.1)

    of_ready : (tree : Word) → HandsOn (AfterReady told tree) stand → HasNoLast stand.reserves
    of_ready tree hands =
        let file = found_by (IsTreeFile told tree) (AfterTreeFile told tree) (tree_file_step told tree) _ [] [] hands in
        let is : ready_stand file.0 ≡ stand = file.2 in
        subst (λ (s : Stand). HasNoLast s.reserves) is (of_file tree file.0 file.1)

    pub stand_has_no_last : (source : Source) (outputs : Option Word) → StandsOn told source outputs stand → HasNoLast stand.reserves
    stand_has_no_last (Config config folder kind) outputs hands = of_configuration config folder kind outputs hands
    stand_has_no_last (Replay script tree folder) outputs hands = of_replay script tree folder hands
    stand_has_no_last (Ready tree) outputs hands = of_ready tree hands
