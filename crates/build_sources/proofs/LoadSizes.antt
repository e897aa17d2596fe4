-- The loads of a script are measured one after the other.
use Rattle.std.proofs.Common.{◌≡◌, ◌∙◌, ◌+◌, ◌<◌, ◌≤◌, suc, refl, sym, ap, subst, arith, ℕ, List, [], ◌∷◌, ◌++◌, length, take, drop, get_or, inl, inr, append-nil}
use Rattle.std.specs.Prelude.{Option}
use Rattle.std.specs.List.{flat_map, enumerate_from}
use Rattle.std.proofs.lemmas.Grind.{common_steps, flat_map-append}
use Rattle.std.proofs.lemmas.List.{take_more, take-append-drop, drop_more, length-take}
use Rattle.outside.specs.Outside.{File}
use Rattle.ib_script.specs.declared.command.Command.{Command}
use Rattle.ib_script.specs.declared.command.Command.TheVariants.{Load, Addr, Resize, Mknod, Set, SetEnv, Booti}
use Rattle.script_run.specs.Effect.{tree_load_of, load_count}
use Rattle.dom0less_words.specs.Words.{Word}
use Rattle.run_steps.specs.Endings.{Outcome}
use Rattle.run_steps.specs.Steps.{AfterEach, GiveEach, nothing}
use Rattle.run_steps.proofs.Step.{Next, IsStep, each_step, as_many}
use Rattle.build_sources.specs.Handed.{HandsOn}
use Rattle.build_sources.specs.Sources.{load_named, loads_named, AfterLoadSize, AfterLoadSizes}
use Rattle.build_sources.proofs.Handing.{found_of, handed}
use Rattle.build_sources.proofs.SourceSteps.{load_size_step}

-- elements of two lists
pub GiveEach-append : {A B : Type 0} (Gives : A → B → Type 0) (xs : List A) (ys : List B) (others : List A) (more : List B) → GiveEach Gives xs ys → GiveEach Gives others more → GiveEach Gives (xs ++ others) (ys ++ more)
GiveEach-append Gives [] ys others more given rest = subst (λ all. GiveEach Gives others (all ++ more)) (sym given) rest
GiveEach-append Gives (x ∷ xs) ys others more given rest =
    (given.0, given.1 ++ more, given.2, GiveEach-append Gives xs given.1 others more given.3 rest, ap (λ all. all ++ more) given.4)

-- a refusal among the elements is one of the whole list
module _ {A B : Type 0} (Found : A → B → Type 0) (step : A → Next B → Outcome → Type 0) (each : (x : A) → IsStep (Found x) (step x)) where
  refuses_first : (xs after : List A) (outcome : Outcome) → AfterEach step xs nothing outcome → AfterEach step (xs ++ after) nothing outcome
  refuses_first [] after outcome refused = elim refused [ ]
  refuses_first (x ∷ xs) after outcome refused = elim ((each x).splits (λ y. AfterEach step xs (λ ys. nothing (y ∷ ys))) outcome refused) [
    | inl given ↦ (each x).gives given.0 given.1 (λ y. AfterEach step (xs ++ after) (λ ys. nothing (y ∷ ys))) outcome (refuses_first xs after outcome given.2)
    | inr stopped ↦ (each x).stays (λ y. AfterEach step (xs ++ after) (λ ys. nothing (y ∷ ys))) outcome stopped
  ]

  pub refuses_within : (before xs after : List A) (ys : List B) → GiveEach Found before ys → (outcome : Outcome) → AfterEach step xs nothing outcome → AfterEach step (before ++ (xs ++ after)) nothing outcome
  refuses_within [] xs after ys given outcome refused = refuses_first xs after outcome refused
  refuses_within (x ∷ before) xs after ys given outcome refused =
      (each x).gives given.0 given.2 (λ y. AfterEach step (before ++ (xs ++ after)) (λ ys. nothing (y ∷ ys))) outcome (refuses_within before xs after given.1 given.3 outcome refused)

-- elements with their indices, behind others
enumerate_from-append : {X : Type 0} (k : ℕ) (xs ys : List X) → enumerate_from k (xs ++ ys) ≡ enumerate_from k xs ++ enumerate_from (k + length xs) ys
enumerate_from-append k [] ys = let none : k ≡ k + 0 = omega arith in ap (λ j. enumerate_from j ys) none
enumerate_from-append k (x ∷ xs) ys =
    let one : k + 1 + length xs ≡ k + suc (length xs) = omega arith in
    ap (λ rest. (k, x) ∷ rest) (enumerate_from-append (k + 1) xs ys ∙ ap (λ j. enumerate_from (k + 1) xs ++ enumerate_from j ys) one)

named-append : (xs ys : List Command) → loads_named (xs ++ ys) ≡ loads_named xs ++ flat_map load_named (enumerate_from (length xs) ys)
named-append xs ys =
    let none : 0 + length xs ≡ length xs = omega arith in
    ap (flat_map load_named) (enumerate_from-append 0 xs ys ∙ ap (λ j. enumerate_from 0 xs ++ enumerate_from j ys) none) ∙ flat_map-append load_named (enumerate_from 0 xs) (enumerate_from (length xs) ys)

module _ (commands : List Command) (i : ℕ) (command : Command) (below : i < length commands) (is : command ≡ get_or commands i command) where
  taken_length : length (take i commands) ≡ i
  taken_length = grind (arith, length-take)

  -- the loads up to a command
  one_more_named : loads_named (take (i + 1) commands) ≡ loads_named (take i commands) ++ load_named (i, command)
  one_more_named =
      ap loads_named (take_more commands i command below ∙ ap (λ last. take i commands ++ last ∷ []) (sym is))
      ∙ named-append (take i commands) (command ∷ [])
      ∙ ap (λ j. loads_named (take i commands) ++ (load_named (j, command) ++ [])) taken_length
      ∙ ap (λ here. loads_named (take i commands) ++ here) (append-nil (load_named (i, command)))

  -- and all loads
  all_named : loads_named commands ≡ loads_named (take i commands) ++ (load_named (i, command) ++ flat_map load_named (enumerate_from (i + 1) (drop (i + 1) commands)))
  all_named =
      ap loads_named (sym (take-append-drop i commands) ∙ ap (λ rest. take i commands ++ rest) (drop_more commands i command below ∙ ap (λ first. first ∷ drop (i + 1) commands) (sym is)))
      ∙ named-append (take i commands) (command ∷ drop (i + 1) commands)
      ∙ ap (λ j. loads_named (take i commands) ++ flat_map load_named (enumerate_from j (command ∷ drop (i + 1) commands))) taken_length

  module _ (told : Option (List File)) (folder : Option Word) (tree : Option ℕ) (bytes : ℕ) (sizes : List ℕ)
      (measured : GiveEach (λ load. HandsOn (AfterLoadSize told folder tree bytes load)) (loads_named (take i commands)) sizes) where
    abbrev Gives : ℕ × List ℕ → ℕ → Type 0
    Gives load = HandsOn (AfterLoadSize told folder tree bytes load)

    -- the next has a size, or is no load
    pub measured_more : (more : List ℕ) → HandsOn (AfterEach (AfterLoadSize told folder tree bytes) (load_named (i, command))) more → GiveEach Gives (loads_named (take (i + 1) commands)) (sizes ++ more)
    measured_more more hands =
        subst (λ front. GiveEach Gives front (sizes ++ more)) (sym one_more_named)
        (GiveEach-append Gives (loads_named (take i commands)) sizes (load_named (i, command)) more measured
        (found_of _ _ (each_step Gives (AfterLoadSize told folder tree bytes) (load_size_step told folder tree bytes) (load_named (i, command))) more hands))

    -- or it is refused
    pub measured_refuses : (outcome : Outcome) → AfterEach (AfterLoadSize told folder tree bytes) (load_named (i, command)) nothing outcome → AfterEach (AfterLoadSize told folder tree bytes) (loads_named commands) nothing outcome
    measured_refuses outcome refused =
        subst (λ all. AfterEach (AfterLoadSize told folder tree bytes) all nothing outcome) (sym all_named)
        (refuses_within Gives (AfterLoadSize told folder tree bytes) (load_size_step told folder tree bytes) (loads_named (take i commands)) (load_named (i, command)) _ sizes measured outcome refused)

-- all of them, behind the last command
pub all_measured : (Gives : ℕ × List ℕ → ℕ → Type 0) (commands : List Command) (i : ℕ) (sizes : List ℕ) → length commands ≤ i → GiveEach Gives (loads_named (take i commands)) sizes → GiveEach Gives (loads_named commands) sizes
all_measured Gives commands i sizes past = subst (λ all. GiveEach Gives (loads_named all) sizes) (take_all past)
  where
    take_all : length commands ≤ i → take i commands ≡ commands
    take_all past = grind (arith, common_steps)

-- so they are handed on
pub sizes_handed : (told : Option (List File)) (folder : Option Word) (commands : List Command) (bytes : ℕ) (sizes : List ℕ) → GiveEach (λ load. HandsOn (AfterLoadSize told folder (tree_load_of commands) bytes load)) (loads_named commands) sizes
    → HandsOn (AfterLoadSizes told folder commands bytes) sizes
sizes_handed told folder commands bytes sizes =
    handed _ _ (each_step (λ load. HandsOn (AfterLoadSize told folder (tree_load_of commands) bytes load)) (AfterLoadSize told folder (tree_load_of commands) bytes) (load_size_step told folder (tree_load_of commands) bytes) (loads_named commands)) sizes

-- there are as many as there are loads
count_named : (k : ℕ) (commands : List Command) → length (flat_map load_named (enumerate_from k commands)) ≡ load_count commands
count_named k [] = refl
count_named k (Load how address name ∷ commands) = ap suc (count_named (k + 1) commands)
count_named k (Addr address ∷ commands) = count_named (k + 1) commands
count_named k (Resize bytes ∷ commands) = count_named (k + 1) commands
count_named k (Mknod path name ∷ commands) = count_named (k + 1) commands
count_named k (Set path prop value ∷ commands) = count_named (k + 1) commands
count_named k (SetEnv name value ∷ commands) = count_named (k + 1) commands
count_named k (Booti kernel tree ∷ commands) = count_named (k + 1) commands

pub as_many_loads : (Gives : ℕ × List ℕ → ℕ → Type 0) (commands : List Command) (sizes : List ℕ) → GiveEach Gives (loads_named commands) sizes → length sizes ≡ load_count commands
as_many_loads Gives commands sizes measured = as_many Gives (loads_named commands) sizes measured ∙ count_named 0 commands
