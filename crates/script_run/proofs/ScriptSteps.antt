-- A whole script makes the edited tree, or stops at the first command that adds a name which was there.
use Rattle.std.proofs.Common.{◌≡◌, ℕ, zero, suc, ◌-◌, ◌^◌, ◌<◌, ◌≤◌, ◌==◌, Bool, true, false, cond, not, List, [], ◌∷◌, ◌++◌, map, drop, Option, Some, None, Ok, option_map, option_and_then, length, refl, sym, ap, ◌∙◌, arith, eq-eqb, append_assoc}
use Rattle.std.specs.Prelude.{codes, bytes_eq, is_some}
use Rattle.std.specs.Option.{option_or}
use Rattle.std.specs.List.{list_all}
use Rattle.fdt_tree.specs.Tree.{Bytes, Trees, none, tree, Tree, with_last, add_child, first_named}
use Rattle.fdt_tree.specs.PathEdits.{has_named}
use Rattle.ib_config.specs.Runs.{run_of}
use Rattle.ib_config.specs.declared.settings.Settings.{Settings}
use Rattle.ib_placement.specs.declared.places.FilePlace.{FilePlace}
use Rattle.ib_script.specs.Properties.{on, place_at}
use Rattle.ib_script.specs.Script.{load_command, tree_commands, chosen_commands, domains_commands, start_commands, tree_address, script_of}
use Rattle.ib_script.specs.declared.command.Command.{Command}
use Rattle.ib_script.specs.declared.command.Command.TheVariants.{Addr, Resize, Mknod}
use Rattle.ib_script.specs.declared.make.HostFacts.{HostFacts}
use Rattle.ib_script.specs.declared.make.LoadKind.{LoadKind}
use Rattle.script_run.specs.Effect.{◌>>=◌, step, steps, first_address, is_addr, loads_at, last_index, tree_load_of, tree_effect}
use Rattle.script_run.specs.Edited.{at_first, extended, chosen_properties, chosen_trees, edited_of}
use Rattle.script_run.proofs.MachineLemmas.{steps-append}
use Rattle.script_run.specs.Laws.{chosen_has, adds_to_chosen as adds}
use Rattle.script_run.proofs.NodeEdits.{Add, in_child, named-last, missing}
use Rattle.script_run.proofs.EditSteps.{says-step}
use Rattle.script_run.proofs.GuestEdits.{chosen}
use Rattle.script_run.proofs.Refused.{Stops, Stops-here, Stops-past}
use Rattle.script_run.proofs.Extensions.{any_there, Agrees-all, any_there-agrees, extended_defined}
use Rattle.script_run.proofs.ChosenSteps.{has_few, chosen_extended}

-- Loads change no tree and take none.
loads_steps : (loaded : Bool) (before : List Command) (kind : LoadKind) (ps : List FilePlace) (t : Tree) → steps loaded before (map (load_command kind) ps) t ≡ Ok t
loads_steps loaded before kind [] t = refl
loads_steps loaded before kind (p ∷ ps) t = loads_steps loaded (before ++ load_command kind p ∷ []) kind ps t

first-none : (kind : LoadKind) (ps : List FilePlace) → first_address (map (load_command kind) ps) ≡ None
first-none kind [] = refl
first-none kind (p ∷ ps) = first-none kind ps

first-behind : (kind : LoadKind) (ps : List FilePlace) (cs : List Command) → first_address (map (load_command kind) ps ++ cs) ≡ first_address cs
first-behind kind [] cs = refl
first-behind kind (p ∷ ps) cs = first-behind kind ps cs

run-loads : (kind : LoadKind) (ps : List FilePlace) (a : ℕ) (cs : List Command) → run_of (λ c. not (is_addr c)) (map (load_command kind) ps ++ Addr a ∷ cs) ≡ map (load_command kind) ps
run-loads kind [] a cs = refl
run-loads kind (p ∷ ps) a cs = ap (λ xs. load_command kind p ∷ xs) (run-loads kind ps a cs)

-- a place is found by its address
found_load : (kind : LoadKind) (ps : List FilePlace) (k : ℕ) → k < length ps → is_some (last_index (loads_at (place_at ps k).address) (map (load_command kind) ps)) ≡ true
found_load kind [] k h = absurd (omega arith)
found_load kind (p ∷ ps) zero h = by (last_index (loads_at p.address) (map (load_command kind) ps)) (p.address == p.address) (eq-eqb p.address p.address refl)
  where
    by : (o : Option ℕ) (b : Bool) → b ≡ true → is_some (option_or (option_map suc o) (cond b (Some 0) None)) ≡ true
    by None true e = refl
    by None false e = cc
    by (Some i) b e = refl
found_load kind (p ∷ ps) (suc k) h = by (last_index (loads_at (place_at ps k).address) (map (load_command kind) ps)) (p.address == (place_at ps k).address) (found_load kind ps k (omega arith))
  where
    by : (o : Option ℕ) (b : Bool) → is_some o ≡ true → is_some (option_or (option_map suc o) (cond b (Some 0) None)) ≡ true
    by None b e = cc
    by (Some i) b e = refl

-- The script in the order of its parts.
abbrev pub loads_of : LoadKind → List FilePlace → List Command
loads_of kind places = map (load_command kind) places

abbrev pub body : Settings → List FilePlace → HostFacts → List Command
body s places facts = chosen_commands s.xen_cmd ++ domains_commands s facts.highest (drop 1 places)

abbrev pub start : List FilePlace → List Command
start places = start_commands (place_at places 0).address (tree_address places)

abbrev pub parts : Settings → List FilePlace → HostFacts → LoadKind → List Command
parts s places facts kind = loads_of kind places ++ (tree_commands (tree_address places) facts.chosen ++ (body s places facts ++ start places))

pub script-parts : (s : Settings) (places : List FilePlace) (facts : HostFacts) (kind : LoadKind) → script_of s places facts kind ≡ parts s places facts kind
unfolding script_of
script-parts s places facts kind =
    let L = loads_of kind places in
    let T = tree_commands (tree_address places) facts.chosen in
    let C = chosen_commands s.xen_cmd in
    let D = domains_commands s facts.highest (drop 1 places) in
    ap (λ z. z ++ start places) (append_assoc (L ++ T) C D) ∙ (append_assoc (L ++ T) (C ++ D) (start places) ∙ append_assoc L T ((C ++ D) ++ start places))

-- the tree is loaded
is_loaded : (s : Settings) (places : List FilePlace) (facts : HostFacts) (kind : LoadKind) → 0 < length places → is_some (tree_load_of (parts s places facts kind)) ≡ true
unfolding tree_commands
is_loaded s places facts kind some =
    let rest : List Command = Resize 0x80000 ∷ on (not facts.chosen) (Mknod (codes "/") (codes "chosen") ∷ []) ++ (body s places facts ++ start places) in
    let first : first_address (parts s places facts kind) ≡ Some (tree_address places) = first-behind kind places (Addr (tree_address places) ∷ rest) in
    ap (λ o. is_some (option_and_then (λ a. last_index (loads_at a) (run_of (λ c. not (is_addr c)) (parts s places facts kind))) o)) first
    ∙ (ap (λ cs. is_some (last_index (loads_at (tree_address places)) cs)) (run-loads kind places (tree_address places) rest) ∙ found_load kind places (length places - 1) (omega (arith, some)))

-- the tree with a `chosen`
abbrev with_node : Bool → Tree → Tree
with_node there t = cond there t (add_child chosen [] t)

addr_steps : (kind : LoadKind) (places : List FilePlace) (address : ℕ) (there : Bool) (t : Tree) → has_named chosen t.children ≡ there → steps true (loads_of kind places) (tree_commands address there) t ≡ Ok (with_node there t)
unfolding tree_commands
addr_steps kind places address true t h = rw (first-none kind places) refl
addr_steps kind places address false t h =
    let mid : List Command = loads_of kind places ++ Addr address ∷ [] in
    let before : List Command = mid ++ Resize 0x80000 ∷ [] in
    let taken : is_some (first_address before) ≡ true = ap (λ z. is_some (first_address z)) (append_assoc (loads_of kind places) (Addr address ∷ []) (Resize 0x80000 ∷ [])) ∙ ap is_some (first-behind kind places (Addr address ∷ Resize 0x80000 ∷ [])) in
    let made : step true (first_address before) (Mknod (codes "/") (codes "chosen")) t ≡ Ok (add_child chosen [] t) =
    says-step true (first_address before) (Mknod (codes "/") (codes "chosen")) (Add [] chosen) t (add_child chosen [] t) taken (refl, refl, omega arith) (rw h refl) in
    rw (first-none kind places, made) refl

start_steps : (loaded : Bool) (before : List Command) (places : List FilePlace) (t : Tree) → steps loaded before (start places) t ≡ Ok t
unfolding start_commands
start_steps loaded before places t = refl

-- the edited tree, from the tree with a `chosen`
edited-is : (s : Settings) (places : List FilePlace) (facts : HostFacts) (t : Tree) → edited_of s places facts t ≡ in_child (extended (chosen_properties s) (chosen_trees s places facts)) chosen (with_node (has_named chosen t.children) t)
unfolding edited_of
edited-is s places facts t = by (has_named chosen t.children)
  where
    by : (b : Bool) → option_map (λ trees. record t { children = trees }) (at_first (extended (chosen_properties s) (chosen_trees s places facts)) chosen (cond b t.children (with_last t.children chosen [] none)))
        ≡ in_child (extended (chosen_properties s) (chosen_trees s places facts)) chosen (with_node b t)
    by true = refl
    by false = refl

node_there : (b : Bool) (t : Tree) → has_named chosen t.children ≡ b → has_named chosen (with_node b t).children ≡ true
node_there true t e = e
node_there false t e = named-last chosen t.children [] none

-- what the commands before those of `chosen` leave
tree_taken : (kind : LoadKind) (places : List FilePlace) (there : Bool) → is_some (first_address (loads_of kind places ++ tree_commands (tree_address places) there)) ≡ true
unfolding tree_commands
tree_taken kind places there = ap is_some (first-behind kind places (tree_commands (tree_address places) there))

-- the script's effect, part after part
pub effect-is : (s : Settings) (places : List FilePlace) (facts : HostFacts) (kind : LoadKind) (t : Tree) → 0 < length places → tree_effect (script_of s places facts kind) t ≡ steps true [] (parts s places facts kind) t
unfolding tree_effect
effect-is s places facts kind t some =
    ap (λ cs. steps (is_some (tree_load_of cs)) [] cs t) (script-parts s places facts kind) ∙ ap (λ b. steps b [] (parts s places facts kind) t) (is_loaded s places facts kind some)

-- Where the edited tree is defined, the script makes it.
pub script_makes : (s : Settings) (places : List FilePlace) (facts : HostFacts) (kind : LoadKind) (t u : Tree) → 0 < length places → length s.guests ≤ 2 ^ 64 → list_all has_few s.guests ≡ true → facts.chosen ≡ has_named chosen t.children
    → edited_of s places facts t ≡ Some u → tree_effect (script_of s places facts kind) t ≡ Ok u
script_makes s places facts kind t u some wide few there made =
    let L = loads_of kind places in
    let T = tree_commands (tree_address places) facts.chosen in
    let B = body s places facts in
    let t' : Tree = with_node facts.chosen t in
    let made' : in_child (extended (chosen_properties s) (chosen_trees s places facts)) chosen t' ≡ Some u = ap (λ b. in_child (extended (chosen_properties s) (chosen_trees s places facts)) chosen (with_node b t)) there ∙ (sym (edited-is s places facts t) ∙ made) in
    let chosen_run : steps true (L ++ T) B t' ≡ Ok u = (chosen_extended (λ name. false) s places facts wide few).runs true (L ++ T) t' u (tree_taken kind places facts.chosen) (node_there facts.chosen t (sym there)) made' in
    effect-is s places facts kind t some
    ∙ (steps-append true [] L (T ++ (B ++ start places)) t ∙ (ap (λ r. r >>= λ v. steps true L (T ++ (B ++ start places)) v) (loads_steps true [] kind places t)
    ∙ (steps-append true L T (B ++ start places) t ∙ (ap (λ r. r >>= λ v. steps true (L ++ T) (B ++ start places) v) (addr_steps kind places (tree_address places) facts.chosen t (sym there))
    ∙ (steps-append true (L ++ T) B (start places) t' ∙ (ap (λ r. r >>= λ v. steps true ((L ++ T) ++ B) (start places) v) chosen_run ∙ start_steps true ((L ++ T) ++ B) places u))))))

-- The commands before those of `chosen` add no child of it.
loads_quiet : (has : Bytes → Bool) (kind : LoadKind) (ps : List FilePlace) → list_all (λ c. not (adds has c)) (loads_of kind ps) ≡ true
loads_quiet has kind [] = refl
loads_quiet has kind (p ∷ ps) = loads_quiet has kind ps

tree_quiet : (has : Bytes → Bool) (address : ℕ) (there : Bool) → list_all (λ c. not (adds has c)) (tree_commands address there) ≡ true
unfolding tree_commands
tree_quiet has address true = refl
tree_quiet has address false = refl

-- a `chosen` that is added has no child
chosen_has-last : (ts : Trees) (name : Bytes) → has_named chosen ts ≡ false → chosen_has (with_last ts chosen [] none) name ≡ chosen_has ts name
chosen_has-last none name e = refl
chosen_has-last (tree n ps cs rest) name e =
    let m = missing (bytes_eq n chosen) cs (first_named chosen rest) e in
    rw (m.0, chosen_has-last rest name m.1) refl

names_as_before : (b : Bool) (t : Tree) (name : Bytes) → has_named chosen t.children ≡ b → chosen_has (with_node b t).children name ≡ chosen_has t.children name
names_as_before true t name e = refl
names_as_before false t name e = chosen_has-last t.children name e

-- where the edited tree is not defined, a name was there
name_there : (s : Settings) (places : List FilePlace) (facts : HostFacts) (t : Tree) → edited_of s places facts t ≡ None → any_there (chosen_has (with_node (has_named chosen t.children) t).children) (chosen_trees s places facts) ≡ true
name_there s places facts t none_made =
    by (at_first (extended (chosen_properties s) (chosen_trees s places facts)) chosen made.children) (any_there (chosen_has made.children) (chosen_trees s places facts))
    (extended_defined (chosen_properties s) (chosen_trees s places facts) made.children (node_there (has_named chosen t.children) t refl)) (sym (edited-is s places facts t) ∙ none_made)
  where
    made : Tree
    made = with_node (has_named chosen t.children) t

    by : (o : Option Trees) (b : Bool) → is_some o ≡ not b → option_map (λ cs. record (with_node (has_named chosen t.children) t) { children = cs }) o ≡ None → b ≡ true
    by None true e h = refl
    by None false e h = cc
    by (Some us) b e h = cc

-- Where the edited tree is not defined, the script stops at the first command that adds a name which was there.
pub script_stops : (s : Settings) (places : List FilePlace) (facts : HostFacts) (kind : LoadKind) (t : Tree) → 0 < length places → length s.guests ≤ 2 ^ 64 → list_all has_few s.guests ≡ true → facts.chosen ≡ has_named chosen t.children
    → edited_of s places facts t ≡ None → Stops (chosen_has t.children) true [] (parts s places facts kind) t
script_stops s places facts kind t some wide few there none_made =
    let has : Bytes → Bool = chosen_has t.children in
    let L = loads_of kind places in
    let T = tree_commands (tree_address places) facts.chosen in
    let B = body s places facts in
    let t' : Tree = with_node facts.chosen t in
    let same : (name : Bytes) → chosen_has t'.children name ≡ has name = λ name. names_as_before facts.chosen t name (sym there) in
    let agrees = Agrees-all has (chosen_trees s places facts) t'.children same in
    let found : any_there has (chosen_trees s places facts) ≡ true =
    sym (any_there-agrees has (chosen_trees s places facts) t'.children agrees) ∙ (ap (λ b. any_there (chosen_has (with_node b t).children) (chosen_trees s places facts)) there ∙ name_there s places facts t none_made) in
    Stops-past has true [] L (T ++ (B ++ start places)) t t (loads_steps true [] kind places t) (loads_quiet has kind places)
    (Stops-past has true L T (B ++ start places) t t' (addr_steps kind places (tree_address places) facts.chosen t (sym there)) (tree_quiet has (tree_address places) facts.chosen)
    (Stops-here has true (L ++ T) B (start places) t'
    ((chosen_extended has s places facts wide few).stops true (L ++ T) t' (tree_taken kind places facts.chosen) (node_there facts.chosen t (sym there)) agrees found)))
