-- The script of a configuration loads as many files as have places.
use Rattle.std.proofs.Common.{◌≡◌, ◌∙◌, ◌+◌, suc, refl, sym, ap, arith, ℕ, Bool, true, false, List, [], ◌∷◌, ◌++◌, length, map, drop, Ok, Err}
use Rattle.std.specs.Prelude.{Option, Some, None, Result, cond, codes, is_some}
use Rattle.std.specs.List.{flat_map, enumerate_from}
use Rattle.texts.specs.declared.ranges.BaseSize.{BaseSize}
use Rattle.ib_config.specs.declared.groups.PortGroup.{PortGroup}
use Rattle.ib_config.specs.declared.groups.ShmGroup.{ShmGroup}
use Rattle.ib_config.specs.declared.guests.Guest.{Guest}
use Rattle.ib_config.specs.declared.settings.Settings.{Settings}
use Rattle.ib_placement.specs.Placement.{guest_files}
use Rattle.ib_placement.specs.declared.places.FilePlace.{FilePlace}
use Rattle.ib_script.specs.Guests.{static_properties, node_commands, machine_commands, static_commands, enhanced_commands, kernel_commands, other_modules, shared_commands, channel_commands, port_commands, domain_commands, module_commands, link_commands, guest_commands, guests_commands}
use Rattle.ib_script.specs.Phandles.{has_phandles, first_phandle}
use Rattle.ib_script.specs.Properties.{on, on_some, two_and_two, module_at, place_at}
use Rattle.ib_script.specs.Script.{load_command, tree_commands, chosen_commands, dom0_commands, domains_commands, start_commands, tree_address, script_of, made_of}
use Rattle.ib_script.specs.declared.command.Command.{Command}
use Rattle.ib_script.specs.declared.make.HostFacts.{HostFacts}
use Rattle.ib_script.specs.declared.make.LoadKind.{LoadKind}
use Rattle.ib_script.specs.declared.make.MakeFault.{MakeFault}
use Rattle.ib_script.specs.declared.make.MakeFault.TheVariants.{NoPhandle}
use Rattle.script_run.specs.Effect.{is_load, load_count}
use Rattle.script_run.proofs.ScriptSteps.{body, start, script-parts}

-- the loads of commands behind others
pub load_count-append : (xs ys : List Command) → load_count (xs ++ ys) ≡ load_count xs + load_count ys
load_count-append [] ys = omega arith
load_count-append (x ∷ xs) ys = by (is_load x) (load_count-append xs ys)
  where
    by : (b : Bool) → load_count (xs ++ ys) ≡ load_count xs + load_count ys → cond b (suc (load_count (xs ++ ys))) (load_count (xs ++ ys)) ≡ cond b (suc (load_count xs)) (load_count xs) + load_count ys
    by true h = omega (arith, h)
    by false h = h

-- commands that load nothing
record LoadNone (commands : List Command) : Type 0 where
  count : load_count commands ≡ 0

plain : (commands : List Command) → load_count commands ≡ 0 → LoadNone commands
plain commands is = record { count = is }

none-append : (xs ys : List Command) → LoadNone xs → LoadNone ys → LoadNone (xs ++ ys)
none-append xs ys one other = plain _ (load_count-append xs ys ∙ sums one.count other.count)
  where
    sums : load_count xs ≡ 0 → load_count ys ≡ 0 → load_count xs + load_count ys ≡ 0
    sums one other = omega (arith, one, other)

none-on : (test : Bool) (commands : List Command) → LoadNone commands → LoadNone (on test commands)
none-on true commands none = none
none-on false commands none = plain _ refl

none-on_some : {A : Type 0} (value : Option A) (commands : A → List Command) → ((x : A) → LoadNone (commands x)) → LoadNone (on_some value commands)
none-on_some (Some x) commands none = none x
none-on_some None commands none = plain _ refl

none-flat_map : {A : Type 0} (commands : A → List Command) → ((x : A) → LoadNone (commands x)) → (xs : List A) → LoadNone (flat_map commands xs)
none-flat_map commands none [] = plain _ refl
none-flat_map commands none (x ∷ xs) = none-append (commands x) (flat_map commands xs) (none x) (none-flat_map commands none xs)

none-module : (parent name kind : List ℕ) (place : FilePlace) → LoadNone (module_at parent name kind place)
unfolding module_at
none-module parent name kind place = plain _ refl

none-two : (path : List ℕ) → LoadNone (two_and_two path)
unfolding two_and_two
none-two path = plain _ refl

none-node : (n : ℕ) → LoadNone (node_commands n)
unfolding node_commands two_and_two
none-node n = plain _ refl

none-machine : (path : List ℕ) (mib : Option ℕ) (vcpus : ℕ) (vpl011 : Bool) → LoadNone (machine_commands path mib vcpus vpl011)
unfolding machine_commands
none-machine path (Some mib) vcpus true = plain _ refl
none-machine path (Some mib) vcpus false = plain _ refl
none-machine path None vcpus true = plain _ refl
none-machine path None vcpus false = plain _ refl

none-static : (path : List ℕ) (ranges : List BaseSize) (direct : Bool) → LoadNone (static_commands path ranges direct)
unfolding static_commands static_properties
none-static path [] direct = plain _ refl
none-static path (range ∷ ranges) true = plain _ refl
none-static path (range ∷ ranges) false = plain _ refl

none-enhanced : (path : List ℕ) (groups : List PortGroup) → LoadNone (enhanced_commands path groups)
unfolding enhanced_commands
none-enhanced path [] = plain _ refl
none-enhanced path (group ∷ groups) = plain _ refl

-- what a guest is
none-domain : (n : ℕ) (guest : Guest) → LoadNone (domain_commands n guest)
unfolding domain_commands
none-domain n guest =
    none-append _ _ (none-append _ _ (none-append _ _ (none-node n) (none-machine _ guest.mem_mib guest.vcpus guest.vpl011)) (none-static _ guest.static_mem guest.direct_map)) (none-enhanced _ guest.evtchns)

-- what it is started from
none-modules : (n : ℕ) (guest : Guest) (places : List FilePlace) → LoadNone (module_commands n guest places)
unfolding module_commands kernel_commands other_modules
none-modules n guest places =
    none-append _ _ (none-append _ _ (none-module _ _ _ _) (none-on_some guest.cmd _ (λ cmd. plain _ refl)))
    (none-append _ _ (none-on (is_some guest.ramdisk) _ (none-module _ _ _ _)) (none-on (is_some guest.passthrough_dtb) _ (none-module _ _ _ _)))

none-shared : (path : List ℕ) (entry : ℕ × ShmGroup) → LoadNone (shared_commands path entry)
unfolding shared_commands
none-shared path (k, group) = plain _ refl

none-port : (path : List ℕ) (guests : List Guest) (highest first : ℕ) (entry : ℕ × PortGroup) → LoadNone (port_commands path guests highest first entry)
unfolding port_commands channel_commands
none-port path guests highest first (k, group) = plain _ refl

-- what it shares
none-links : (guests : List Guest) (highest n : ℕ) (guest : Guest) → LoadNone (link_commands guests highest n guest)
unfolding link_commands
none-links guests highest n guest =
    none-append _ _ (none-flat_map (shared_commands _) (none-shared _) (enumerate_from 0 guest.shared_mem))
    (none-flat_map (port_commands _ guests highest (first_phandle guests highest n)) (none-port _ guests highest (first_phandle guests highest n)) (enumerate_from 0 guest.evtchns))

none-guest : (guests : List Guest) (highest n : ℕ) (guest : Guest) (places : List FilePlace) → LoadNone (guest_commands guests highest n guest places)
unfolding guest_commands
none-guest guests highest n guest places =
    none-append _ _ (none-append _ _ (none-domain n guest) (none-modules n guest places)) (none-links guests highest n guest)

none-guests : (guests : List Guest) (highest n : ℕ) (some : List Guest) (places : List FilePlace) → LoadNone (guests_commands guests highest n some places)
none-guests guests highest n [] places = plain _ refl
none-guests guests highest n (guest ∷ others) places =
    none-append _ _ (none-guest guests highest n guest places) (none-guests guests highest (n + 1) others (drop (length (guest_files guest)) places))

none-dom0 : (kernel : Bool) (cmd : Option (List ℕ)) (ramdisk : Bool) (places : List FilePlace) → LoadNone (dom0_commands kernel cmd ramdisk places)
unfolding dom0_commands
none-dom0 kernel cmd ramdisk places =
    none-append _ _ (none-append _ _ (none-on kernel _ (none-module _ _ _ _)) (none-on_some cmd _ (λ cmd. plain _ refl))) (none-on ramdisk _ (none-module _ _ _ _))

none-domains : (settings : Settings) (highest : ℕ) (places : List FilePlace) → LoadNone (domains_commands settings highest places)
unfolding domains_commands
none-domains settings highest places = none-append _ _ (none-dom0 _ _ _ places) (none-guests settings.guests highest 0 settings.guests _)

none-tree : (tree : ℕ) (chosen : Bool) → LoadNone (tree_commands tree chosen)
unfolding tree_commands
none-tree tree true = plain _ refl
none-tree tree false = plain _ refl

none-chosen : (cmd : List ℕ) → LoadNone (chosen_commands cmd)
unfolding chosen_commands
none-chosen cmd = none-append _ _ (none-two (codes "/chosen")) (plain _ refl)

none-start : (xen tree : ℕ) → LoadNone (start_commands xen tree)
unfolding start_commands
none-start xen tree = plain _ refl

-- each place is loaded
all_loaded : (kind : LoadKind) (places : List FilePlace) → load_count (map (load_command kind) places) ≡ length places
all_loaded kind [] = refl
all_loaded kind (place ∷ places) = ap suc (all_loaded kind places)

behind : (front rest : List Command) (count : ℕ) → load_count front ≡ count → LoadNone rest → load_count (front ++ rest) ≡ count
behind front rest count is none = load_count-append front rest ∙ sums is none.count
  where
    sums : load_count front ≡ count → load_count rest ≡ 0 → load_count front + load_count rest ≡ count
    sums front rest = omega (arith, front, rest)

none-rest : (settings : Settings) (places : List FilePlace) (facts : HostFacts) → LoadNone (tree_commands (tree_address places) facts.chosen ++ (body settings places facts ++ start places))
none-rest settings places facts =
    none-append _ _ (none-tree (tree_address places) facts.chosen)
    (none-append _ _ (none-append _ _ (none-chosen settings.xen_cmd) (none-domains settings facts.highest (drop 1 places))) (none-start (place_at places 0).address (tree_address places)))

script_loads : (settings : Settings) (places : List FilePlace) (facts : HostFacts) (kind : LoadKind) → load_count (script_of settings places facts kind) ≡ length places
script_loads settings places facts kind =
    ap load_count (script-parts settings places facts kind)
    ∙ behind (map (load_command kind) places) (tree_commands (tree_address places) facts.chosen ++ (body settings places facts ++ start places)) (length places) (all_loaded kind places) (none-rest settings places facts)

abbrev made_ok : List Command → Result (List Command) MakeFault
made_ok script = Ok script

-- the script that is made of a configuration has one load for each place
pub made_loads : (settings : Settings) (places : List FilePlace) (facts : HostFacts) (kind : LoadKind) (script : List Command) → made_of settings places facts kind ≡ Ok script → length places ≡ load_count script
unfolding made_of
made_loads settings places facts kind script made = by (has_phandles settings.guests facts.highest) made
  where
    by : (b : Bool) → cond b (Ok (script_of settings places facts kind)) (Err (NoPhandle facts.highest)) ≡ Ok script → length places ≡ load_count script
    by true is = sym (script_loads settings places facts kind) ∙ ap load_count (same (script_of settings places facts kind) is)
      where
        same : (one : List Command) → made_ok one ≡ Ok script → one ≡ script
        same one e = cc
    by false is = cc
