-- The script of settings that can be spoken is a list of good commands.
use Rattle.std.proofs.Common.{◌≡◌, ℕ, ◌-◌, Bool, true, false, ◌&&◌, List, [], ◌∷◌, ◌++◌, map, drop, Option, Some, None, Ok, length, refl, arith}
use Rattle.std.specs.Prelude.{codes, is_some}
use Rattle.std.specs.List.{list_all}
use Rattle.std.proofs.lemmas.Bool.{and_parts}
use Rattle.ib_config.specs.Line.{is_blank}
use Rattle.ib_config.specs.declared.settings.Settings.{Settings}
use Rattle.ib_placement.specs.declared.places.FilePlace.{FilePlace}
use Rattle.ib_placement.specs.Placement.{dom0_files}
use Rattle.ib_script.specs.Properties.{word, below, on_some, place_at, one_if}
use Rattle.ib_script.specs.Script.{load_command, tree_commands, chosen_commands, dom0_commands, domains_commands, start_commands, tree_address, script_of}
use Rattle.ib_script.specs.declared.command.Command.TheVariants.{Set}
use Rattle.ib_script.specs.declared.make.HostFacts.{HostFacts}
use Rattle.ib_script.specs.declared.make.LoadKind.{LoadKind}
use Rattle.script_run.specs.Words.{is_script_byte}
use Rattle.script_run.specs.Commands.{is_path, is_plain_name}
use Rattle.script_run.proofs.CommandLemmas.{wordable}
use Rattle.script_run.proofs.Printed.{good_path, quotable}
use Rattle.ib_script.specs.Text.{text_of}
use Rattle.script_run.specs.Reading.{commands_of}
use Rattle.script_run.proofs.PrintedLines.{AllGood, good_read_back}
use Rattle.script_run.proofs.GoodPaths.{AllGood-append, AllGood-on, wordy, wide, wide_is}
use Rattle.script_run.proofs.GoodGuests.{good_place, good_option, good_word, good_two, good_module, place_good, all_drop, good_guests, good_guests_commands}

good_chosen : good_path (codes "/chosen") ≡ true
unfolding is_path is_blank is_script_byte
good_chosen = refl

good_dom0_path : good_path (below (codes "/chosen") (codes "dom0")) ≡ true
unfolding is_path is_blank is_script_byte below
good_dom0_path = refl

good_dom0_ramdisk_path : good_path (below (codes "/chosen") (codes "dom0-ramdisk")) ≡ true
unfolding is_path is_blank is_script_byte below
good_dom0_ramdisk_path = refl

wordy_dom0 : wordy (codes "dom0") ≡ true
unfolding is_blank is_script_byte
wordy_dom0 = refl

wordy_dom0_ramdisk : wordy (codes "dom0-ramdisk") ≡ true
unfolding is_blank is_script_byte
wordy_dom0_ramdisk = refl

quotable_kernel : quotable (codes "multiboot," ++ codes "kernel") ≡ true
unfolding is_script_byte
quotable_kernel = refl

quotable_ramdisk : quotable (codes "multiboot," ++ codes "ramdisk") ≡ true
unfolding is_script_byte
quotable_ramdisk = refl

good_cmd : (cmd : Option (List ℕ)) → good_option cmd ≡ true → AllGood (on_some cmd (λ cmd. Set (codes "/chosen") (codes "xen,dom0-bootargs") (word cmd) ∷ []))
unfolding is_blank is_script_byte
good_cmd None c = tt
good_cmd (Some cmd) c = (good_word (codes "/chosen") (codes "xen,dom0-bootargs") cmd good_chosen refl c, tt)

good_dom0 : (kernel : Bool) (cmd : Option (List ℕ)) (ramdisk : Bool) (places : List FilePlace) → good_option cmd ≡ true → list_all good_place places ≡ true → AllGood (dom0_commands kernel cmd ramdisk places)
unfolding dom0_commands
good_dom0 kernel cmd ramdisk places c p =
    let one = place_good places 0 p in
    let two = place_good places (one_if kernel) p in
    AllGood-append _ _ (AllGood-append _ _ (AllGood-on kernel _ (good_module (codes "/chosen") (codes "dom0") (codes "kernel") (place_at places 0) good_chosen good_dom0_path wordy_dom0 quotable_kernel one.0 one.1)) (good_cmd cmd c))
    (AllGood-on ramdisk _ (good_module (codes "/chosen") (codes "dom0-ramdisk") (codes "ramdisk") (place_at places (one_if kernel)) good_chosen good_dom0_ramdisk_path wordy_dom0_ramdisk quotable_ramdisk two.0 two.1))

good_tree : (tree : ℕ) (is_there : Bool) → wide tree ≡ true → AllGood (tree_commands tree is_there)
unfolding tree_commands is_path is_plain_name is_blank is_script_byte
good_tree tree true h = (wide_is tree h, (omega arith, tt))
good_tree tree false h = (wide_is tree h, (omega arith, ((refl, refl), tt)))

good_chosen_commands : (cmd : List ℕ) → quotable cmd ≡ true → AllGood (chosen_commands cmd)
unfolding chosen_commands is_blank is_script_byte
good_chosen_commands cmd q = AllGood-append _ _ (good_two (codes "/chosen") good_chosen) (good_word (codes "/chosen") (codes "xen,xen-bootargs") cmd good_chosen refl q, tt)

good_start : (xen tree : ℕ) → wide xen ≡ true → wide tree ≡ true → AllGood (start_commands xen tree)
unfolding start_commands is_blank is_script_byte
good_start xen tree x t = ((refl, refl), ((wide_is xen x, wide_is tree t), tt))

good_loads : (kind : LoadKind) (places : List FilePlace) → list_all good_place places ≡ true → AllGood (map (load_command kind) places)
good_loads kind [] h = tt
good_loads kind (p ∷ ps) h =
    let a = and_parts (good_place p) (list_all good_place ps) h in
    let b = and_parts (wordable p.name) (wide p.address && wide p.size) a.0 in
    ((kind, refl, wide_is p.address (and_parts (wide p.address) (wide p.size) b.1).0, b.0), good_loads kind ps a.1)

-- What settings and places must be so that their script is read back.
pub record IsSpoken (s : Settings) (places : List FilePlace) (facts : HostFacts) : Type 0 where
  pub places_good : list_all good_place places ≡ true
  pub xen_cmd : quotable s.xen_cmd ≡ true
  pub dom0_cmd : good_option s.dom0_cmd ≡ true
  pub guests : good_guests s.guests facts.highest 0 s.guests ≡ true

-- Their script is a list of good commands.
pub good_script : (s : Settings) (places : List FilePlace) (facts : HostFacts) (kind : LoadKind) → IsSpoken s places facts → AllGood (script_of s places facts kind)
unfolding script_of domains_commands
good_script s places facts kind h =
    let tree = place_good places (length places - 1) h.places_good in
    let xen = place_good places 0 h.places_good in
    let rest = all_drop good_place 1 places h.places_good in
    AllGood-append _ _ (AllGood-append _ _ (AllGood-append _ _ (AllGood-append _ _ (good_loads kind places h.places_good) (good_tree (tree_address places) facts.chosen tree.0)) (good_chosen_commands s.xen_cmd h.xen_cmd))
    (AllGood-append _ _ (good_dom0 (is_some s.dom0_kernel) s.dom0_cmd (is_some s.dom0_ramdisk) (drop 1 places) h.dom0_cmd rest)
    (good_guests_commands s.guests facts.highest 0 s.guests (drop (length (dom0_files s)) (drop 1 places)) h.guests (all_drop good_place (length (dom0_files s)) (drop 1 places) rest))))
    (good_start (place_at places 0).address (tree_address places) xen.0 tree.0)

-- A printed script of such settings is read back as it was.
pub script_read_back : (s : Settings) (places : List FilePlace) (facts : HostFacts) (kind : LoadKind) → IsSpoken s places facts → commands_of (text_of (script_of s places facts kind)) ≡ Ok (script_of s places facts kind)
script_read_back s places facts kind h = good_read_back (script_of s places facts kind) (good_script s places facts kind h)
