-- The commands of `/chosen`, of dom0 and of all guests extend the first `chosen`.
use Rattle.std.proofs.Common.{◌≡◌, ℕ, ◌+◌, ◌^◌, ◌<◌, ◌≤◌, Bool, true, false, not, ◌&&◌, List, [], ◌∷◌, ◌++◌, map, drop, Option, Some, None, length, refl, ap, subst, ◌∙◌, arith, append-nil}
use Rattle.std.specs.Prelude.{codes, bytes_eq, is_some, nat_le, flat_map}
use Rattle.std.specs.List.{list_all}
use Rattle.std.specs.Int.{w32, to_be_bytes}
use Rattle.std.proofs.lemmas.Bool.{and_parts}
use Rattle.std.proofs.lemmas.Bool.Decides.{nat_tests}
use Rattle.fdt_tree.specs.Tree.{Bytes, Property, none, Tree}
use Rattle.ib_config.specs.declared.settings.Settings.{Settings}
use Rattle.ib_config.specs.declared.guests.Guest.{Guest}
use Rattle.ib_placement.specs.declared.places.FilePlace.{FilePlace}
use Rattle.ib_placement.specs.Placement.{dom0_files, guest_files}
use Rattle.ib_script.specs.Properties.{two_cells, below, numbered, on, on_some, two_and_two, module_at, place_at, one_if, word}
use Rattle.ib_script.specs.Guests.{node_commands, domain_commands, guest_commands, guests_commands}
use Rattle.ib_script.specs.Script.{chosen_commands, dom0_commands, domains_commands}
use Rattle.ib_script.specs.declared.command.Command.{Command}
use Rattle.ib_script.specs.declared.command.Command.TheVariants.{Set}
use Rattle.ib_script.specs.declared.make.HostFacts.{HostFacts}
use Rattle.script_run.specs.Edited.{leaf, extended, guest_properties, guest_tree, guest_trees, module_tree, chosen_trees, chosen_properties, where_set, where_some, texts_property}
use Rattle.script_run.specs.Edited as edited
use Rattle.script_run.proofs.NodeEdits.{Edit, Put, all_under, puts, make_leaf, in_child}
use Rattle.script_run.proofs.EditSteps.{AllSay}
use Rattle.script_run.proofs.GuestEdits.{domain, chosen, at_guest}
use Rattle.script_run.proofs.GuestWhole.{children_of, all_fresh, leaf_at, leaves_at, says-guest, guest_steps}
use Rattle.script_run.proofs.Distinct.{children_fresh, numbered_apart}
use Rattle.script_run.proofs.ChosenEdits.{Extend-leaf, whole-extended, side_by_side}
use Rattle.script_run.proofs.Extensions.{Extends, Extends-append, Extends-none, Extends-puts, Extends-one, runs_edits, spares_chosen, all_both}

-- Commands that say edits below `chosen`.
abbrev pub SayBelow : List Command → List Edit → Type 0
SayBelow cs es = AllSay cs (all_under chosen es)

-- the properties of /chosen but that for dom0
abbrev xen_properties : Bytes → List Property
xen_properties cmd = edited.two_and_two ++ texts_property (codes "xen,xen-bootargs") (cmd ∷ []) ∷ []

says-chosen : (cmd : Bytes) → SayBelow (chosen_commands cmd) (puts (xen_properties cmd))
unfolding chosen_commands two_and_two
says-chosen cmd = ((refl, refl, refl), ((refl, refl, refl), ((refl, refl, refl), tt)))

-- dom0's modules and command line
abbrev cell_bytes : List ℕ → List ℕ
cell_bytes ns = flat_map (to_be_bytes w32) ns

abbrev dom0_kernel : FilePlace → Tree
dom0_kernel place = module_tree (codes "dom0") (codes "kernel") place []

abbrev dom0_ramdisk : FilePlace → Tree
dom0_ramdisk place = module_tree (codes "dom0-ramdisk") (codes "ramdisk") place []

says-dom0_kernel : (place : FilePlace) → SayBelow (module_at (codes "/chosen") (codes "dom0") (codes "kernel") place) (make_leaf (codes "dom0") (dom0_kernel place).properties)
unfolding module_at below
says-dom0_kernel place = ((refl, refl, omega arith), ((refl, refl, refl), ((refl, refl, append-nil (cell_bytes (two_cells place.address ++ two_cells place.size))), tt)))

says-dom0_ramdisk : (place : FilePlace) → SayBelow (module_at (codes "/chosen") (codes "dom0-ramdisk") (codes "ramdisk") place) (make_leaf (codes "dom0-ramdisk") (dom0_ramdisk place).properties)
unfolding module_at below
says-dom0_ramdisk place = ((refl, refl, omega arith), ((refl, refl, refl), ((refl, refl, append-nil (cell_bytes (two_cells place.address ++ two_cells place.size))), tt)))

abbrev cmd_properties : Option Bytes → List Property
cmd_properties cmd = where_some cmd (λ cmd. texts_property (codes "xen,dom0-bootargs") (cmd ∷ []) ∷ [])

says-cmd : (cmd : Option Bytes) → SayBelow (on_some cmd (λ cmd. Set (codes "/chosen") (codes "xen,dom0-bootargs") (word cmd) ∷ [])) (puts (cmd_properties cmd))
says-cmd None = tt
says-cmd (Some cmd) = ((refl, refl, refl), tt)

-- dom0's modules and command line, as far as they are set
dom0_module : (has : Bytes → Bool) (test : Bool) (cs : List Command) (t : Tree) → Extends has cs [] (t ∷ []) → Extends has (on test cs) [] (where_set test (t ∷ []))
dom0_module has true cs t e = e
dom0_module has false cs t e = Extends-none has

extends-dom0_kernel : (has : Bytes → Bool) (place : FilePlace) → Extends has (module_at (codes "/chosen") (codes "dom0") (codes "kernel") place) [] (dom0_kernel place ∷ [])
unfolding module_at below
extends-dom0_kernel has place =
    let ps = (dom0_kernel place).properties in
    let says = says-dom0_kernel place in
    Extends-one has _ (all_under chosen (all_under (codes "dom0") (puts ps))) (dom0_kernel place)
    (runs_edits (module_at (codes "/chosen") (codes "dom0") (codes "kernel") place) (make_leaf (codes "dom0") ps) [] (dom0_kernel place ∷ []) says (Extend-leaf (codes "dom0") ps refl refl))
    says.1 refl

extends-dom0_ramdisk : (has : Bytes → Bool) (place : FilePlace) → Extends has (module_at (codes "/chosen") (codes "dom0-ramdisk") (codes "ramdisk") place) [] (dom0_ramdisk place ∷ [])
unfolding module_at below
extends-dom0_ramdisk has place =
    let ps = (dom0_ramdisk place).properties in
    let says = says-dom0_ramdisk place in
    Extends-one has _ (all_under chosen (all_under (codes "dom0-ramdisk") (puts ps))) (dom0_ramdisk place)
    (runs_edits (module_at (codes "/chosen") (codes "dom0-ramdisk") (codes "ramdisk") place) (make_leaf (codes "dom0-ramdisk") ps) [] (dom0_ramdisk place ∷ []) says (Extend-leaf (codes "dom0-ramdisk") ps refl refl))
    says.1 refl

beside-kernel : (kernel ramdisk : Bool) (one two : FilePlace) → side_by_side (where_set kernel (dom0_kernel one ∷ []) ++ []) (where_set ramdisk (dom0_ramdisk two ∷ [])) ≡ true
beside-kernel true true one two = refl
beside-kernel true false one two = refl
beside-kernel false true one two = refl
beside-kernel false false one two = refl

no_trees : (us : List Tree) → side_by_side [] us ≡ true
no_trees [] = refl
no_trees (u ∷ us) = no_trees us

extends-dom0 : (has : Bytes → Bool) (kernel : Bool) (cmd : Option Bytes) (ramdisk : Bool) (places : List FilePlace)
    → Extends has (dom0_commands kernel cmd ramdisk places) (([] ++ cmd_properties cmd) ++ []) ((where_set kernel (dom0_kernel (place_at places 0) ∷ []) ++ []) ++ where_set ramdisk (dom0_ramdisk (place_at places (one_if kernel)) ∷ []))
unfolding dom0_commands
extends-dom0 has kernel cmd ramdisk places =
    let one : FilePlace = place_at places 0 in
    let two : FilePlace = place_at places (one_if kernel) in
    Extends-append has _ _ ([] ++ cmd_properties cmd) [] (where_set kernel (dom0_kernel one ∷ []) ++ []) (where_set ramdisk (dom0_ramdisk two ∷ []))
    (Extends-append has _ _ [] (cmd_properties cmd) (where_set kernel (dom0_kernel one ∷ [])) []
    (dom0_module has kernel _ (dom0_kernel one) (extends-dom0_kernel has one)) (Extends-puts has _ (cmd_properties cmd) (says-cmd cmd)) refl)
    (dom0_module has ramdisk _ (dom0_ramdisk two) (extends-dom0_ramdisk has two))
    (beside-kernel kernel ramdisk one two)

-- One guest: its first command adds its node, and no other adds a child of `chosen`.
puts_spare : (n : ℕ) (name : Bytes) (ps : List Property) → list_all spares_chosen (map (λ (p : Property). Put (chosen ∷ domain n ∷ name ∷ []) p.0 p.1) ps) ≡ true
puts_spare n name [] = refl
puts_spare n name (p ∷ ps) = puts_spare n name ps

leaves_spare : (n : ℕ) (ts : List Tree) → list_all spares_chosen (leaves_at n ts) ≡ true
leaves_spare n [] = refl
leaves_spare n (t ∷ ts) = all_both spares_chosen (leaf_at n t.name t.properties) (leaves_at n ts) (puts_spare n t.name t.properties) (leaves_spare n ts)

guest_spares : (n : ℕ) (ps : List Property) (ts : List Tree) → list_all spares_chosen (at_guest n ps ++ leaves_at n ts) ≡ true
guest_spares n [] ts = leaves_spare n ts
guest_spares n (p ∷ ps) ts = guest_spares n ps ts

extends-guest : (has : Bytes → Bool) (guests : List Guest) (highest n : ℕ) (g : Guest) (places : List FilePlace) → all_fresh (children_of guests highest n g places) none ≡ true
    → Extends has (guest_commands guests highest n g places) [] (guest_tree guests highest n g places ∷ [])
unfolding guest_commands domain_commands node_commands
extends-guest has guests highest n g places fresh =
    let w : Tree = guest_tree guests highest n g places in
    Extends-one has _ (at_guest n (guest_properties g) ++ leaves_at n (children_of guests highest n g places)) w
    (λ loaded before t u taken there made. guest_steps loaded before t u guests highest n g places fresh taken there
    (ap (λ (f : Tree → Option Tree). in_child f chosen t) (λ j. λ v. whole-extended w v j) ∙ made))
    (says-guest guests highest n g places).1 (guest_spares n (guest_properties g) (children_of guests highest n g places))

-- a guest with few regions and channels
abbrev pub has_few : Guest → Bool
has_few g = nat_le (length g.shared_mem) (2 ^ 64) && nat_le (length g.evtchns) (2 ^ 64)

later_guests : (guests : List Guest) (highest j n : ℕ) (g : Tree) (gs : List Guest) (places : List FilePlace) → g.name ≡ domain j → j < n → n + length gs ≤ 2 ^ 64 → side_by_side (g ∷ []) (guest_trees guests highest n gs places) ≡ true
later_guests guests highest j n g [] places is less wide = refl
later_guests guests highest j n g (h ∷ hs) places is less wide =
    let apart : bytes_eq g.name (domain n) ≡ false = ap (λ z. bytes_eq z (domain n)) is ∙ numbered_apart (codes "domU") j n less (omega arith) in
    rw apart (later_guests guests highest j (n + 1) g hs (drop (length (guest_files h)) places) is (omega arith) (omega arith))

extends-guests : (has : Bytes → Bool) (guests : List Guest) (highest n : ℕ) (gs : List Guest) (places : List FilePlace) → n + length gs ≤ 2 ^ 64 → list_all has_few gs ≡ true
    → Extends has (guests_commands guests highest n gs places) [] (guest_trees guests highest n gs places)
extends-guests has guests highest n [] places wide few = Extends-none has
extends-guests has guests highest n (g ∷ gs) places wide few =
    let k = and_parts (has_few g) (list_all has_few gs) few in
    let f = and_parts (nat_le (length g.shared_mem) (2 ^ 64)) (nat_le (length g.evtchns) (2 ^ 64)) k.0 in
    let fresh = children_fresh guests highest n g places (grind (arith, nat_tests, f.0)) (grind (arith, nat_tests, f.1)) in
    let rest : List FilePlace = drop (length (guest_files g)) places in
    Extends-append has (guest_commands guests highest n g places) (guests_commands guests highest (n + 1) gs rest) [] [] (guest_tree guests highest n g places ∷ []) (guest_trees guests highest (n + 1) gs rest)
    (extends-guest has guests highest n g places fresh) (extends-guests has guests highest (n + 1) gs rest (omega arith) k.1)
    (later_guests guests highest n (n + 1) (guest_tree guests highest n g places) gs rest refl (omega arith) (omega arith))

-- dom0's modules and the guests side by side
dom0_apart : (n : ℕ) → (bytes_eq (codes "dom0") (domain n) ≡ false) × (bytes_eq (codes "dom0-ramdisk") (domain n) ≡ false)
unfolding numbered
dom0_apart n = (refl, refl)

beside_guests : (kernel ramdisk : Bool) (one two : FilePlace) (guests : List Guest) (highest n : ℕ) (gs : List Guest) (places : List FilePlace)
    → side_by_side ((where_set kernel (dom0_kernel one ∷ []) ++ []) ++ where_set ramdisk (dom0_ramdisk two ∷ [])) (guest_trees guests highest n gs places) ≡ true
beside_guests kernel ramdisk one two guests highest n [] places = refl
beside_guests kernel ramdisk one two guests highest n (g ∷ gs) places =
    rw (here kernel ramdisk (dom0_apart n)) (beside_guests kernel ramdisk one two guests highest (n + 1) gs (drop (length (guest_files g)) places))
  where
    here : (k r : Bool) → (bytes_eq (codes "dom0") (domain n) ≡ false) × (bytes_eq (codes "dom0-ramdisk") (domain n) ≡ false)
        → list_all (λ (t : Tree). not (bytes_eq t.name (domain n))) ((where_set k (dom0_kernel one ∷ []) ++ []) ++ where_set r (dom0_ramdisk two ∷ [])) ≡ true
    here true true a = rw (a.0, a.1) refl
    here true false a = rw a.0 refl
    here false true a = rw a.1 refl
    here false false a = refl

-- The commands of `/chosen`, of dom0 and of all guests extend the first `chosen` as the edited tree says.
pub chosen_extended : (has : Bytes → Bool) (s : Settings) (places : List FilePlace) (facts : HostFacts) → length s.guests ≤ 2 ^ 64 → list_all has_few s.guests ≡ true
    → Extends has (chosen_commands s.xen_cmd ++ domains_commands s facts.highest (drop 1 places)) (chosen_properties s) (chosen_trees s places facts)
unfolding domains_commands
chosen_extended has s places facts wide few =
    let kernel : Bool = is_some s.dom0_kernel in
    let ramdisk : Bool = is_some s.dom0_ramdisk in
    let one : FilePlace = place_at (drop 1 places) 0 in
    let two : FilePlace = place_at (drop 1 places) (one_if kernel) in
    let C : List Property = cmd_properties s.dom0_cmd in
    let K : List Tree = where_set kernel (dom0_kernel one ∷ []) in
    let R : List Tree = where_set ramdisk (dom0_ramdisk two ∷ []) in
    let rest : List FilePlace = drop (length (dom0_files s)) (drop 1 places) in
    let G : List Tree = guest_trees s.guests facts.highest 0 s.guests rest in
    let commands : List Command = chosen_commands s.xen_cmd ++ (dom0_commands kernel s.dom0_cmd ramdisk (drop 1 places) ++ guests_commands s.guests facts.highest 0 s.guests rest) in
    let parts : Extends has commands (xen_properties s.xen_cmd ++ ((([] ++ C) ++ []) ++ [])) ([] ++ (((K ++ []) ++ R) ++ G)) =
    Extends-append has (chosen_commands s.xen_cmd) (dom0_commands kernel s.dom0_cmd ramdisk (drop 1 places) ++ guests_commands s.guests facts.highest 0 s.guests rest) (xen_properties s.xen_cmd) ((([] ++ C) ++ []) ++ []) [] (((K ++ []) ++ R) ++ G)
    (Extends-puts has (chosen_commands s.xen_cmd) (xen_properties s.xen_cmd) (says-chosen s.xen_cmd))
    (Extends-append has (dom0_commands kernel s.dom0_cmd ramdisk (drop 1 places)) (guests_commands s.guests facts.highest 0 s.guests rest) (([] ++ C) ++ []) [] ((K ++ []) ++ R) G
    (extends-dom0 has kernel s.dom0_cmd ramdisk (drop 1 places)) (extends-guests has s.guests facts.highest 0 s.guests rest (omega (arith, wide)) few) (beside_guests kernel ramdisk one two s.guests facts.highest 0 s.guests rest))
    (no_trees (((K ++ []) ++ R) ++ G)) in
    let ps : xen_properties s.xen_cmd ++ ((([] ++ C) ++ []) ++ []) ≡ xen_properties s.xen_cmd ++ C = ap (λ z. xen_properties s.xen_cmd ++ z) (append-nil (C ++ []) ∙ append-nil C) in
    let ts : ((K ++ []) ++ R) ++ G ≡ (K ++ R) ++ G = ap (λ z. (z ++ R) ++ G) (append-nil K) in
    subst (λ z. Extends has commands z ((K ++ R) ++ G)) ps (subst (λ z. Extends has commands (xen_properties s.xen_cmd ++ ((([] ++ C) ++ []) ++ [])) z) ts parts)
