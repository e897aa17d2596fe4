-- A guest with its modules, shared regions and event channels is added whole.
use Rattle.std.proofs.Common.{◌≡◌, ℕ, ◌+◌, ◌<◌, ◌==◌, Bool, true, false, not, ◌&&◌, ◌||◌, List, [], ◌∷◌, ◌++◌, map, Option, Some, None, Ok, option_and_then, refl, sym, ap, subst, ◌∙◌, arith, append_assoc, append-nil}
use Rattle.std.specs.Prelude.{codes, bytes_eq, is_some, flat_map}
use Rattle.std.specs.List.{enumerate_from}
use Rattle.std.proofs.lemmas.Bool.{and_parts}
use Rattle.fdt_tree.specs.Tree.{Bytes, Property, Trees, none, tree, Tree, with_last}
use Rattle.fdt_tree.specs.PathEdits.{has_named}
use Rattle.script_run.specs.Edited.{at_first, trees_of, with_trees, leaf, guest_modules, guest_properties, guest_tree}
use Rattle.script_run.specs.Effect.{steps, first_address}
use Rattle.ib_script.specs.Phandles.{first_phandle}
use Rattle.std.specs.Int.{w32, to_be_bytes}
use Rattle.std.proofs.lemmas.Grind.{flat_map-append}
use Rattle.fdt_tree.specs.Tree.{components}
use Rattle.ib_config.specs.declared.guests.Guest.{Guest}
use Rattle.ib_config.specs.declared.groups.ShmGroup.{ShmGroup}
use Rattle.ib_config.specs.declared.groups.PortGroup.{PortGroup}
use Rattle.ib_placement.specs.declared.places.FilePlace.{FilePlace}
use Rattle.ib_script.specs.Properties.{two_cells, below, numbered, on, module_at, place_at, one_if}
use Rattle.ib_script.specs.Guests.{guest_path, kernel_commands, other_modules, shared_commands, channel_commands, port_commands, domain_commands, module_commands, link_commands, guest_commands}
use Rattle.ib_script.specs.declared.command.Command.{Command}
use Rattle.script_run.specs.Edited as edited
use Rattle.script_run.proofs.NodeEdits.{Edit, Add, Put, apply_all, apply_all-append, all_under, under, puts, puts-new, make_leaf, leaf_made, are_new, whole, in_child, below_all}
use Rattle.script_run.proofs.EditSteps.{AllSay, AllSay-append, says-steps, is_component, components-path}
use Rattle.script_run.proofs.GuestEdits.{domain, chosen, guest_way, domain_component, domain_some, all_decimal, at_guest, at_guest-is, node_edits, says-domain, names, add_whole}
use Rattle.script_run.proofs.GoodPaths.{child_path-is}
use Rattle.std.specs.Fmt.{digit_glyph}
use Rattle.std.proofs.lemmas.Bool.Decides.{nat_tests}

-- a tree without children, whose properties have names of their own
abbrev pub is_leaf : Tree → Type 0
is_leaf t = (t.children ≡ none) × (bytes_eq t.name [] ≡ false) × (are_new [] t.properties ≡ true)

abbrev pub AllLeaves : List Tree → Type 0
AllLeaves [] = Unit {0}
AllLeaves (t ∷ ts) = is_leaf t × AllLeaves ts

-- each name is new where the trees before it were added
abbrev pub all_fresh : List Tree → Trees → Bool
all_fresh [] trees = true
all_fresh (t ∷ ts) trees = not (has_named t.name trees) && all_fresh ts (with_last trees t.name t.properties t.children)

-- the edits that make leaves
abbrev pub make_leaves : List Tree → List Edit
make_leaves ts = flat_map (λ (t : Tree). make_leaf t.name t.properties) ts

off : (b : Bool) → not b ≡ true → b ≡ false
off true e = cc
off false e = refl

-- Leaves that are made one after the other are added as last children.
pub leaves_made : (ts : List Tree) (u : Tree) → AllLeaves ts → all_fresh ts u.children ≡ true → apply_all (make_leaves ts) u ≡ Some (record u { children = with_trees ts u.children })
leaves_made [] u l f = refl
leaves_made (t ∷ ts) u l f =
    let k = and_parts (not (has_named t.name u.children)) (all_fresh ts (with_last u.children t.name t.properties t.children)) f in
    let one : apply_all (make_leaf t.name t.properties) u ≡ Some (record u { children = with_last u.children t.name t.properties t.children }) =
    leaf_made t.name t.properties u l.0.1 (off (has_named t.name u.children) k.0) l.0.2 ∙ ap (λ cs. Some (record u { children = with_last u.children t.name t.properties cs })) (sym l.0.0) in
    apply_all-append (make_leaf t.name t.properties) (make_leaves ts) u
    ∙ (ap (option_and_then (apply_all (make_leaves ts))) one ∙ leaves_made ts (record u { children = with_last u.children t.name t.properties t.children }) l.1 k.1)

-- trees added to none are these trees
abbrev last_of : Trees → List Tree → Trees
last_of none ts = trees_of ts
last_of (tree n ps cs rest) ts = tree n ps cs (last_of rest ts)

last_one : (trees : Trees) (t : Tree) (ts : List Tree) → last_of (with_last trees t.name t.properties t.children) ts ≡ last_of trees (t ∷ ts)
last_one none t ts = refl
last_one (tree n ps cs rest) t ts = ap (tree n ps cs) (last_one rest t ts)

last_none : (trees : Trees) → last_of trees [] ≡ trees
last_none none = refl
last_none (tree n ps cs rest) = ap (tree n ps cs) (last_none rest)

with_trees-is : (ts : List Tree) (trees : Trees) → with_trees ts trees ≡ last_of trees ts
with_trees-is [] trees = sym (last_none trees)
with_trees-is (t ∷ ts) trees = with_trees-is ts (with_last trees t.name t.properties t.children) ∙ last_one trees t ts

pub with_trees-none : (ts : List Tree) → with_trees ts none ≡ trees_of ts
with_trees-none ts = with_trees-is ts none

-- A name that none of the trees has is new.
abbrev pub has_tree : Bytes → List Tree → Bool
has_tree name [] = false
has_tree name (t ∷ ts) = bytes_eq t.name name || has_tree name ts

-- The edits of a guest's children, from the root.
abbrev pub leaf_at : ℕ → Bytes → List Property → List Edit
leaf_at n name ps = Add (chosen ∷ domain n ∷ []) name ∷ map (λ (p : Property). Put (chosen ∷ domain n ∷ name ∷ []) p.0 p.1) ps

abbrev pub leaves_at : ℕ → List Tree → List Edit
leaves_at n ts = flat_map (λ (t : Tree). leaf_at n t.name t.properties) ts

puts_at : (n : ℕ) (name : Bytes) (ps : List Property) → all_under chosen (all_under (domain n) (all_under name (puts ps))) ≡ map (λ (p : Property). Put (chosen ∷ domain n ∷ name ∷ []) p.0 p.1) ps
puts_at n name [] = refl
puts_at n name (p ∷ ps) = ap (λ es. Put (chosen ∷ domain n ∷ name ∷ []) p.0 p.1 ∷ es) (puts_at n name ps)

pub under-append : (name : Bytes) (es fs : List Edit) → all_under name (es ++ fs) ≡ all_under name es ++ all_under name fs
under-append name [] fs = refl
under-append name (e ∷ es) fs = ap (λ gs. under name e ∷ gs) (under-append name es fs)

pub leaves_at-is : (n : ℕ) (ts : List Tree) → all_under chosen (all_under (domain n) (make_leaves ts)) ≡ leaves_at n ts
leaves_at-is n [] = refl
leaves_at-is n (t ∷ ts) =
    ap (all_under chosen) (under-append (domain n) (make_leaf t.name t.properties) (make_leaves ts)) ∙ (under-append chosen (all_under (domain n) (make_leaf t.name t.properties)) (all_under (domain n) (make_leaves ts))
    ∙ (ap (λ es. (Add (chosen ∷ domain n ∷ []) t.name ∷ es) ++ all_under chosen (all_under (domain n) (make_leaves ts))) (puts_at n t.name t.properties) ∙ ap (λ es. leaf_at n t.name t.properties ++ es) (leaves_at-is n ts)))

leaves_at-append : (n : ℕ) (ts us : List Tree) → leaves_at n (ts ++ us) ≡ leaves_at n ts ++ leaves_at n us
leaves_at-append n ts us = flat_map-append (λ (t : Tree). leaf_at n t.name t.properties) ts us

-- the way to a child of a guest
pub child_way : (n : ℕ) (child : Bytes) → is_component child ≡ true → components (below (guest_path n) child) ≡ Some (chosen ∷ domain n ∷ child ∷ [])
child_way n child h = ap components (child_path-is n child) ∙ components-path chosen (domain n ∷ child ∷ []) refl (rw (domain_component n, h) refl)

no_slash_digit : (d : ℕ) → d < 10 → not (digit_glyph false d == 47) ≡ true
no_slash_digit d h = grind (arith, nat_tests)

shm_component : (k : ℕ) → is_component (numbered (codes "shm") k) ≡ true
unfolding numbered
shm_component k = all_decimal (λ c. not (c == 47)) no_slash_digit k

evtchn_component : (k : ℕ) → is_component (numbered (codes "evtchn") k) ≡ true
unfolding numbered
evtchn_component k = all_decimal (λ c. not (c == 47)) no_slash_digit k

-- the bytes of cells
abbrev cell_bytes : List ℕ → List ℕ
cell_bytes ns = flat_map (to_be_bytes w32) ns

says-module : (n : ℕ) (name kind : Bytes) (place : FilePlace) → is_component name ≡ true → AllSay (module_at (guest_path n) name kind place) (leaf_at n name (edited.module_tree name kind place []).properties)
unfolding module_at
says-module n name kind place h =
    ((guest_way n, refl, omega arith), ((child_way n name h, refl, refl), ((child_way n name h, refl, append-nil (cell_bytes (two_cells place.address ++ two_cells place.size))), tt)))

says-kernel : (n : ℕ) (cmd : Option Bytes) (place : FilePlace)
    → AllSay (kernel_commands (guest_path n) cmd place) (leaf_at n (codes "kernel") (edited.module_tree (codes "kernel") (codes "kernel") place (edited.where_some cmd (λ cmd. edited.texts_property (codes "bootargs") (cmd ∷ []) ∷ []))).properties)
unfolding kernel_commands module_at
says-kernel n None place =
    ((guest_way n, refl, omega arith), ((child_way n (codes "kernel") refl, refl, refl), ((child_way n (codes "kernel") refl, refl, append-nil (cell_bytes (two_cells place.address ++ two_cells place.size))), tt)))
says-kernel n (Some cmd) place =
    ((guest_way n, refl, omega arith), ((child_way n (codes "kernel") refl, refl, refl), ((child_way n (codes "kernel") refl, refl, append-nil (cell_bytes (two_cells place.address ++ two_cells place.size))), ((child_way n (codes "kernel") refl, refl, refl), tt))))

says-on : (n : ℕ) (test : Bool) (cs : List Command) (t : Tree) → AllSay cs (leaf_at n t.name t.properties) → AllSay (on test cs) (leaves_at n (edited.where_set test (t ∷ [])))
says-on n true cs t h = subst (λ es. AllSay cs es) (sym (append-nil (leaf_at n t.name t.properties))) h
says-on n false cs t h = tt

says-shared : (n : ℕ) (kg : ℕ × ShmGroup) → AllSay (shared_commands (guest_path n) kg) (leaf_at n (edited.shared_tree kg).name (edited.shared_tree kg).properties)
unfolding shared_commands
says-shared n (k, g) =
    let child = child_way n (numbered (codes "shm") k) (shm_component k) in
    ((guest_way n, refl, omega arith), ((child, refl, refl), ((child, refl, refl), ((child, refl, append-nil (cell_bytes (two_cells g.host ++ two_cells g.guest ++ two_cells g.size))), tt))))

says-port : (n : ℕ) (guests : List Guest) (highest first : ℕ) (kg : ℕ × PortGroup) → AllSay (port_commands (guest_path n) guests highest first kg) (leaf_at n (edited.port_tree guests highest first kg).name (edited.port_tree guests highest first kg).properties)
unfolding port_commands channel_commands
says-port n guests highest first (k, g) =
    let child = child_way n (numbered (codes "evtchn") k) (evtchn_component k) in
    ((guest_way n, refl, omega arith), ((child, refl, refl), ((child, refl, refl), ((child, refl, refl), tt))))

says-each : {A : Type 0} (n : ℕ) (f : A → List Command) (g : A → Tree) → ((x : A) → AllSay (f x) (leaf_at n (g x).name (g x).properties)) → (xs : List A) → AllSay (flat_map f xs) (leaves_at n (map g xs))
says-each n f g each [] = tt
says-each n f g each (x ∷ xs) = AllSay-append (f x) (flat_map f xs) (leaf_at n (g x).name (g x).properties) (leaves_at n (map g xs)) (each x) (says-each n f g each xs)

says-others : (n : ℕ) (ramdisk partial : Bool) (places : List FilePlace) → AllSay (other_modules (guest_path n) ramdisk partial places)
    (leaves_at n (edited.where_set ramdisk (edited.module_tree (codes "ramdisk") (codes "ramdisk") (place_at places 1) [] ∷ []))
    ++ leaves_at n (edited.where_set partial (edited.module_tree (codes "passthrough") (codes "device-tree") (place_at places (1 + one_if ramdisk)) [] ∷ [])))
unfolding other_modules
says-others n ramdisk partial places =
    AllSay-append _ _ _ _ (says-on n ramdisk _ (edited.module_tree (codes "ramdisk") (codes "ramdisk") (place_at places 1) []) (says-module n (codes "ramdisk") (codes "ramdisk") (place_at places 1) refl))
    (says-on n partial _ (edited.module_tree (codes "passthrough") (codes "device-tree") (place_at places (1 + one_if ramdisk)) []) (says-module n (codes "passthrough") (codes "device-tree") (place_at places (1 + one_if ramdisk)) refl))

says-modules : (n : ℕ) (g : Guest) (places : List FilePlace) → AllSay (module_commands n g places) (leaves_at n (guest_modules g places))
unfolding module_commands
says-modules n g places =
    let kernel : Tree = edited.module_tree (codes "kernel") (codes "kernel") (place_at places 0) (edited.where_some g.cmd (λ cmd. edited.texts_property (codes "bootargs") (cmd ∷ []) ∷ [])) in
    let ramdisk : List Tree = edited.where_set (is_some g.ramdisk) (edited.module_tree (codes "ramdisk") (codes "ramdisk") (place_at places 1) [] ∷ []) in
    let partial : List Tree = edited.where_set (is_some g.passthrough_dtb) (edited.module_tree (codes "passthrough") (codes "device-tree") (place_at places (1 + one_if (is_some g.ramdisk))) [] ∷ []) in
    subst (λ es. AllSay (kernel_commands (guest_path n) g.cmd (place_at places 0) ++ other_modules (guest_path n) (is_some g.ramdisk) (is_some g.passthrough_dtb) places) (leaf_at n kernel.name kernel.properties ++ es))
    (sym (leaves_at-append n ramdisk partial))
    (AllSay-append _ _ (leaf_at n kernel.name kernel.properties) _ (says-kernel n g.cmd (place_at places 0)) (says-others n (is_some g.ramdisk) (is_some g.passthrough_dtb) places))

-- the regions and channels of a guest
abbrev shared_of : Guest → List Tree
shared_of g = map edited.shared_tree (enumerate_from 0 g.shared_mem)

abbrev ports_of : List Guest → ℕ → ℕ → Guest → List Tree
ports_of guests highest n g = map (edited.port_tree guests highest (first_phandle guests highest n)) (enumerate_from 0 g.evtchns)

abbrev pub children_of : List Guest → ℕ → ℕ → Guest → List FilePlace → List Tree
children_of guests highest n g places = guest_modules g places ++ shared_of g ++ ports_of guests highest n g

says-links : (n : ℕ) (guests : List Guest) (highest : ℕ) (g : Guest) → AllSay (link_commands guests highest n g) (leaves_at n (shared_of g) ++ leaves_at n (ports_of guests highest n g))
unfolding link_commands
says-links n guests highest g =
    AllSay-append _ _ _ _ (says-each n (shared_commands (guest_path n)) edited.shared_tree (says-shared n) (enumerate_from 0 g.shared_mem))
    (says-each n (port_commands (guest_path n) guests highest (first_phandle guests highest n)) (edited.port_tree guests highest (first_phandle guests highest n)) (says-port n guests highest (first_phandle guests highest n)) (enumerate_from 0 g.evtchns))

-- The edits of a whole guest.
abbrev pub guest_edits : List Guest → ℕ → ℕ → Guest → List FilePlace → List Edit
guest_edits guests highest n g places = node_edits n g ++ leaves_at n (children_of guests highest n g places)

pub says-guest : (guests : List Guest) (highest n : ℕ) (g : Guest) (places : List FilePlace) → AllSay (guest_commands guests highest n g places) (guest_edits guests highest n g places)
unfolding guest_commands
says-guest guests highest n g places =
    let M : List Edit = leaves_at n (guest_modules g places) in
    let S : List Edit = leaves_at n (shared_of g) in
    let P : List Edit = leaves_at n (ports_of guests highest n g) in
    subst (λ es. AllSay (domain_commands n g ++ module_commands n g places ++ link_commands guests highest n g) es)
    (append_assoc (node_edits n g) M (S ++ P) ∙ ap (λ es. node_edits n g ++ es) (sym (append_assoc M S P)
    ∙ sym (leaves_at-append n (guest_modules g places ++ shared_of g) (ports_of guests highest n g) ∙ ap (λ es. es ++ P) (leaves_at-append n (guest_modules g places) (shared_of g)))))
    (AllSay-append _ _ (node_edits n g ++ M) (S ++ P) (AllSay-append _ _ (node_edits n g) M (says-domain n g) (says-modules n g places)) (says-links n guests highest g))

-- All children of a guest are leaves.
AllLeaves-append : (ts us : List Tree) → AllLeaves ts → AllLeaves us → AllLeaves (ts ++ us)
AllLeaves-append [] us a b = b
AllLeaves-append (t ∷ ts) us a b = (a.0, AllLeaves-append ts us a.1 b)

AllLeaves-map : {A : Type 0} (f : A → Tree) → ((x : A) → is_leaf (f x)) → (xs : List A) → AllLeaves (map f xs)
AllLeaves-map f each [] = tt
AllLeaves-map f each (x ∷ xs) = (each x, AllLeaves-map f each xs)

AllLeaves-set : (test : Bool) (t : Tree) → is_leaf t → AllLeaves (edited.where_set test (t ∷ []))
AllLeaves-set true t h = (h, tt)
AllLeaves-set false t h = tt

leaf-kernel : (cmd : Option Bytes) (place : FilePlace) → is_leaf (edited.module_tree (codes "kernel") (codes "kernel") place (edited.where_some cmd (λ cmd. edited.texts_property (codes "bootargs") (cmd ∷ []) ∷ [])))
leaf-kernel None place = (refl, refl, refl)
leaf-kernel (Some cmd) place = (refl, refl, refl)

leaf-shared : (kg : ℕ × ShmGroup) → is_leaf (edited.shared_tree kg)
unfolding numbered
leaf-shared (k, g) = (refl, refl, refl)

leaf-port : (guests : List Guest) (highest first : ℕ) (kg : ℕ × PortGroup) → is_leaf (edited.port_tree guests highest first kg)
unfolding numbered
leaf-port guests highest first (k, g) = (refl, refl, refl)

children_leaves : (guests : List Guest) (highest n : ℕ) (g : Guest) (places : List FilePlace) → AllLeaves (children_of guests highest n g places)
children_leaves guests highest n g places =
    let ramdisk : Tree = edited.module_tree (codes "ramdisk") (codes "ramdisk") (place_at places 1) [] in
    let partial : Tree = edited.module_tree (codes "passthrough") (codes "device-tree") (place_at places (1 + one_if (is_some g.ramdisk))) [] in
    AllLeaves-append (guest_modules g places ++ shared_of g) (ports_of guests highest n g)
    (AllLeaves-append (guest_modules g places) (shared_of g) (
      leaf-kernel g.cmd (place_at places 0),
      AllLeaves-append (edited.where_set (is_some g.ramdisk) (ramdisk ∷ [])) (edited.where_set (is_some g.passthrough_dtb) (partial ∷ []))
          (AllLeaves-set (is_some g.ramdisk) ramdisk (refl, refl, refl)) (AllLeaves-set (is_some g.passthrough_dtb) partial (refl, refl, refl)),
    )
    (AllLeaves-map edited.shared_tree leaf-shared (enumerate_from 0 g.shared_mem)))
    (AllLeaves-map (edited.port_tree guests highest (first_phandle guests highest n)) (leaf-port guests highest (first_phandle guests highest n)) (enumerate_from 0 g.evtchns))

-- A guest, added at once, where its children's names differ.
guest_filled : (guests : List Guest) (highest n : ℕ) (g : Guest) (places : List FilePlace) → all_fresh (children_of guests highest n g places) none ≡ true
    → apply_all (puts (guest_properties g) ++ make_leaves (children_of guests highest n g places)) (leaf (domain n) []) ≡ Some (guest_tree guests highest n g places)
guest_filled guests highest n g places fresh =
    apply_all-append (puts (guest_properties g)) (make_leaves (children_of guests highest n g places)) (leaf (domain n) [])
    ∙ (ap (option_and_then (apply_all (make_leaves (children_of guests highest n g places)))) (puts-new (guest_properties g) (leaf (domain n) []) (names g.mem_mib g.vcpus g.vpl011 g.static_mem g.direct_map g.evtchns))
    ∙ (leaves_made (children_of guests highest n g places) (leaf (domain n) (guest_properties g)) (children_leaves guests highest n g places) fresh
    ∙ ap (λ ts. Some (record (guest_tree guests highest n g places) { children = ts })) (with_trees-none (children_of guests highest n g places))))

pub guest_made : (guests : List Guest) (highest n : ℕ) (g : Guest) (places : List FilePlace) → all_fresh (children_of guests highest n g places) none ≡ true → (u : Tree)
    → apply_all (Add [] (domain n) ∷ all_under (domain n) (puts (guest_properties g) ++ make_leaves (children_of guests highest n g places))) u ≡ add_whole (guest_tree guests highest n g places) u
guest_made guests highest n g places fresh u = by (has_named (domain n) u.children) refl
  where
    by : (b : Bool) → has_named (domain n) u.children ≡ b
        → apply_all (Add [] (domain n) ∷ all_under (domain n) (puts (guest_properties g) ++ make_leaves (children_of guests highest n g places))) u ≡ add_whole (guest_tree guests highest n g places) u
    by true e = rw e refl
    by false e = whole (domain n) (puts (guest_properties g) ++ make_leaves (children_of guests highest n g places)) u (guest_tree guests highest n g places) (domain_some n) e (guest_filled guests highest n g places fresh) ∙ rw e refl

pub edits_under : (guests : List Guest) (highest n : ℕ) (g : Guest) (places : List FilePlace)
    → all_under chosen (Add [] (domain n) ∷ all_under (domain n) (puts (guest_properties g) ++ make_leaves (children_of guests highest n g places))) ≡ guest_edits guests highest n g places
edits_under guests highest n g places =
    let ts = children_of guests highest n g places in
    ap (λ es. Add (chosen ∷ []) (domain n) ∷ all_under chosen es) (under-append (domain n) (puts (guest_properties g)) (make_leaves ts))
    ∙ (ap (λ es. Add (chosen ∷ []) (domain n) ∷ es) (under-append chosen (all_under (domain n) (puts (guest_properties g))) (all_under (domain n) (make_leaves ts)))
    ∙ (ap (λ es. Add (chosen ∷ []) (domain n) ∷ es ++ all_under chosen (all_under (domain n) (make_leaves ts))) (at_guest-is n (guest_properties g))
    ∙ ap (λ es. Add (chosen ∷ []) (domain n) ∷ at_guest n (guest_properties g) ++ es) (leaves_at-is n ts)))

-- The commands of a whole guest, behind an Addr, add the guest's tree to the first `chosen`, where this has no child of its name.
pub guest_steps : (loaded : Bool) (before : List Command) (t u : Tree) (guests : List Guest) (highest n : ℕ) (g : Guest) (places : List FilePlace) → all_fresh (children_of guests highest n g places) none ≡ true
    → is_some (first_address before) ≡ true → has_named chosen t.children ≡ true → in_child (add_whole (guest_tree guests highest n g places)) chosen t ≡ Some u → steps loaded before (guest_commands guests highest n g places) t ≡ Ok u
guest_steps loaded before t u guests highest n g places fresh taken there made =
    let es = Add [] (domain n) ∷ all_under (domain n) (puts (guest_properties g) ++ make_leaves (children_of guests highest n g places)) in
    says-steps loaded before (guest_commands guests highest n g places) (guest_edits guests highest n g places) t u taken (says-guest guests highest n g places)
    (ap (λ fs. apply_all fs t) (sym (edits_under guests highest n g places))
    ∙ (below_all chosen es t refl there ∙ (ap (λ (f : Tree → Option Tree). in_child f chosen t) (λ j. λ v. guest_made guests highest n g places fresh v j) ∙ made)))
