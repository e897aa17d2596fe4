-- The words that local fixups list, node by node.
use Rattle.std.proofs.Common.{◌≡◌, ◌∙◌, ap, sym, refl, ℕ, zero, suc, ◌+◌, ◌<◌, ◌≤◌, length, List, [], ◌∷◌, Bool, true, false, cond, Some, None, Result, Ok, Err, drop, map, get_or, slice_get, arith}
use Rattle.std.specs.Prelude.{option_and_then, ok_or, nat_lt, codes}
use Rattle.std.specs.Option.{option_map_or}
use Rattle.std.proofs.lemmas.Bool.Decides.{nat_tests}
use Rattle.fdt_tree.specs.Tree.{Bytes, Tree, find_place}
use Rattle.fdt_tree.specs.Phandles.{highest_phandle}
use Rattle.fdt_nodes.specs.Nodes.{Node, descendants, node_found, shown}
use Rattle.overlaid_trees.specs.declared.fault.OverlayFault.{OverlayFault}
use Rattle.overlaid_trees.specs.declared.fault.OverlayFault.TheVariants.{PhandleRange, BadLocal}
use Rattle.overlaid_trees.specs.Turns.{each, all}
use Rattle.overlaid_trees.specs.Words.{last_phandle, moved}
use Rattle.overlaid_trees.specs.Shift.{local_path, local_fixups, spoken_path, moved_by_property, moved_by_node, moved_tree, shifted}

-- nothing is left behind the end
pub drop-past : (xs : List ℕ) (n : ℕ) → length xs ≤ n → drop n xs ≡ []
drop-past [] zero h = refl
drop-past [] (suc n) h = refl
drop-past (x ∷ xs) zero h = absurd (omega arith)
drop-past (x ∷ xs) (suc n) h = drop-past xs n (omega arith)

-- a path that is no longer than the prefix speaks of the root
pub spoken-root : (path : Bytes) → length path ≤ 17 → codes "/" ≡ shown (drop 17 path)
spoken-root path short = ap shown (sym (drop-past path 17 short))

-- a path that is there is shown as it is
pub shown-some : (path : Bytes) → 0 < length path → path ≡ shown path
shown-some [] some = absurd (omega arith)
shown-some (b ∷ path) some = refl

-- the root's path is no longer than the prefix, either way it is written
pub behind-shown : (path : Bytes) → drop 17 (shown path) ≡ drop 17 path
behind-shown [] = refl
behind-shown (b ∷ path) = refl

-- a node's words are moved
pub node-done : (by : ℕ) (whole made : Tree) (node : Node) (spoken : Bytes) → spoken ≡ spoken_path node → option_and_then (λ place. all (moved_by_property by place) whole node.properties) (find_place whole spoken) ≡ Some made → moved_by_node by whole node ≡ Ok made
node-done by whole made node spoken same done =
    ap (λ path. ok_or (option_and_then (λ place. all (moved_by_property by place) whole node.properties) (find_place whole path)) (BadLocal (spoken_path node))) (sym same) ∙ ap (λ o. ok_or o (BadLocal (spoken_path node))) done

-- a node is at fault
pub node-missing : (by : ℕ) (whole : Tree) (node : Node) (spoken name : Bytes) → spoken ≡ spoken_path node → name ≡ spoken → option_and_then (λ place. all (moved_by_property by place) whole node.properties) (find_place whole spoken) ≡ None → moved_by_node by whole node ≡ Err (BadLocal name)
node-missing by whole node spoken name same named missing =
    ap (λ path. ok_or (option_and_then (λ place. all (moved_by_property by place) whole node.properties) (find_place whole path)) (BadLocal (spoken_path node))) (sym same) ∙ (ap (λ o. ok_or o (BadLocal (spoken_path node))) missing ∙ ap (λ path. Err (BadLocal path)) (sym (named ∙ same)))

-- an item of a list, seen by a function
pub get-map : {A B : Type 0} (f : A → B) (xs : List A) (i : ℕ) (x : A) → slice_get xs i ≡ Some x → slice_get (map f xs) i ≡ Some (f x)
get-map f [] i x at = absurd (cc)
get-map f (y ∷ xs) zero x at = let same : y ≡ x = cc in ap (λ z. Some (f z)) same
get-map f (y ∷ xs) (suc i) x at = get-map f xs i x at

-- an item that was read from a list
pub get-is : {A : Type 0} (xs : List A) (i : ℕ) (x : A) → x ≡ get_or xs i x → i < length xs → slice_get xs i ≡ Some x
get-is [] i x is low = absurd (omega arith)
get-is (y ∷ xs) zero x is low = ap (λ z. Some z) (sym is)
get-is (y ∷ xs) (suc i) x is low = get-is xs i x is (omega arith)

-- no local fixups
pub local-none : (by : ℕ) (whole overlay : Tree) → None ≡ node_found overlay local_path → each (moved_by_node by) whole (local_fixups overlay) ≡ Ok whole
local-none by whole overlay is = ap (λ o. each (moved_by_node by) whole (option_map_or (λ (node : Node). node ∷ descendants node) o [])) (sym is)

-- local fixups are their first node and all below it
local-some : (overlay : Tree) (node : Node) → Some node ≡ node_found overlay local_path → local_fixups overlay ≡ node ∷ descendants node
local-some overlay node is = ap (λ o. option_map_or (λ (node : Node). node ∷ descendants node) o []) (sym is)

-- the first node is done, and the others are left
pub local-next : (by : ℕ) (whole next overlay : Tree) (node : Node) (below : List Node) → Some node ≡ node_found overlay local_path → below ≡ descendants node → moved_by_node by whole node ≡ Ok next → each (moved_by_node by) whole (local_fixups overlay) ≡ each (moved_by_node by) next below
local-next by whole next overlay node below is same done =
    ap (each (moved_by_node by) whole) (local-some overlay node is) ∙ (ap (λ r. elim r [ Ok next ↦ each (moved_by_node by) next (descendants node) | Err fault ↦ Err fault ]) done ∙ ap (each (moved_by_node by) next) (sym same))

-- the first node is at fault
pub local-stop : (by : ℕ) (whole overlay : Tree) (node : Node) (fault : OverlayFault) → Some node ≡ node_found overlay local_path → moved_by_node by whole node ≡ Err fault → each (moved_by_node by) whole (local_fixups overlay) ≡ Err fault
local-stop by whole overlay node fault is stop =
    ap (each (moved_by_node by) whole) (local-some overlay node is) ∙ ap (λ r. elim r [ Ok next ↦ each (moved_by_node by) next (descendants node) | Err fault ↦ Err fault ]) stop

-- a sum that is no phandle
pub past-last : (a b : ℕ) → None ≡ moved a b → last_phandle < b + a
past-last a b is = by_test (nat_lt last_phandle (b + a)) refl is
  where
    by_test : (t : Bool) → nat_lt last_phandle (b + a) ≡ t → None ≡ cond t None (Some (b + a)) → last_phandle < b + a
    by_test true e is = grind (arith, nat_tests)
    by_test false e is = absurd (cc)

-- a sum that is one
pub within-last : (a b sum : ℕ) → Some sum ≡ moved a b → b + a ≤ last_phandle
within-last a b sum is = by_test (nat_lt last_phandle (b + a)) refl is
  where
    by_test : (t : Bool) → nat_lt last_phandle (b + a) ≡ t → Some sum ≡ cond t None (Some (b + a)) → b + a ≤ last_phandle
    by_test true e is = absurd (cc)
    by_test false e is = grind (arith, nat_tests)

-- an overlay above a base, by the greatest phandles of the two
abbrev pub shifted_by : ℕ → ℕ → Tree → Result Tree OverlayFault
shifted_by by most overlay =
    cond (nat_lt last_phandle (by + most)) (Err PhandleRange) (each (moved_by_node by) (moved_tree by overlay) (local_fixups overlay))

shifted-by : (base overlay : Tree) (by most : ℕ) → by ≡ highest_phandle base → most ≡ highest_phandle overlay → shifted base overlay ≡ shifted_by by most overlay
shifted-by base overlay by most low high =
    sym (ap (λ n. shifted_by n most overlay) low ∙ ap (λ n. shifted_by (highest_phandle base) n overlay) high)

-- the greatest phandle would be none
pub shifted-past : (base overlay : Tree) (by most : ℕ) → by ≡ highest_phandle base → most ≡ highest_phandle overlay → last_phandle < most + by → shifted base overlay ≡ Err PhandleRange
shifted-past base overlay by most low high past =
    let test : nat_lt last_phandle (by + most) ≡ true = grind (arith, nat_tests) in
    shifted-by base overlay by most low high ∙ ap (λ t. cond t (Err PhandleRange) (each (moved_by_node by) (moved_tree by overlay) (local_fixups overlay))) test

-- all phandles stay phandles
pub shifted-within : (base overlay moved : Tree) (by most : ℕ) → by ≡ highest_phandle base → most ≡ highest_phandle overlay → most + by ≤ last_phandle → moved ≡ moved_tree by overlay → shifted base overlay ≡ each (moved_by_node by) moved (local_fixups overlay)
shifted-within base overlay moved by most low high within is =
    let test : nat_lt last_phandle (by + most) ≡ false = grind (arith, nat_tests) in
    shifted-by base overlay by most low high ∙ (ap (λ t. cond t (Err PhandleRange) (each (moved_by_node by) (moved_tree by overlay) (local_fixups overlay))) test ∙ ap (λ (t : Tree). each (moved_by_node by) t (local_fixups overlay)) (sym is))
