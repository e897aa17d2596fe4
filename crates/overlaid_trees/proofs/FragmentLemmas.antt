-- Fragments, one after the other.
use Rattle.std.proofs.Common.{◌≡◌, ◌∙◌, ◌⊎◌, inl, inr, ap, sym, refl, ℕ, suc, ◌-◌, ◌+◌, ◌<◌, ◌≤◌, List, [], ◌∷◌, ◌++◌, Bool, true, false, cond, Option, Some, None, option_map, Result, Ok, Err, length, arith}
use Rattle.std.specs.Prelude.{bytes_eq, option_and_then, nat_le, nat_lt, ok_or, OnOk, IfErr, codes}
use Rattle.std.specs.Option.{option_map_or}
use Rattle.std.proofs.lemmas.Bool.Decides.{nat_tests}
use Rattle.fdt_tree.specs.Tree.{Bytes, Property, Trees, none, tree, Tree, Place, at, at_in, edit, first_named, depth, depth_limit}
use Rattle.fdt_tree.specs.Whole.{height}
use Rattle.fdt_tree.specs.Document.{Document, place_of, name_of, properties_of, children_of, node_at, next_place, if_there, IsNumbering}
use Rattle.fdt_tree.proofs.Edits.{at-below}
use Rattle.tree_parts.proofs.Growing.{stands}
use Rattle.overlaid_trees.specs.declared.fault.OverlayFault.{OverlayFault}
use Rattle.overlaid_trees.specs.declared.fault.OverlayFault.TheVariants.{NoTarget, Deep, Memory}
use Rattle.overlaid_trees.specs.Turns.{each, and_then}
use Rattle.overlaid_trees.specs.Values.{first_child}
use Rattle.overlaid_trees.specs.Merge.{Fragment, fragment_first, fragments, target_of, merged_at, merged_node, with_fragment, merged}
use Rattle.indexed_tree.specs.Lookups.{child_place}
use Rattle.overlaid_trees.specs.PrivateGrown.{one_tree, tree_of}
use Rattle.fdt_nodes.proofs.Siblings.{siblings_from, first-siblings, node-siblings}

-- the first child of a name is the node where it stands
first_child-at : (name : Bytes) (ts : Trees) → first_child name ts ≡ option_and_then (λ (x : ℕ × Trees). at_in ts x.0 []) (first_named name ts)
first_child-at name none = refl
first_child-at name (tree n ps cs rest) = by (first_child-at name rest) (bytes_eq n name)
  where
    later : (o : Option (ℕ × Trees)) → option_and_then (λ (x : ℕ × Trees). at_in rest x.0 []) o ≡ option_and_then (λ (x : ℕ × Trees). at_in (tree n ps cs rest) x.0 []) (option_map {U = ℕ × Trees} (λ found. (suc found.0, found.1)) o)
    later None = refl
    later (Some x) = refl

    by : first_child name rest ≡ option_and_then (λ (x : ℕ × Trees). at_in rest x.0 []) (first_named name rest) → (b : Bool) → cond b (Some (record { name = n; properties = ps; children = cs })) (first_child name rest) ≡ option_and_then (λ (x : ℕ × Trees). at_in (tree n ps cs rest) x.0 []) (cond b (Some (0, cs)) (option_map {U = ℕ × Trees} (λ found. (suc found.0, found.1)) (first_named name rest)))
    by go true = refl
    by go false = go ∙ later (first_named name rest)

-- there is no child of that name
pub content-none : (d : Document) (node : ℕ) (name : Bytes) → None ≡ child_place d node name → first_child name (children_of d node) ≡ None
content-none d node name is = first_child-at name (children_of d node) ∙ by (first_named name (children_of d node)) is
  where
    by : (o : Option (ℕ × Trees)) → None ≡ option_map (λ (found : ℕ × Trees). place_of d node ++ found.0 ∷ []) o → option_and_then (λ (x : ℕ × Trees). at_in (children_of d node) x.0 []) o ≡ None
    by None is = refl
    by (Some x) is = absurd (cc)

-- the child of that name
pub content-some : (d : Document) (node child : ℕ) (name : Bytes) → IsNumbering d → node < length d.places → child < length d.places → Some (place_of d child) ≡ child_place d node name → first_child name (children_of d node) ≡ Some (tree_of d child)
content-some d node child name numbering live child_live is =
    first_child-at name (children_of d node) ∙ by (first_named name (children_of d node)) is
  where
    u : (v : Tree) × (node_at d node ≡ Some v)
    u = stands d node numbering live

    w : (v : Tree) × (node_at d child ≡ Some v)
    w = stands d child numbering child_live

    below : children_of d node ≡ u.0.children
    below = ap (λ (o : Option Tree). option_map_or (λ (v : Tree). v.children) o none) u.1

    whole : tree_of d child ≡ w.0
    whole = ap (λ (o : Option Tree). record { name = option_map_or (λ (v : Tree). v.name) o []; properties = option_map_or (λ (v : Tree). v.properties) o []; children = option_map_or (λ (v : Tree). v.children) o none }) w.1

    by : (o : Option (ℕ × Trees)) → Some (place_of d child) ≡ option_map (λ (found : ℕ × Trees). place_of d node ++ found.0 ∷ []) o → option_and_then (λ (x : ℕ × Trees). at_in (children_of d node) x.0 []) o ≡ Some (tree_of d child)
    by None is = absurd (cc)
    by (Some x) is =
        let place : place_of d child ≡ place_of d node ++ x.0 ∷ [] = cc in
        ap (λ ts. at_in ts x.0 []) below ∙ (sym (at-below d.tree (place_of d node) (x.0 ∷ []) u.0 u.1) ∙ (ap (at d.tree) (sym place) ∙ (w.1 ∙ ap Some (sym whole))))

-- a fragment without a target
pub fragment-none : (t : Tree) (f : Fragment) → None ≡ target_of t f.properties → with_fragment t f ≡ Err (NoTarget f.name)
fragment-none t f is = ap (λ (o : Option Place). and_then (ok_or o (NoTarget f.name)) (merged_at t f)) (sym is)

merged_at-by : (t : Tree) (f : Fragment) (place : Place) (b : Bool) → nat_lt depth_limit (depth place + height f.content.children) ≡ b → merged_at t f place ≡ cond b (Err (Deep f.name)) (Ok (edit (merged_node f.content) t place))
merged_at-by t f place b is = ap (λ (c : Bool). cond c (Err (Deep f.name)) (Ok (edit (merged_node f.content) t place))) is

-- a fragment that would make a node too deep
pub fragment-deep : (t : Tree) (f : Fragment) (place : Place) (count : ℕ) → Some place ≡ target_of t f.properties → count ≡ depth place → count ≤ depth_limit → nat_le (height f.content.children) (depth_limit - count) ≡ false → with_fragment t f ≡ Err (Deep f.name)
fragment-deep t f place count is counted shallow deep =
    let past : nat_lt depth_limit (depth place + height f.content.children) ≡ true = grind (arith, nat_tests) in
    ap (λ (o : Option Place). and_then (ok_or o (NoTarget f.name)) (merged_at t f)) (sym is) ∙ merged_at-by t f place true past

-- a fragment that is merged
pub fragment-merged : (t : Tree) (f : Fragment) (place : Place) (count : ℕ) (made : Tree) → Some place ≡ target_of t f.properties → count ≡ depth place → count ≤ depth_limit → nat_le (height f.content.children) (depth_limit - count) ≡ true → made ≡ edit (merged_node f.content) t place → with_fragment t f ≡ Ok made
fragment-merged t f place count made is counted shallow fits edited =
    let within : nat_lt depth_limit (depth place + height f.content.children) ≡ false = grind (arith, nat_tests) in
    ap (λ (o : Option Place). and_then (ok_or o (NoTarget f.name)) (merged_at t f)) (sym is) ∙ (merged_at-by t f place false within ∙ ap Ok (sym edited))

-- a child of the root that is no fragment
pub child-none : (t : Tree) (name : Bytes) (properties : List Property) (children : Trees) → first_child (codes "__overlay__") children ≡ None → each with_fragment t (fragments (one_tree name properties children)) ≡ Ok t
child-none t name properties children is = ap (λ (o : Option Tree). each with_fragment t (fragment_first name properties o [])) is

-- a child of the root that is a fragment
pub child-some : (t : Tree) (name : Bytes) (properties : List Property) (children : Trees) (content : Tree) (result : Result Tree OverlayFault) → first_child (codes "__overlay__") children ≡ Some content → with_fragment t (record { name = name; properties = properties; content = content }) ≡ result → each with_fragment t (fragments (one_tree name properties children)) ≡ result
child-some t name properties children content result is done =
    ap (λ (o : Option Tree). each with_fragment t (fragment_first name properties o [])) is ∙ (ap (λ (r : Result Tree OverlayFault). elim r [ Ok next ↦ Ok next | Err fault ↦ Err fault ]) done ∙ same result)
  where
    same : (r : Result Tree OverlayFault) → elim r [ Ok next ↦ Ok next | Err fault ↦ Err fault ] ≡ r
    same (Ok next) = refl
    same (Err fault) = refl

-- the same of what merging the fragment answers
pub child-ok : {A E : Type 0} (result : Result A E) (t made : Tree) (name : Bytes) (properties : List Property) (children : Trees) (content : Tree) → first_child (codes "__overlay__") children ≡ Some content → OnOk result (with_fragment t (record { name = name; properties = properties; content = content }) ≡ Ok made) → OnOk result (each with_fragment t (fragments (one_tree name properties children)) ≡ Ok made)
child-ok (Ok done) t made name properties children content is merged = child-some t name properties children content (Ok made) is merged
child-ok (Err failed) t made name properties children content is merged = tt

pub child-refused : {A : Type 0} (result : Result A OverlayFault) (t : Tree) (name : Bytes) (properties : List Property) (children : Trees) (content : Tree) → first_child (codes "__overlay__") children ≡ Some content → IfErr result (λ fault. (fault ≡ Memory) ⊎ (with_fragment t (record { name = name; properties = properties; content = content }) ≡ Err fault)) → IfErr result (λ fault. (fault ≡ Memory) ⊎ (each with_fragment t (fragments (one_tree name properties children)) ≡ Err fault))
child-refused (Ok done) t name properties children content is refused = tt
child-refused (Err fault) t name properties children content is (inl memory) = inl memory
child-refused (Err fault) t name properties children content is (inr refused) = inr (child-some t name properties children content (Err fault) is refused)

-- a child of the root, and then the others
fragments-then : (t : Tree) (name : Bytes) (properties : List Property) (children rest : Trees) → each with_fragment t (fragments (tree name properties children rest)) ≡ and_then (each with_fragment t (fragments (one_tree name properties children))) (λ now. each with_fragment now (fragments rest))
fragments-then t name properties children rest = by (first_child (codes "__overlay__") children)
  where
    inside : (r : Result Tree OverlayFault) → elim r [ Ok next ↦ each with_fragment next (fragments rest) | Err fault ↦ Err fault ] ≡ and_then (elim r [ Ok next ↦ Ok next | Err fault ↦ Err fault ]) (λ now. each with_fragment now (fragments rest))
    inside (Ok next) = refl
    inside (Err fault) = refl

    by : (o : Option Tree) → each with_fragment t (fragment_first name properties o (fragments rest)) ≡ and_then (each with_fragment t (fragment_first name properties o [])) (λ now. each with_fragment now (fragments rest))
    by None = refl
    by (Some content) = inside (with_fragment t (record { name = name; properties = properties; content = content }))

-- merging the children of the root from here on into the tree so far gives the whole
abbrev pub IsLeft : Tree → Document → Option ℕ → Tree → Type 0
IsLeft base overlay next now = each with_fragment now (fragments (siblings_from overlay next)) ≡ merged base overlay.tree

pub IsLeft-start : (base now : Tree) (overlay : Document) (root : ℕ) (next : Option ℕ) → IsNumbering overlay → root < length overlay.places → place_of overlay root ≡ [] → option_map (λ n. place_of overlay n) next ≡ if_there overlay (place_of overlay root ++ 0 ∷ []) → now ≡ base → IsLeft base overlay next now
IsLeft-start base now overlay root next numbering live top is same =
    ap (λ ts. each with_fragment now (fragments ts)) (first-siblings overlay root next (numbering.stand root live) is ∙ ap (λ (p : Place). option_map_or (λ (v : Tree). v.children) (at overlay.tree p) none) top) ∙ ap (λ (t : Tree). each with_fragment t (fragments overlay.tree.children)) same

module _ (base : Tree) (overlay : Document) (child : ℕ) (here next : Option ℕ) (now : Tree) (numbering : IsNumbering overlay) (live : child < length overlay.places) (is : here ≡ Some child) (following : option_map (λ n. place_of overlay n) next ≡ option_and_then (λ p. if_there overlay p) (next_place (place_of overlay child))) (left : IsLeft base overlay here now) where
  -- the child's own fragments, and then those after it
  split : and_then (each with_fragment now (fragments (one_tree (name_of overlay child) (properties_of overlay child) (children_of overlay child)))) (λ done. each with_fragment done (fragments (siblings_from overlay next))) ≡ merged base overlay.tree
  split =
      sym (fragments-then now (name_of overlay child) (properties_of overlay child) (children_of overlay child) (siblings_from overlay next)) ∙ (ap (λ ts. each with_fragment now (fragments ts)) (sym (ap (siblings_from overlay) is ∙ node-siblings overlay child next (numbering.stand child live) following)) ∙ left)

  pub IsLeft-next : (done : Tree) → each with_fragment now (fragments (one_tree (name_of overlay child) (properties_of overlay child) (children_of overlay child))) ≡ Ok done → IsLeft base overlay next done
  IsLeft-next done one = sym (ap (λ (r : Result Tree OverlayFault). and_then r (λ t. each with_fragment t (fragments (siblings_from overlay next)))) one) ∙ split

  pub IsLeft-stop : (fault : OverlayFault) → each with_fragment now (fragments (one_tree (name_of overlay child) (properties_of overlay child) (children_of overlay child))) ≡ Err fault → merged base overlay.tree ≡ Err fault
  IsLeft-stop fault one = sym (sym (ap (λ (r : Result Tree OverlayFault). and_then r (λ t. each with_fragment t (fragments (siblings_from overlay next)))) one) ∙ split)

-- no child of the root is left
pub IsLeft-end : (base now : Tree) (overlay : Document) (next : Option ℕ) → next ≡ None → IsLeft base overlay next now → merged base overlay.tree ≡ Ok now
IsLeft-end base now overlay next end left = sym left ∙ ap (λ (o : Option ℕ). each with_fragment now (fragments (siblings_from overlay o))) end
