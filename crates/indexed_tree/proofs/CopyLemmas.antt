-- Copies of trees, as a walk makes them.
use Rattle.std.proofs.Common.{◌≡◌, ◌∙◌, ap, sym, subst, refl, ℕ, ◌<◌, length, List, [], ◌∷◌, ◌++◌, Option, Some, None, option_map}
use Rattle.std.specs.Prelude.{option_and_then}
use Rattle.std.specs.Option.{option_map_or}
use Rattle.fdt_tree.specs.Tree.{Bytes, Property, Trees, none, tree, Tree, Place, at, edit, change_properties}
use Rattle.fdt_tree.specs.Document.{Document, empty, place_of, name_of, properties_of, children_of, with_node, next_place, if_there, IsNumbering}
use Rattle.tree_parts.specs.Grown.{joined, Grows, with_more, with_last_children}
use Rattle.tree_parts.proofs.Growing.{joined-none, Grows-nothing, Grows-more, Grows-inside, joined-twice}
use Rattle.fdt_nodes.proofs.Siblings.{siblings_from, first-siblings, node-siblings}

-- what a walk over the children of a node has done: the children before the next one are copied
pub record IsCopied (source : Document) (node : ℕ) (next : Option ℕ) (old new : Document) (parent : ℕ) : Type 0 where
  pub before : Trees
  pub parts : children_of source node ≡ joined before (siblings_from source next)
  pub copies : Grows old new parent before

pub IsCopied-start : (source : Document) (node : ℕ) (next : Option ℕ) (doc : Document) (parent : ℕ) → IsNumbering source → node < length source.places → option_map (λ n. place_of source n) next ≡ if_there source (place_of source node ++ 0 ∷ []) → IsCopied source node next doc doc parent
IsCopied-start source node next doc parent numbering live is = record {
  before = none;
  parts = sym (first-siblings source node next (numbering.stand node live) is);
  copies = Grows-nothing doc doc parent refl;
}

pub IsCopied-end : (source : Document) (node : ℕ) (next : Option ℕ) (old new : Document) (parent : ℕ) → next ≡ None → IsCopied source node next old new parent → Grows old new parent (children_of source node)
IsCopied-end source node next old new parent end so_far =
    let all : so_far.before ≡ children_of source node = sym (so_far.parts ∙ (ap (λ z. joined so_far.before (siblings_from source z)) end ∙ joined-none so_far.before)) in
    subst (λ (ts : Trees). Grows old new parent ts) all so_far.copies

pub IsCopied-next : (source : Document) (node child : ℕ) (here next : Option ℕ) (old now added done : Document) (parent copy : ℕ) → IsNumbering source → IsNumbering now → child < length source.places → parent < length old.places → parent < length now.places → here ≡ Some child → option_map (λ n. place_of source n) next ≡ option_and_then (λ p. if_there source p) (next_place (place_of source child)) → added ≡ with_node now (place_of now parent) (name_of source child) (properties_of source child) → copy ≡ length now.places → Grows added done copy (children_of source child) → IsCopied source node here old now parent → IsCopied source node next old done parent
IsCopied-next source node child here next old now added done parent copy numbering fine live first_live now_live is following made newest below so_far =
    let n = name_of source child in
    let ps = properties_of source child in
    let cs = children_of source child in
    let one : Trees = tree n ps cs none in
    record {
      before = joined so_far.before one;
      parts = so_far.parts ∙ (ap (λ z. joined so_far.before (siblings_from source z)) is ∙ (ap (joined so_far.before) (node-siblings source child next (numbering.stand child live) following) ∙ sym (joined-twice so_far.before one (siblings_from source next))));
      copies = Grows-more old now done parent so_far.before one first_live so_far.copies (Grows-inside now added done parent copy n ps cs fine now_live made newest below);
    }

-- a whole tree: the root with its properties, and then its children
whole : (start given done : Document) (root : ℕ) (ps : List Property) (ts : Trees) → start ≡ empty → place_of start root ≡ [] → given ≡ with_more start root ps → Grows given done root ts → done.tree ≡ record { name = []; properties = ps; children = ts }
whole start given done root ps ts fresh top has grown =
    let place : place_of given root ≡ [] = ap (λ (z : Document). place_of z root) has ∙ top in
    grown.tree ∙ (ap (edit (with_last_children ts) given.tree) place ∙ (ap (λ (z : Document). with_last_children ts z.tree) has ∙ (ap (λ p. with_last_children ts (edit (change_properties (λ qs. qs ++ ps)) start.tree p)) top ∙ ap (λ (z : Document). with_last_children ts (change_properties (λ qs. qs ++ ps) z.tree)) fresh)))

-- a copy of a whole tree is made
pub copy-made : (s start given done : Document) (from root : ℕ) → place_of s from ≡ [] → s.tree.name ≡ [] → start ≡ empty → place_of start root ≡ [] → given ≡ with_more start root (properties_of s from) → Grows given done root (children_of s from) → done.tree ≡ s.tree
copy-made s start given done from root stands unnamed fresh top has grown =
    whole start given done root (properties_of s from) (children_of s from) fresh top has grown
    ∙ (ap (λ (p : Place). record { name = []; properties = option_map_or (λ (n : Tree). n.properties) (at s.tree p) []; children = option_map_or (λ (n : Tree). n.children) (at s.tree p) none }) stands
    ∙ ap (λ (n : Bytes). record { name = n; properties = s.tree.properties; children = s.tree.children }) (sym unnamed))
