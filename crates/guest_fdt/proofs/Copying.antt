-- Copying properties and nodes.
use Rattle.std.proofs.Common.{◌≡◌, ◌∙◌, ap, sym, subst, refl, ℕ, zero, suc, ◌+◌, ◌<◌, length, List, [], ◌∷◌, ◌++◌, Option, Some, None, option_map, take, Bool, true, false, not, cond, slice_get, arith}
use Rattle.std.specs.Prelude.{option_and_then, IsSome}
use Rattle.fdt_tree.specs.Tree.{Bytes, Property, Trees, none, tree, Tree, Place, at, find_place}
use Rattle.fdt_tree.specs.Document.{Document, place_of, node_at, name_of, properties_of, children_of, with_node, next_place, if_there, IsNumbering}
use Rattle.std.specs.Option.{option_map_or, option_to_list}
use Rattle.tree_parts.specs.Nodes.{trees_of}
use Rattle.guest_fdt.specs.Copies.{is_binding, kept, cleaned, cleaned_in, copied}
use Rattle.tree_parts.specs.Grown.{joined, Grows}
use Rattle.tree_parts.proofs.Growing.{joined-none, Grows-nothing, Grows-more, Grows-inside, joined-twice}
use Rattle.fdt_nodes.proofs.Siblings.{siblings_from, first-siblings, node-siblings}

-- the next property is kept, unless it binds
pub kept-next : (ps : List Property) (i : ℕ) (p : Property) → slice_get ps i ≡ Some p → kept (take (i + 1) ps) ≡ kept (take i ps) ++ cond (not (is_binding p.0)) (p ∷ []) []
kept-next [] i p at = absurd (cc)
kept-next (q ∷ ps) zero p at = let same : q ≡ p = cc in one q (not (is_binding q.0)) ∙ ap (λ (r : Property). cond (not (is_binding r.0)) (r ∷ []) []) same
  where
    one : (q : Property) (b : Bool) → cond b (q ∷ []) [] ≡ cond b (q ∷ []) []
    one q b = refl
kept-next (q ∷ ps) (suc i) p at =
    let more : suc i + 1 ≡ suc (i + 1) = omega arith in
    ap (λ n. kept (take n (q ∷ ps))) more ∙ (ap (λ z. cond (not (is_binding q.0)) (q ∷ z) z) (kept-next ps i p at) ∙ spread (not (is_binding q.0)) (kept (take i ps)) (cond (not (is_binding p.0)) (p ∷ []) []))
  where
    spread : (b : Bool) (xs ys : List Property) → cond b (q ∷ (xs ++ ys)) (xs ++ ys) ≡ cond b (q ∷ xs) xs ++ ys
    spread true xs ys = refl
    spread false xs ys = refl

cleaned-joined : (ts us : Trees) → cleaned_in (joined ts us) ≡ joined (cleaned_in ts) (cleaned_in us)
cleaned-joined none us = refl
cleaned-joined (tree n ps cs rest) us = ap (tree n (kept ps) (cleaned_in cs)) (cleaned-joined rest us)

-- what a walk over the children of a node has done: the children before the next one are copied
pub record IsCopied (source : Document) (node : ℕ) (next : Option ℕ) (old new : Document) (parent : ℕ) : Type 0 where
  pub before : Trees
  pub parts : children_of source node ≡ joined before (siblings_from source next)
  pub copies : Grows old new parent (cleaned_in before)

pub IsCopied-start : (source : Document) (node : ℕ) (next : Option ℕ) (doc : Document) (parent : ℕ) → IsNumbering source → node < length source.places → option_map (λ n. place_of source n) next ≡ if_there source (place_of source node ++ 0 ∷ []) → IsCopied source node next doc doc parent
IsCopied-start source node next doc parent numbering live is = record {
  before = none;
  parts = sym (first-siblings source node next (numbering.stand node live) is);
  copies = Grows-nothing doc doc parent refl;
}

pub IsCopied-end : (source : Document) (node : ℕ) (next : Option ℕ) (old new : Document) (parent : ℕ) → next ≡ None → IsCopied source node next old new parent → Grows old new parent (cleaned_in (children_of source node))
IsCopied-end source node next old new parent end copied =
    let all : copied.before ≡ children_of source node = sym (copied.parts ∙ (ap (λ z. joined copied.before (siblings_from source z)) end ∙ joined-none copied.before)) in
    subst (λ (ts : Trees). Grows old new parent (cleaned_in ts)) all copied.copies

pub IsCopied-next : (source : Document) (node child : ℕ) (here next : Option ℕ) (old now copied done : Document) (parent copy : ℕ) → IsNumbering source → IsNumbering now → child < length source.places → parent < length old.places → parent < length now.places → here ≡ Some child → option_map (λ n. place_of source n) next ≡ option_and_then (λ p. if_there source p) (next_place (place_of source child)) → copied ≡ with_node now (place_of now parent) (name_of source child) (kept (properties_of source child)) → copy ≡ length now.places → Grows copied done copy (cleaned_in (children_of source child)) → IsCopied source node here old now parent → IsCopied source node next old done parent
IsCopied-next source node child here next old now copied done parent copy numbering fine live first_live now_live is following added newest below so_far =
    let n = name_of source child in
    let ps = properties_of source child in
    let cs = children_of source child in
    let one : Trees = tree n ps cs none in
    record {
      before = joined so_far.before one;
      parts = so_far.parts ∙ (ap (λ z. joined so_far.before (siblings_from source z)) is ∙ (ap (joined so_far.before) (node-siblings source child next (numbering.stand child live) following) ∙ sym (joined-twice so_far.before one (siblings_from source next))));
      copies = subst (λ (ts : Trees). Grows old done parent ts) (sym (cleaned-joined so_far.before one)) (Grows-more old now done parent (cleaned_in so_far.before) (cleaned_in one) first_live so_far.copies (Grows-inside now copied done parent copy n (kept ps) (cleaned_in cs) fine now_live added newest below));
    }

-- a path that finds nothing
pub copied-none : (d : Document) (path : Bytes) → None ≡ find_place d.tree path → copied (Some d.tree) path ≡ []
copied-none d path is = ap (λ (o : Option Place). option_to_list (option_map cleaned (option_and_then (at d.tree) o))) (sym is)

-- a path that finds a node
pub copied-some : (d : Document) (path : Bytes) (node : ℕ) → IsSome (node_at d node) → Some (place_of d node) ≡ find_place d.tree path → trees_of (copied (Some d.tree) path) ≡ tree (name_of d node) (kept (properties_of d node)) (cleaned_in (children_of d node)) none
copied-some d path node stands is =
    ap (λ (o : Option Place). trees_of (option_to_list (option_map cleaned (option_and_then (at d.tree) o)))) (sym is) ∙ by (node_at d node) stands
  where
    by : (o : Option Tree) → IsSome o → trees_of (option_to_list (option_map cleaned o)) ≡ tree (option_map_or (λ (n : Tree). n.name) o []) (kept (option_map_or (λ (n : Tree). n.properties) o [])) (cleaned_in (option_map_or (λ (n : Tree). n.children) o none)) none
    by None some = absurd (cc)
    by (Some u) some = refl
