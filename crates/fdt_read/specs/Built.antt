-- For proofs and private contracts alone: what is built from the tokens so far.
use Rattle.std.specs.Prelude.{◌≡◌, ℕ, zero, suc, ◌<◌, ◌≤◌, Bool, true, false, ◌==◌, not, ◌&&◌, List, [], ◌∷◌, ◌++◌, Option, Some, None, IfSome, option_map, count_by, length}
use Rattle.std.specs.List.{list_all}
use Rattle.fdt_tree.specs.Tree.{Bytes, Trees, none, tree, Tree, Place, at, depth, depth_limit}
use Rattle.fdt_tree.specs.Document.{empty, place_of, children_at}
use Rattle.fdt_read.specs.declared.building.Building.{Building}
use Rattle.fdt_read.specs.Header.{total_size, structure_end, strings_end}
use Rattle.fdt_read.specs.Tokens.{Token, begin_node, end_node, property}
use Rattle.fdt_tree.specs.Whole.{height}
use Rattle.fdt_read.specs.Spelling.{spelled_properties, spelled, spelled_whole, plain, are_named, are_names}
use Rattle.texts.specs.Rows.{first_that_applies}
use Rattle.fdt_read.specs.Refusals.{rows_at, is_begin, is_end_node, open_after, has_node, after_child}

-- The header is whole, and the blocks that it names are within the file.
pub record IsLaidOut (bytes : Bytes) : Type 0 where
  pub header : 40 ≤ length bytes
  pub total : total_size bytes ≤ length bytes
  pub structure : structure_end bytes ≤ total_size bytes
  pub strings : strings_end bytes ≤ total_size bytes

-- Whether a name has no NUL.
abbrev pub has_no_nul : Bytes → Bool
has_no_nul name = list_all (λ byte. not (byte == 0)) name

-- Whether the name of a token, if it has one, has no NUL.
abbrev pub ends_names : Token → Bool
ends_names (begin_node name) = has_no_nul name
ends_names (property (Some name) value) = has_no_nul name
ends_names _ = true

-- The tokens of trees up to the inside of a node.
abbrev pub opened_in : Trees → ℕ → Place → List Token
opened_in none k p = []
opened_in (tree n ps cs rest) zero [] = begin_node n ∷ (spelled_properties ps ++ spelled cs)
opened_in (tree n ps cs rest) zero (j ∷ p) = begin_node n ∷ (spelled_properties ps ++ opened_in cs j p)
opened_in (tree n ps cs rest) (suc k) p = begin_node n ∷ (spelled_properties ps ++ (spelled cs ++ end_node ∷ opened_in rest k p))

-- The tokens of a tree up to the inside of the node at a place.
abbrev pub opened : Tree → Place → List Token
opened t [] = begin_node t.name ∷ (spelled_properties t.properties ++ spelled t.children)
opened t (k ∷ p) = begin_node t.name ∷ (spelled_properties t.properties ++ opened_in t.children k p)

-- A tree as the format has it: an unnamed root, names that are names, and no node too deep.
pub record IsFormed (t : Tree) : Type 0 where
  pub unnamed : t.name ≡ []
  pub names : (are_named t.properties && are_names t.children) ≡ true
  pub depth : suc (height t.children) ≤ depth_limit

-- The node at a place is open: the tokens so far are those of the tree up to its inside.
pub record InNode (done : List Token) (t : Tree) (p : Place) : Type 0 where
  pub read : plain done ≡ opened t p
  pub level : open_after done ≡ depth p
  pub node : has_node done ≡ true
  pub here : (u : Tree) × (at t p ≡ Some u)
  pub fresh : after_child done ≡ false → (u : Tree) → at t p ≡ Some u → u.children ≡ none
  pub last : (q : Place) (k : ℕ) (r : Place) → p ≡ q ++ k ∷ r → children_at t q ≡ suc k
  pub formed : IsFormed t

-- What the tokens so far have given: nothing yet, a tree with the node at a place open, or a whole tree.
pub data Shape (done : List Token) (t : Tree) : Option Place → Type 0 where
  before : plain done ≡ [] → has_node done ≡ false → count_by is_begin done ≡ 0 → count_by is_end_node done ≡ 0 → t ≡ empty.tree → Shape done t None
  inside : (p : Place) → InNode done t p → Shape done t (Some p)
  whole : plain done ≡ opened t [] ++ end_node ∷ [] → has_node done ≡ true → open_after done ≡ 0 → IsFormed t → Shape done t None

-- What is built agrees with the tokens so far.
pub record IsBuilding (done : List Token) (b : Building) : Type 0 where
  pub level : b.level ≡ open_after done
  pub shallow : b.level ≤ depth_limit
  pub started : b.started ≡ has_node done
  pub past_child : b.past_child ≡ after_child done
  pub live : IfSome b.current (λ n. n < length b.tree.places)
  pub shape : Shape done b.tree.tree (option_map (place_of b.tree) b.current)

-- The token has no fault, by what is kept of those before it.
abbrev pub IsFine : Building → Token → Type 0
IsFine b token = first_that_applies (rows_at b.level b.started b.past_child 0 token) ≡ None

-- The tokens are those of a whole tree.
pub record IsWhole (found : List Token) (t : Tree) : Type 0 where
  pub spelled : plain found ≡ spelled_whole t
  pub formed : IsFormed t
