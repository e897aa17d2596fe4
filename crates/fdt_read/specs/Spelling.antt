-- Which tokens spell a tree (Devicetree Specification 0.4, 5.4.2).
use Rattle.std.specs.Prelude.{ℕ, Bool, true, false, ◌==◌, ◌&&◌, not, List, [], ◌∷◌, ◌++◌, Some, map, filter, length}
use Rattle.std.specs.List.{list_all}
use Rattle.fdt_tree.specs.Tree.{Bytes, Property, Trees, none, tree, Tree}
use Rattle.fdt_read.specs.Tokens.{Token, begin_node, end_node, property, nop, end}

-- One PROP for each property.
abbrev pub spelled_properties : List Property → List Token
spelled_properties properties = map (λ p. property (Some p.0) p.1) properties

-- Each tree as BEGIN_NODE with its name, its properties, its children, and END_NODE.
abbrev pub spelled : Trees → List Token
spelled none = []
spelled (tree name properties children rest) =
    begin_node name ∷ (spelled_properties properties ++ (spelled children ++ end_node ∷ spelled rest))

-- A whole tree, and END.
abbrev pub spelled_whole : Tree → List Token
spelled_whole t =
    begin_node t.name ∷ (spelled_properties t.properties ++ (spelled t.children ++ end_node ∷ end ∷ []))

-- Every token but NOP counts.
abbrev pub counts : Token → Bool
counts nop = false
counts _ = true

-- With no name at the first node, the root.
abbrev pub root_unnamed : List Token → List Token
root_unnamed (begin_node name ∷ rest) = begin_node [] ∷ rest
root_unnamed others = others

-- The tokens that count, without the root's name.
abbrev pub plain : List Token → List Token
plain found = root_unnamed (filter counts found)

-- The tokens without their offsets.
abbrev pub without_offsets : List (ℕ × Token) → List Token
without_offsets found = map (λ t. t.1) found

-- The tokens at their offsets that count, without the root's name.
abbrev pub counting : List (ℕ × Token) → List Token
counting found = plain (without_offsets found)

-- A name as a node may have it in the format: not empty and without `/`.
abbrev pub is_name : Bytes → Bool
is_name name = not (length name == 0) && list_all (λ byte. not (byte == 47)) name

-- Property names are not empty.
abbrev pub are_named : List Property → Bool
are_named properties = list_all (λ p. not (length p.0 == 0)) properties

-- The names of all nodes and properties are names.
abbrev pub are_names : Trees → Bool
are_names none = true
are_names (tree name properties children rest) =
    is_name name && (are_named properties && (are_names children && are_names rest))
