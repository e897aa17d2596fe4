-- The nodes that a walk over the tokens of a tree is in, by their paths, the innermost first.
use Rattle.std.specs.Prelude.{ℕ, ◌++◌, List, [], ◌∷◌, take, drop, codes}
use Rattle.fdt_tree.specs.Tree.{Bytes}
use Rattle.fdt_read.specs.Tokens.{Token, begin_node, end_node}

-- The path of a node (Devicetree Specification 0.4, 2.2.3): that of the node above it, which is empty where that is the root, `/`, and its name.
abbrev pub path_below : Bytes → Bytes → Bytes
path_below above name = above ++ codes "/" ++ name

-- The paths of nodes inside each other, the innermost first: that of the innermost node, and from it outwards the first bytes of each path, as many as its length says.
abbrev pub paths : Bytes → List ℕ → List Bytes
paths path [] = []
paths path (above ∷ lengths) = path ∷ paths (take above path) lengths

-- The path of a node that begins inside these. The root begins inside none, and its path is empty.
abbrev pub path_inside : List Bytes → Bytes → Bytes
path_inside [] name = []
path_inside (above ∷ others) name = path_below above name

-- A path as it is shown: the root's, which is empty, as `/`.
abbrev pub shown : Bytes → Bytes
shown [] = codes "/"
shown (byte ∷ path) = byte ∷ path

-- The nodes that a walk is in after a token.
abbrev pub opened_after : List Bytes → Token → List Bytes
opened_after opened (begin_node name) = path_inside opened name ∷ opened
opened_after opened end_node = drop 1 opened
opened_after opened _ = opened
