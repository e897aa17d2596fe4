-- The strings block (Devicetree Specification 0.4, 5.5).
use Rattle.std.specs.Prelude.{ℕ, ◌+◌, Bool, List, [], ◌∷◌, ◌++◌, if◌then◌else◌, length, map, flat_map, bytes_eq}
use Rattle.std.specs.List.{list_any}
use Rattle.fdt_tree.specs.Tree.{Bytes, Property, Trees, none, tree, Tree}

-- The names of a node's properties.
abbrev pub names_of : List Property → List Bytes
names_of properties = map (λ p. p.0) properties

-- The names of properties in document order, those of a node before those of its children.
abbrev pub names_in : Trees → List Bytes
names_in none = []
names_in (tree name properties children rest) = names_of properties ++ (names_in children ++ names_in rest)

-- Whether a name is among these.
abbrev pub is_among : List Bytes → Bytes → Bool
is_among names name = list_any (λ other. bytes_eq other name) names

-- Each name once, where it stands first, but for those that were seen before.
abbrev pub firsts : List Bytes → List Bytes → List Bytes
firsts seen [] = []
firsts seen (name ∷ names) = if is_among seen name then firsts seen names else name ∷ firsts (name ∷ seen) names

-- The names of the strings block: those of all properties, each once, in order of first use.
abbrev pub strings : Tree → List Bytes
strings t = firsts [] (names_of t.properties ++ names_in t.children)

-- The offset of a name in the strings block, where each name has a NUL after it.
abbrev pub offset_in : List Bytes → Bytes → ℕ
offset_in [] name = 0
offset_in (first ∷ rest) name = if bytes_eq first name then 0 else length first + 1 + offset_in rest name

-- A text with the NUL that ends it.
abbrev pub ended : Bytes → Bytes
ended text = text ++ 0 ∷ []

-- The strings block of these names.
abbrev pub strings_of : List Bytes → Bytes
strings_of names = flat_map ended names
