-- The listing of a device tree as text.
use Rattle.std.specs.Prelude.{◌==◌, List, [], ◌∷◌, ◌++◌, if◌then◌else◌, length, flat_map, codes}
use Rattle.texts.specs.NumberTexts.{hexadecimal}
use Rattle.fdt_tree.specs.Tree.{Bytes, Property, Trees, none, tree, Tree}
use Rattle.fdt_tree.specs.declared.reserve.Reserve.{Reserve}
use Rattle.fdt_write.specs.Opened.{path_below}
use Rattle.hex.specs.Hex.{encode_lower}

-- A line: a text and the line feed that ends it.
abbrev pub line : Bytes → Bytes
line text = text ++ 10 ∷ []

-- The line of a reservation: its address and its size in hexadecimal.
abbrev pub reserve_line : Reserve → Bytes
reserve_line reserve =
    line (codes "reserve " ++ hexadecimal reserve.address ++ codes " " ++ hexadecimal reserve.size)

-- A value as it is shown: two lower-case hexadecimal digits for each byte, or `-` where there is none.
abbrev pub value_text : Bytes → Bytes
value_text value = if length value == 0 then codes "-" else encode_lower value

-- The line of a property, two spaces in: its name and its value.
abbrev pub property_line : Property → Bytes
property_line property = line (codes "  " ++ property.0 ++ codes " " ++ value_text property.1)

-- The lines of a node without its children: its path, and a line for each of its properties.
abbrev pub node_lines : Bytes → List Property → Bytes
node_lines path properties = line path ++ flat_map property_line properties

-- The lines of trees below a path: those of the first node, those of its children, and those of the trees after it.
abbrev pub trees_lines : Bytes → Trees → Bytes
trees_lines above none = []
trees_lines above (tree name properties children rest) =
    node_lines (path_below above name) properties ++ (trees_lines (path_below above name) children ++ trees_lines above rest)

-- The lines of a tree: those of the root, whose path is `/`, and those of the trees below it, whose paths begin there.
abbrev pub tree_lines : Tree → Bytes
tree_lines t = node_lines (codes "/") t.properties ++ trees_lines [] t.children

-- The listing: a line for each reservation, and the lines of the tree.
abbrev pub listing : List Reserve → Tree → Bytes
listing reserves t = flat_map reserve_line reserves ++ tree_lines t
