-- What the rows of a table of properties mean (Devicetree Specification 0.4, 2.2.4).
use Rattle.std.specs.Prelude.{List, map}
use Rattle.fdt_tree.specs.Tree.{Property}
use Rattle.tree_parts.specs.Nodes.{cells, wide_cells, text, flag}
use Rattle.tree_parts.specs.declared.rows.Row.{Row}
use Rattle.tree_parts.specs.declared.rows.Row.TheVariants.{Bytes, Text, Cells, WideCells, Flag}

-- the property of a row
abbrev pub property : Row → Property
property (Bytes name value) = (name.now, value.now)
property (Text name string) = text name.now string.now
property (Cells name numbers) = cells name.now numbers.now
property (WideCells name numbers) = wide_cells name.now numbers.now
property (Flag name) = flag name.now

-- the properties of a table
abbrev pub properties : List Row → List Property
properties rows = map property rows
