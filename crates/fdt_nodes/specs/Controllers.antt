-- The interrupt controller of a tree (Devicetree Specification 0.4, 2.4).
use Rattle.std.specs.Prelude.{ℕ, ◌==◌, ◌&&◌, Bool, false, find, codes, Option, Some, None, option_and_then}
use Rattle.fdt_tree.specs.Tree.{Tree}
use Rattle.fdt_nodes.specs.Nodes.{Node, nodes_of}
use Rattle.fdt_nodes.specs.Values.{has, u32_in}

-- a number that is there, and is this one
abbrev pub is_number : Option ℕ → ℕ → Bool
is_number None number = false
is_number (Some other) number = other == number

-- an interrupt controller whose interrupts take three cells, as those of a GIC do (2.4.2)
abbrev pub is_gic : Node → Bool
is_gic node = has node.properties (codes "interrupt-controller") && is_number (u32_in node.properties (codes "#interrupt-cells")) 3

-- the GIC of a tree: the first in document order
abbrev pub gic_of : Tree → Option Node
gic_of whole = find is_gic (nodes_of whole)

-- its phandle, where that has four bytes (2.3.3)
abbrev pub gic_phandle : Tree → Option ℕ
gic_phandle whole = option_and_then (λ (gic : Node). u32_in gic.properties (codes "phandle")) (gic_of whole)
