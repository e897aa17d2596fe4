-- Where the interrupts of a host's node go, and the interrupt controller that a partial tree asks for.
use Rattle.std.specs.Prelude.{ℕ, Bool, false, List, [], ◌∷◌, ◌++◌, map, codes, Option, Some, None, option_and_then, unwrap_or}
use Rattle.std.specs.Option.{option_or}
use Rattle.fdt_tree.specs.Tree.{Bytes, Tree, Place, property_of, cell}
use Rattle.fdt_nodes.specs.Controllers.{is_number, gic_phandle}
use Rattle.fdt_nodes.specs.Nodes.{Node, node_found, properties_at}
use Rattle.fdt_nodes.specs.Values.{u32_in}

-- a place and those above it, the nearest first
abbrev pub upward : Place → List Place
upward [] = [] ∷ []
upward (number ∷ place) = map (λ above. number ∷ above) (upward place) ++ [] ∷ []

-- the first value that there is
abbrev pub first_value : List (Option Bytes) → Option Bytes
first_value [] = None
first_value (value ∷ rest) = option_or value (first_value rest)

-- the value of the nearest `interrupt-parent`, from a node up to the root (2.4.1)
abbrev pub interrupt_parent : Tree → Place → Option Bytes
interrupt_parent host place = first_value (map (λ above. property_of (properties_at host above) (codes "interrupt-parent")) (upward place))

-- two phandles that are there, and are one
abbrev pub are_one : Option ℕ → Option ℕ → Bool
are_one None other = false
are_one (Some one) other = is_number other one

-- the phandle that a node's interrupts go to
abbrev pub interrupt_phandle : Tree → Node → Option ℕ
interrupt_phandle host node = option_and_then cell (interrupt_parent host node.place)

-- a node's interrupts go to the host's GIC
abbrev pub is_on_gic : Tree → Node → Bool
is_on_gic host node = are_one (gic_phandle host) (interrupt_phandle host node)

-- the phandle of the guest's GIC: that of the partial tree's `/gic`, else 65000
abbrev pub guest_gic : Tree → ℕ
guest_gic partial = unwrap_or (option_and_then (λ (gic : Node). u32_in gic.properties (codes "phandle")) (node_found partial (codes "/gic"))) 65000
