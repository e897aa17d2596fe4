-- The item of a partial tree as a whole.
use Rattle.std.specs.Prelude.{ℕ, ◌++◌, ◌||◌, Bool, List, [], ◌∷◌, flat_map, codes, decimal, is_some, is_none, Option}
use Rattle.std.specs.Option.{option_map_or, option_to_list}
use Rattle.described.specs.declared.item.Described.{Described}
use Rattle.described.specs.declared.item.Item.{Item}
use Rattle.described.specs.declared.item.Part.{Part}
use Rattle.described.specs.declared.item.Part.TheVariants as parts
use Rattle.described.specs.declared.item.What.TheVariants as whats
use Rattle.described.specs.declared.why.Why.{Why}
use Rattle.described.specs.declared.why.Why.TheVariants.{Missing, BadLength, BadValue, PhandleClash}
use Rattle.fdt_tree.specs.Tree.{Bytes, Property, Tree}
use Rattle.fdt_tree.specs.Phandles.{first_repeated}
use Rattle.fdt_nodes.specs.Nodes.{Node, node_found, descendants}
use Rattle.fdt_nodes.specs.Values.{is_memory, has_other_length, u32_in}
use Rattle.described.specs.Reasons.{where_so, first_reason, described}
use Rattle.passthrough_dtb.specs.Gic.{guest_gic}

-- an item of a guest's partial tree, by its path there
abbrev pub item_in : Part → ℕ → Bytes → ℕ → Item
item_in part guest path index = record { part = part; path = codes "domU" ++ decimal guest ++ codes ":" ++ path; index = index }

-- the properties of the node that a path finds, none where it finds no node
abbrev pub properties_found : Tree → Bytes → List Property
properties_found partial path = option_map_or (λ (node : Node). node.properties) (node_found partial path) []

-- the nodes below `/passthrough`, in document order
abbrev pub passed_nodes : Tree → List Node
passed_nodes partial = option_map_or descendants (node_found partial (codes "/passthrough")) []

-- the tree has no `/passthrough`
abbrev pub lacks_passthrough : Tree → Bool
lacks_passthrough partial = is_none (node_found partial (codes "/passthrough"))

-- the phandle of `/gic` is not four bytes
abbrev pub has_bad_gic : Tree → Bool
has_bad_gic partial = has_other_length (properties_found partial (codes "/gic")) (codes "phandle") 4

-- a node that goes into the guest's tree says that it is memory
abbrev pub has_memory_node : Tree → Bool
has_memory_node partial =
    is_memory (properties_found partial (codes "/passthrough"))
    || is_memory (properties_found partial (codes "/aliases"))
    || is_memory (properties_found partial (codes "/__symbols__"))

-- the phandles of nodes, in their order
abbrev pub phandles : List Node → List ℕ
phandles nodes = flat_map (λ (node : Node). option_to_list (u32_in node.properties (codes "phandle"))) nodes

-- one of the phandles of nodes stands before it, among them or among these numbers
abbrev pub is_repeated : List ℕ → List Node → Bool
is_repeated before nodes = is_some (first_repeated before (phandles nodes))

-- two nodes below `/passthrough` have one phandle, or one has that of the guest's GIC
abbrev pub has_clash : Tree → Bool
has_clash partial = is_repeated (guest_gic partial ∷ []) (passed_nodes partial)

-- the first reason against a partial tree
abbrev pub partial_reason : Tree → Option Why
partial_reason partial = first_reason (
    where_so (lacks_passthrough partial) Missing
    ∷ where_so (has_bad_gic partial) BadLength
    ∷ where_so (has_memory_node partial) BadValue
    ∷ where_so (has_clash partial) PhandleClash
    ∷ []
    )

-- a guest's partial tree
abbrev pub partial_item : Tree → ℕ → Described
partial_item partial guest = described (item_in parts.Partial guest (codes "/") 0) (partial_reason partial) (whats.Partial (guest_gic partial))
