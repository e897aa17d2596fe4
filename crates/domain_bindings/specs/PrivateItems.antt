-- The items of guests from one of them on, for proofs alone.
use Rattle.std.specs.Prelude.{ℕ, ◌+◌, List, [], ◌∷◌}
use Rattle.described.specs.declared.item.Described.{Described}
use Rattle.fdt_nodes.specs.Nodes.{Node}
use Rattle.domain_bindings.specs.Domains.{domain_items}

-- the items of guests, of which the first has this number, guest by guest
abbrev pub items_from : ℕ → List Node → List (List Described)
items_from number [] = []
items_from number (node ∷ nodes) = domain_items number node ∷ items_from (number + 1) nodes
