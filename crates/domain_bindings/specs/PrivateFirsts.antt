-- Of proofs and private contracts: the first modules of each kind, as they are kept while modules are read.
use Rattle.std.specs.Prelude.{◌≡◌, ℕ, List, map}
use Rattle.described.specs.declared.item.ModuleKind.{ModuleKind}
use Rattle.fdt_tree.specs.Document.{Document}
use Rattle.fdt_nodes.specs.Nodes.{Node}
use Rattle.fdt_nodes.specs.Held.{node_of}
use Rattle.domain_bindings.specs.Modules.{first_of_kind}

-- of each kind the first of the nodes that are kept is the first of these modules
abbrev pub AreFirsts : Document → List Node → List ℕ → Type 0
AreFirsts document modules kept = (kind : ModuleKind) → first_of_kind kind (map (node_of document) kept) ≡ first_of_kind kind modules
