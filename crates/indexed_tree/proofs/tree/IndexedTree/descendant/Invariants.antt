use Rattle.std.proofs.Common.{◌≡◌, ◌==◌, ◌<◌, ◌++◌, length, option_map}
use Rattle.std.specs.List.{slice_split}
use Rattle.fdt_tree.specs.Tree.{descend}
use Rattle.fdt_tree.specs.Document.{place_of, children_of}
use Rattle.indexed_tree.proofs.tree.IndexedTree.descendant.Given as goal

-- The components that are left lead from the open node to where all lead from the root.
abbrev pub invariant-loop-name : goal.invariant-loop-name
invariant-loop-name l = record {
  live : l.node < length l.self.places;
  leads : descend (slice_split (λ b. b == 47) l.components) l.self.tree.children ≡ option_map (λ p. place_of l.self l.node ++ p) (descend (slice_split (λ b. b == 47) l.rest) (children_of l.self l.node));
}

abbrev pub decreases-loop-name : goal.decreases-loop-name
decreases-loop-name l = length l.rest
