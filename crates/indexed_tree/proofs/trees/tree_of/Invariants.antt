use Rattle.std.proofs.Common.{◌≡◌, ◌<◌, ℕ, take, length, get_or}
use Rattle.indexed_tree.specs.PrivateArena.{held}
use Rattle.indexed_tree.proofs.trees.tree_of.Given as goal

-- the nodes of the entries so far are added, each under its number
abbrev pub invariant-loop-index : goal.invariant-loop-index
invariant-loop-index l = record {
  some : 0 < l.index;
  made : l.tree ≡ held (take l.index l.entries);
  places : length l.tree.places ≡ l.index;
  nodes : length l.nodes.items ≡ l.index;
  each : (number : ℕ) → number < l.index → get_or l.nodes.items number 0 ≡ number;
}
