use Rattle.std.proofs.Common.{◌==◌, ◌++◌, option_map, ap, ◌∙◌}
use Rattle.std.specs.List.{slice_split}
use Rattle.fdt_tree.specs.Tree.{descend}
use Rattle.fdt_tree.specs.Document.{place_of, children_of}
use Rattle.fdt_tree.proofs.Names.{onward}
use Rattle.indexed_tree.proofs.tree.IndexedTree.descendant.Goals as goal

pub loop-name-preserved : goal.loop-name-preserved
loop-name-preserved c = record {
  live = c.in-Some-component.ensures.live;
  leads = c.loop-name.invariant.leads ∙ (ap (λ parts. option_map (λ p. place_of c.args.self.now c.loop-name.node ++ p) (descend parts (children_of c.args.self.now c.loop-name.node))) c.in-Some.ensures.parts ∙ onward c.args.self.now c.loop-name.node c.in-Some-component.child c.in-Some.name.now (slice_split (λ b. b == 47) c.in-Some.after.now) c.in-Some-component.ensures.place);
}
