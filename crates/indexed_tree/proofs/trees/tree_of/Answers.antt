use Rattle.std.proofs.Common.{◌≡◌, ◌∙◌, ap, subst, IsTrue, ℕ, suc, List, length, arith}
use Rattle.fdt_tree.specs.Document.{Document, have_names}
use Rattle.fdt_tree.proofs.Lists.{length-last}
use Rattle.indexed_tree.specs.PrivateArena.{held}
use Rattle.indexed_tree.specs.declared.entry.Entry.{Entry}
use Rattle.indexed_tree.proofs.Settings.{names-at}
use Rattle.indexed_tree.proofs.TreeParts.{name-at, earlier-at, next-made, numbers-next, number-at}
use Rattle.indexed_tree.proofs.trees.tree_of.Goals as goal

pub give-requires-clause-named : goal.give-requires-clause-named
give-requires-clause-named c =
    subst (λ (e : Entry). IsTrue (have_names e.properties)) c.index-entries-0.is (names-at (held c.args.entries.now) c.args.entries.now 0 c.index-entries-0.result c.requires (omega (arith, c.requires.some, c.requires.numbered)) c.index-entries-0.is)

pub index-requires : goal.index-requires
index-requires c =
    let low = earlier-at (held c.args.entries.now) c.args.entries.now c.loop-index.index c.index-entries-index.result c.requires c.loop-index.invariant.some c.loop-index-test.true c.index-entries-index.is in
    omega (arith, low, c.loop-index.invariant.nodes, c.loop-index.nodes.ok.0)

pub add_entry-requires-clause-live : goal.add_entry-requires-clause-live
add_entry-requires-clause-live c =
    let low = earlier-at (held c.args.entries.now) c.args.entries.now c.loop-index.index c.index-entries-index.result c.requires c.loop-index.invariant.some c.loop-index-test.true c.index-entries-index.is in
    let above = number-at c.loop-index.nodes.items c.loop-index.index c.index-entries-index.result.parent c.index.result.now c.loop-index.invariant.each low c.loop-index.invariant.nodes c.index.ensures in
    omega (arith, low, above, c.loop-index.invariant.places)

pub add_entry-requires-clause-node_name : goal.add_entry-requires-clause-node_name
add_entry-requires-clause-node_name c =
    name-at (held c.args.entries.now) c.args.entries.now c.loop-index.index c.index-entries-index.result c.requires c.loop-index.invariant.some c.loop-index-test.true c.index-entries-index.is

pub add_entry-requires-clause-named : goal.add_entry-requires-clause-named
add_entry-requires-clause-named c =
    names-at (held c.args.entries.now) c.args.entries.now c.loop-index.index c.index-entries-index.result c.requires (omega (arith, c.loop-index-test.true, c.requires.numbered)) c.index-entries-index.is

pub loop-index-preserved : goal.loop-index-preserved
loop-index-preserved c =
    let es = c.args.entries.now in
    let i = c.loop-index.index in
    let x = c.index-entries-index.result in
    let low = earlier-at (held es) es i x c.requires c.loop-index.invariant.some c.loop-index-test.true c.index-entries-index.is in
    let above = number-at c.loop-index.nodes.items i x.parent c.index.result.now c.loop-index.invariant.each low c.loop-index.invariant.nodes c.index.ensures in
    let long : length c.add_entry.new.tree.places ≡ suc (length c.loop-index.tree.places) = ap (λ (z : Document). length z.places) c.in_ok-node.ensures.ok ∙ length-last c.loop-index.tree.places _ in
    let newest : c.in_ok-node.node ≡ i = c.in_ok-node.ensures.newest ∙ c.loop-index.invariant.places in
    record {
      some = omega arith;
      made = next-made es i c.index.result.now x c.loop-index.tree c.add_entry.new.tree c.loop-index.invariant.some c.loop-index-test.true c.index-entries-index.is c.loop-index.invariant.made above c.in_ok-node.ensures.ok;
      places = omega (arith, long, c.loop-index.invariant.places);
      nodes = omega (arith, ap (λ (ns : List ℕ). length ns) c.in_ok-push-2.ensures.items, length-last c.loop-index.nodes.items c.in_ok-node.node, c.loop-index.invariant.nodes);
      each = numbers-next c.loop-index.nodes.items c.push-in-loop-index.new.self.items i c.in_ok-node.node c.loop-index.invariant.nodes c.loop-index.invariant.each c.in_ok-push-2.ensures.items newest;
    }
