use Rattle.std.proofs.Common.{◌≡◌, ap, length, arith}
use Rattle.fdt_tree.specs.Tree.{Property}
use Rattle.tree_parts.proofs.Growing.{nothing_given}
use Rattle.indexed_tree.proofs.Values.{named-at, given-next, all-given}
use Rattle.indexed_tree.proofs.trees.give.Goals as goal

pub loop-index-init : goal.loop-index-init
loop-index-init c = record {
  live = c.requires.live;
  given = nothing_given c.args.tree.now c.args.node;
}

pub add_prop-requires-clause-property_name : goal.add_prop-requires-clause-property_name
add_prop-requires-clause-property_name c =
    named-at c.args.properties.now c.loop-index.index c.at.result.0.now c.at.result.1.now c.requires.named c.at.ensures

pub add_prop-requires-clause-live : goal.add_prop-requires-clause-live
add_prop-requires-clause-live c = c.loop-index.invariant.live

pub loop-index-preserved : goal.loop-index-preserved
loop-index-preserved c =
    let p : Property = (c.at.result.0.now, c.at.result.1.now) in
    let same : length c.add_prop.new.self.places ≡ length c.loop-index.tree.places = ap length c.add_prop.ensures.places in
    record {
      live = omega (arith, same, c.loop-index.invariant.live);
      given = given-next c.args.tree.now c.loop-index.tree c.add_prop.new.self c.args.node c.loop-index.index c.args.properties.now p c.loop-index.invariant.given c.at.ensures c.in_ok-add_prop.ensures.ok;
    }

pub returns : goal.returns
returns c =
    let end : c.loop-index.index ≡ length c.args.properties.now = omega (arith, c.len-index-end.ensures) in
    all-given c.args.tree.now c.loop-index.tree c.args.node c.loop-index.index c.args.properties.now end c.loop-index.invariant.given
