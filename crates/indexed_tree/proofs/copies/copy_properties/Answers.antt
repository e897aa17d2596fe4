use Rattle.std.proofs.Common.{◌≡◌, ap, length, arith}
use Rattle.fdt_tree.specs.Tree.{Property}
use Rattle.fdt_tree.specs.Document.{properties_of}
use Rattle.tree_parts.proofs.Growing.{nothing_given}
use Rattle.indexed_tree.proofs.Values.{named-at, given-next, all-given}
use Rattle.indexed_tree.proofs.copies.copy_properties.Goals as goal

pub loop-index-init : goal.loop-index-init
loop-index-init c = record {
  live = c.requires.copy_live;
  given = nothing_given c.args.tree.now c.args.copy;
}

pub add_prop-requires-clause-property_name : goal.add_prop-requires-clause-property_name
add_prop-requires-clause-property_name c =
    named-at (properties_of c.args.source.now c.args.node) c.loop-index.index c.prop_at.result.0.now c.prop_at.result.1.now (c.requires.named.properties c.args.node c.requires.live) c.prop_at.ensures

pub loop-index-preserved : goal.loop-index-preserved
loop-index-preserved c =
    let ps = properties_of c.args.source.now c.args.node in
    let p : Property = (c.prop_at.result.0.now, c.prop_at.result.1.now) in
    let same : length c.add_prop.new.self.places ≡ length c.loop-index.tree.places = ap length c.add_prop.ensures.places in
    record {
      live = omega (arith, same, c.loop-index.invariant.live);
      given = given-next c.args.tree.now c.loop-index.tree c.add_prop.new.self c.args.copy c.loop-index.index ps p c.loop-index.invariant.given c.prop_at.ensures c.in_ok-add_prop.ensures.ok;
    }

pub returns : goal.returns
returns c =
    let ps = properties_of c.args.source.now c.args.node in
    let end : c.loop-index.index ≡ length ps = omega (arith, c.prop_count-index-end.ensures) in
    all-given c.args.tree.now c.loop-index.tree c.args.copy c.loop-index.index ps end c.loop-index.invariant.given
