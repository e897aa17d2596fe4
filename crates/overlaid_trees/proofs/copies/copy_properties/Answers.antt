use Rattle.std.proofs.Common.{◌≡◌, ap, length, option_map, arith}
use Rattle.std.specs.Prelude.{codes}
use Rattle.std.specs.Int.{w32, to_be_bytes}
use Rattle.fdt_tree.specs.Tree.{Property}
use Rattle.fdt_tree.specs.Document.{Document, properties_of}
use Rattle.overlaid_trees.specs.PrivateCopies.{with_first}
use Rattle.fdt_nodes.proofs.PropertyNames.{named-at}
use Rattle.overlaid_trees.proofs.CopyLemmas.{IsGiven-start, IsGiven-next, IsGiven-end}
use Rattle.overlaid_trees.proofs.copies.copy_properties.Goals as goal

pub loop-index-init : goal.loop-index-init
loop-index-init c = record {
  live = c.requires.copy_live;
  given = IsGiven-start (codes "phandle") (properties_of c.args.source.now c.args.node) (option_map (to_be_bytes w32) c.args.phandle) c.args.tree.now c.args.copy;
}

pub add_copied-requires-clause-property_name : goal.add_copied-requires-clause-property_name
add_copied-requires-clause-property_name c =
    named-at (properties_of c.args.source.now c.args.node) c.loop-index.index c.prop_at.result.0.now c.prop_at.result.1.now (c.requires.named.properties c.args.node c.requires.live) c.prop_at.ensures

pub loop-index-preserved : goal.loop-index-preserved
loop-index-preserved c =
    let ps = properties_of c.args.source.now c.args.node in
    let p : Property = (c.prop_at.result.0.now, c.prop_at.result.1.now) in
    let same : length c.add_copied.new.tree.places ≡ length c.loop-index.tree.places = ap (λ (d : Document). length d.places) c.in_ok-left.ensures.added in
    record {
      live = omega (arith, same, c.loop-index.invariant.live);
      given = IsGiven-next (codes "phandle") (with_first (codes "phandle") (option_map (to_be_bytes w32) c.args.phandle) ps) ps c.loop-index.index p (option_map (to_be_bytes w32) c.loop-index.left) (option_map (to_be_bytes w32) c.in_ok-left.left) c.args.tree.now c.loop-index.tree c.add_copied.new.tree c.args.copy c.prop_at.ensures c.in_ok-left.ensures.added c.in_ok-left.ensures.left c.loop-index.invariant.given;
    }

pub returns : goal.returns
returns c =
    let ps = properties_of c.args.source.now c.args.node in
    let end : c.loop-index.index ≡ length ps = omega (arith, c.prop_count-index-end.ensures) in
    IsGiven-end (codes "phandle") (with_first (codes "phandle") (option_map (to_be_bytes w32) c.args.phandle) ps) ps c.loop-index.index (option_map (to_be_bytes w32) c.loop-index.left) c.args.tree.now c.loop-index.tree c.args.copy end c.loop-index.invariant.given

pub add_copied-requires-clause-live : goal.add_copied-requires-clause-live
add_copied-requires-clause-live c = c.loop-index.invariant.live
