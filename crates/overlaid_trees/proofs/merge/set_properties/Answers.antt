use Rattle.std.proofs.Common.{◌≡◌, ◌∙◌, ap, length, arith, take}
use Rattle.std.proofs.Math.Seq.{take-length}
use Rattle.fdt_tree.specs.Document.{place_of, properties_of, with_properties}
use Rattle.overlaid_trees.specs.Merge.{set_all}
use Rattle.fdt_nodes.proofs.PropertyNames.{named-at}
use Rattle.overlaid_trees.proofs.MergeLemmas.{set-step, set-none}
use Rattle.overlaid_trees.proofs.merge.set_properties.Goals as goal

pub loop-index-init : goal.loop-index-init
loop-index-init c = set-none c.args.tree.now c.args.target (properties_of c.args.overlay.now c.args.node)

pub set_prop-requires-clause-property_name : goal.set_prop-requires-clause-property_name
set_prop-requires-clause-property_name c =
    named-at (properties_of c.args.overlay.now c.args.node) c.loop-index.index c.prop_at.result.0.now c.prop_at.result.1.now (c.names.ensures.properties c.args.node c.requires.live) c.prop_at.ensures

pub loop-index-preserved : goal.loop-index-preserved
loop-index-preserved c =
    set-step c.args.tree.now c.loop-index.tree c.set_prop.new.self c.args.target c.loop-index.index (properties_of c.args.overlay.now c.args.node) (c.prop_at.result.0.now, c.prop_at.result.1.now) c.loop-index.invariant c.prop_at.ensures c.in_ok-set_prop.ensures.ok

pub returns : goal.returns
returns c =
    let ps = properties_of c.args.overlay.now c.args.node in
    let end : c.loop-index.index ≡ length ps = omega (arith, c.prop_count-index-end.ensures) in
    c.loop-index.invariant ∙ ap (λ qs. with_properties c.args.tree.now (place_of c.args.tree.now c.args.target) (set_all qs)) (ap (λ n. take n ps) end ∙ take-length ps)
