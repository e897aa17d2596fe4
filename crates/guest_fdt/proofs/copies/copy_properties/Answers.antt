use Rattle.std.proofs.Common.{◌≡◌, ◌++◌, ◌∷◌, [], sym, ap, ◌∙◌, take, length, not, cond, arith}
use Rattle.std.proofs.Math.Seq.{take-length}
use Rattle.fdt_tree.specs.Tree.{Property}
use Rattle.fdt_tree.specs.Document.{properties_of}
use Rattle.guest_fdt.specs.Copies.{kept}
use Rattle.tree_parts.specs.Grown.{with_more}
use Rattle.guest_fdt.proofs.Copying.{kept-next}
use Rattle.fdt_nodes.proofs.PropertyNames.{named-at}
use Rattle.tree_parts.proofs.Growing.{append-nothing, with_more-nothing, with_more-twice}
use Rattle.guest_fdt.proofs.copies.copy_properties.Goals as goal
use Rattle.guest_fdt.proofs.copies.copy_properties.Goals.{then-not-is_binding+in_ok-add_prop, else-not-is_binding}

pub loop-index-init : goal.loop-index-init
loop-index-init c = sym (with_more-nothing c.args.tree.now c.args.copy)

pub add_prop-requires-clause-property_name : goal.add_prop-requires-clause-property_name
add_prop-requires-clause-property_name c =
    named-at (properties_of c.args.source.now c.args.node) c.loop-index.index c.prop_at.result.0.now c.prop_at.result.1.now (c.requires.named.properties c.args.node c.requires.live) c.prop_at.ensures

pub loop-index-preserved : goal.loop-index-preserved
loop-index-preserved c =
    let ps = properties_of c.args.source.now c.args.node in
    let p : Property = (c.prop_at.result.0.now, c.prop_at.result.1.now) in
    let before = kept (take c.loop-index.index ps) in
    let next = kept-next ps c.loop-index.index p c.prop_at.ensures in
    let more = with_more c.args.tree.now c.args.copy in
    elim c.if-not-is_binding.branch [
      | then-not-is_binding+in_ok-add_prop w ↦ w.tree-is ∙ (w.in_ok-add_prop.ensures.ok ∙ (ap (λ d. with_more d c.args.copy (p ∷ [])) c.loop-index.invariant ∙ (with_more-twice c.args.tree.now c.args.copy before (p ∷ []) ∙ ap more (sym (next ∙ ap (λ b. before ++ cond (not b) (p ∷ []) []) (sym c.is_binding.ensures ∙ w.if-not-is_binding.true))))))
      | else-not-is_binding w ↦ w.tree-is ∙ (c.loop-index.invariant ∙ ap more (sym (append-nothing before) ∙ sym (next ∙ ap (λ b. before ++ cond (not b) (p ∷ []) []) (sym c.is_binding.ensures ∙ w.if-not-is_binding.false))))
    ]

pub returns : goal.returns
returns c =
    let ps = properties_of c.args.source.now c.args.node in
    let end : c.loop-index.index ≡ length ps = omega (arith, c.prop_count-index-end.ensures) in
    c.loop-index.invariant ∙ ap (λ qs. with_more c.args.tree.now c.args.copy (kept qs)) (ap (λ n. take n ps) end ∙ take-length ps)
