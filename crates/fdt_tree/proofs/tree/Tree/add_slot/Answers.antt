use Rattle.std.proofs.Common.{suc, ◌≡◌, ◌-◌, None, length, refl, ap, ◌∙◌, arith}
use Rattle.fdt_tree.specs.declared.node.Slot.{Slot}
use Rattle.fdt_tree.specs.Document.{Document, place_of, with_property}
use Rattle.fdt_tree.specs.Assembled.{document, IsLinked}
use Rattle.fdt_tree.specs.PrivateLinks.{modified, with_last_slot}
use Rattle.fdt_tree.proofs.Links.{reads}
use Rattle.fdt_tree.proofs.Chains.{last-live, length-after}
use Rattle.fdt_tree.proofs.Additions.{after_slot, room}
use Rattle.fdt_tree.proofs.tree.Tree.add_slot.Goals as goal

pub follow-requires : goal.follow-requires
follow-requires c =
    let f = reads _ _ _ _ _ _ _ c.self.invariant c.self.view_is c.node.view_is c.requires.live c.index.ensures in last-live c.args.node c.self.inside.slots.items c.index.result.now.last_property f.last_slot

pub end_at-requires-clause-fewer : goal.end_at-requires-clause-fewer
end_at-requires-clause-fewer c =
    λ m e. (room _ _ _ _ _ _ _ c.len-count.result c.index.result.now m _ _ c.self.invariant c.self.view_is c.node.view_is c.requires.live c.index.ensures e c.in_ok-follow.ensures.ok (c.len-count.ensures ∙ c.follow.new.slots.ok.0)).1

pub end_at-requires-clause-before : goal.end_at-requires-clause-before
end_at-requires-clause-before c =
    λ m e. (room _ _ _ _ _ _ _ c.len-count.result c.index.result.now m _ _ c.self.invariant c.self.view_is c.node.view_is c.requires.live c.index.ensures e c.in_ok-follow.ensures.ok (c.len-count.ensures ∙ c.follow.new.slots.ok.0)).2

added : (c : goal.After-end_at) → IsLinked (document c.end_at.new.nodes.items c.follow.new.slots.items) c.end_at.new.nodes.items c.follow.new.slots.items × (document c.end_at.new.nodes.items c.follow.new.slots.items ≡ with_property c.args.self.now (place_of c.args.self.now c.args.node) c.args.name c.args.value)
added c =
    let f = reads _ _ _ _ _ _ _ c.self.invariant c.self.view_is c.node.view_is c.requires.live c.index.ensures in
    let slot : Slot = record { owner = c.node.inside.number; name = c.args.name; value = c.args.value; next = None } in
    let long : c.len-count.result ≡ suc (length c.self.inside.slots.items) = c.len-count.ensures ∙ (c.follow.new.slots.ok.0 ∙ (ap length c.in_ok-follow.ensures.ok ∙ length-after c.index.result.now.last_property c.self.inside.slots.items slot)) in
    let number : c.len-count.result - 1 ≡ length c.self.inside.slots.items = omega (arith, long) in
    after_slot _ _ _ _ _ _ _ c.index.result.now _ slot c.self.invariant c.self.view_is c.node.view_is c.requires.live c.index.ensures refl refl refl (last-live c.args.node c.self.inside.slots.items c.index.result.now.last_property f.last_slot) c.requires.property_name (c.end_at.ensures ∙ ap (λ k. modified (with_last_slot k) c.node.inside.number c.self.inside.nodes.items) number) c.in_ok-follow.ensures.ok

pub invariant_of-self-2 : goal.invariant_of-self-2
invariant_of-self-2 c = (added c).0

pub returns-clause-ok : goal.returns-clause-ok
returns-clause-ok c = (added c).1

pub returns-clause-places : goal.returns-clause-places
returns-clause-places c = ap (λ (d : Document). d.places) (added c).1
