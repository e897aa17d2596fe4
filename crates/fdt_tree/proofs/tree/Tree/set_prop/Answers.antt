use Rattle.std.proofs.Common.{◌≡◌, None, Ok, Err, Result, OnOk, sym, ap, ◌∙◌, arith}
use Rattle.std.specs.declared.alloc.AllocError.{AllocError}
use Rattle.fdt_tree.specs.Document.{Document, place_of, with_properties}
use Rattle.fdt_tree.specs.PathEdits.{set_property}
use Rattle.fdt_tree.specs.Assembled.{document, IsLinked, first_owned}
use Rattle.fdt_tree.specs.PrivateLinks.{first_named_slot}
use Rattle.fdt_tree.proofs.Lists.{get-within}
use Rattle.fdt_tree.proofs.Links.{reads}
use Rattle.fdt_tree.proofs.Settings.{named-there, added-is_set, after_value}
use Rattle.fdt_tree.proofs.tree.Tree.set_prop.Goals as goal

where_ok : {P Q : Type 0} (r : Result (Unit {0}) AllocError) → OnOk r P → (P → Q) → OnOk r Q
where_ok (Ok u) p f = f p
where_ok (Err e) p f = tt

pub slot_named-requires-clause-first : goal.slot_named-requires-clause-first
slot_named-requires-clause-first c =
    let f = reads _ _ _ _ _ _ _ c.self.invariant c.self.view_is c.node.view_is c.requires.live c.index.ensures in f.first_slot ∙ (ap (λ k. first_owned k 0 c.self.inside.slots.items) (sym c.node.view_is) ∙ ap (first_owned c.node.inside.number 0) (sym c.as_slice.ensures.value))

pub put_value-requires : goal.put_value-requires
put_value-requires c =
    let t = named-there c.node.inside.number c.args.name.now 0 c.in-Some.number c.self.inside.slots.items (ap (first_named_slot c.node.inside.number c.args.name.now 0) (sym c.as_slice.ensures.value) ∙ (sym c.slot_named.ensures ∙ c.in-Some.is)) in omega (arith, t.1, get-within c.self.inside.slots.items t.0 t.2 t.3)

put : (c : goal.After-put_value) → IsLinked (document c.self.inside.nodes.items c.put_value.new.slots.items) c.self.inside.nodes.items c.put_value.new.slots.items × (document c.self.inside.nodes.items c.put_value.new.slots.items ≡ with_properties c.args.self.now (place_of c.args.self.now c.args.node) (set_property c.args.name.now c.in_ok-value-in-Some.value))
put c =
    after_value _ _ _ _ c.node.inside.number _ c.in-Some.number c.args.name.now c.in_ok-value-in-Some.value c.self.invariant c.self.view_is c.node.view_is c.requires.live (ap (first_named_slot c.node.inside.number c.args.name.now 0) (sym c.as_slice.ensures.value) ∙ (sym c.slot_named.ensures ∙ c.in-Some.is)) c.put_value.ensures

pub invariant_of-self : goal.invariant_of-self
invariant_of-self c = (put c).0

pub returns-in_ok-value-in-Some-clause-ok : goal.returns-in_ok-value-in-Some-clause-ok
returns-in_ok-value-in-Some-clause-ok c =
    (put c).1 ∙ ap (λ z. with_properties c.args.self.now (place_of c.args.self.now c.args.node) (set_property c.args.name.now z)) c.in_ok-value-in-Some.ensures

pub returns-in_ok-value-in-Some-clause-places : goal.returns-in_ok-value-in-Some-clause-places
returns-in_ok-value-in-Some-clause-places c = ap (λ (d : Document). d.places) (put c).1

pub returns-in-None-clause-ok : goal.returns-in-None-clause-ok
returns-in-None-clause-ok c =
    let f = reads _ _ _ _ _ _ _ c.self.invariant c.self.view_is c.node.view_is c.requires.live c.index.ensures in let missing : first_named_slot c.args.node c.args.name.now 0 c.self.inside.slots.items ≡ None = ap (λ k. first_named_slot k c.args.name.now 0 c.self.inside.slots.items) (sym c.node.view_is) ∙ (ap (first_named_slot c.node.inside.number c.args.name.now 0) (sym c.as_slice.ensures.value) ∙ (sym c.slot_named.ensures ∙ c.in-None.is)) in where_ok c.add_prop.result c.add_prop.ensures.ok (λ a. a ∙ added-is_set _ _ _ _ c.args.name.now c.args.bytes.now f missing)
