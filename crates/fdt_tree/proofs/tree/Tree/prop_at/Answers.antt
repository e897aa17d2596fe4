use Rattle.std.proofs.Common.{length, slice_get, sym, ap, ◌∙◌, arith, subst, List}
use Rattle.fdt_tree.specs.Assembled.{StandBeside}
use Rattle.fdt_tree.specs.declared.node.Slot.{Slot}
use Rattle.fdt_tree.proofs.Links.{reads}
use Rattle.fdt_tree.proofs.Additions.{all_of}
use Rattle.fdt_tree.proofs.tree.Tree.prop_at.Goals as goal

pub slot_from-requires-clause-beside : goal.slot_from-requires-clause-beside
slot_from-requires-clause-beside c =
    let f = reads _ _ _ _ _ _ _ c.self.invariant c.self.view_is c.node.view_is c.requires.live c.index-held.ensures in (c.args.node, subst (λ (xs : List Slot). StandBeside c.args.node c.index-held.result.now.first_property c.index-held.result.now.run xs) (sym c.as_slice.ensures.value) f.beside)

pub slot_from-requires-clause-within : goal.slot_from-requires-clause-within
slot_from-requires-clause-within c =
    let f = reads _ _ _ _ _ _ _ c.self.invariant c.self.view_is c.node.view_is c.requires.live c.index-held.ensures in omega (arith, c.requires.within, ap length (all_of _ _ _ _ _ f c.as_slice.ensures.value))

pub returns : goal.returns
returns c =
    let f = reads _ _ _ _ _ _ _ c.self.invariant c.self.view_is c.node.view_is c.requires.live c.index-held.ensures in ap (λ z. slice_get z c.args.index) (sym (all_of _ _ _ _ _ f c.as_slice.ensures.value)) ∙ c.slot_from.ensures
