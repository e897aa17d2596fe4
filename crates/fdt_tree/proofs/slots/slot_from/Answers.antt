use Rattle.std.proofs.Common.{◌≡◌, ◌+◌, ◌-◌, slice_get, sym, ap, ◌∙◌, arith}
use Rattle.fdt_tree.specs.PrivateLinks.{from}
use Rattle.fdt_tree.proofs.Runs.{jumped}
use Rattle.fdt_tree.proofs.slots.slot_from.Goals as goal

pub prove-unreachable-requires : goal.prove-unreachable-requires
prove-unreachable-requires c =
    let j = jumped _ c.in-Some.number _ c.args.index _ _ _ c.requires.beside.1 c.in-Some.is c.min-steps.ensures in omega (arith, j.0, c.if-prove.true)

pub slot_after-requires-clause-within : goal.slot_after-requires-clause-within
slot_after-requires-clause-within c =
    let j = jumped _ c.in-Some.number _ c.args.index _ _ _ c.requires.beside.1 c.in-Some.is c.min-steps.ensures in omega (arith, c.requires.within, j.1.fewer, c.min-steps.ensures)

pub returns-in-Some : goal.returns-in-Some
returns-in-Some c =
    let j = jumped _ c.in-Some.number _ c.args.index _ _ _ c.requires.beside.1 c.in-Some.is c.min-steps.ensures in
    let back : c.min-steps.result + (c.args.index - c.min-steps.result) ≡ c.args.index = omega (arith, c.min-steps.ensures) in
    ap (slice_get (from c.args.slots.now c.args.first)) (sym back) ∙ (j.1.same (c.args.index - c.min-steps.result) ∙ c.slot_after.ensures)
