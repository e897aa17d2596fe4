use Rattle.fdt_write.specs.PrivateHeld.{held}
use Rattle.fdt_write.proofs.Whole.{all-parts}
use Rattle.fdt_write.proofs.flat.push_all.Goals as goal

pub returns : goal.returns
returns c =
    let sizes = c.args.sizes in
    all-parts c.args.reserves.now c.args.boot c.args.tree.now.tree (held c.args.names.now) sizes.reserved sizes.structured sizes.named c.in_ok-out.out.items c.push_header.new.out.items c.push_reserves.new.out.items c.push_structure.new.out.items c.push_to.new.out.items (record { reserved = c.requires.reserved; structured = c.requires.structured; named = c.requires.named; fits = c.requires.fits }) c.requires.names c.in_ok-out.ensures.items c.in_ok-push_header.ensures c.in_ok-push_reserves.ensures c.in_ok-push_structure.ensures c.in_ok-push_to.ensures
