use Rattle.guest_fdt.proofs.TreeLaw.{tree_lists_the_guest}
use Rattle.guest_fdt.proofs.laws.tree_lists_the_guest.Goals as goal

pub returns : goal.returns
returns c = tree_lists_the_guest
