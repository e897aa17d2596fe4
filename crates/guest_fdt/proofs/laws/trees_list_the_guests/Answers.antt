use Rattle.guest_fdt.proofs.PlannedTreeLemmas.{guests_are_listed}
use Rattle.guest_fdt.proofs.laws.trees_list_the_guests.Goals as goal

pub returns : goal.returns
returns c = guests_are_listed
