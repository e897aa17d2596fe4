use Rattle.std.proofs.Common.{[], ◌∷◌, refl, subst}
use Rattle.std.specs.Prelude.{Option}
use Rattle.fdt_tree.specs.Tree.{Bytes}
use Rattle.tree_parts.specs.Grown.{Grows}
use Rattle.guest_fdt.specs.GuestTree.{first_nodes}
use Rattle.guest_fdt.specs.Machine.{chosen, cpus, psci}
use Rattle.tree_parts.specs.Nodes.{trees_of}
use Rattle.tree_parts.proofs.Growing.{Grows-both, both-as}
use Rattle.guest_fdt.proofs.build.add_first.Goals as goal

pub returns : goal.returns
returns c =
    let layout = c.args.layout.now in
    let guest = c.args.guest.now in
    let start : Grows c.args.tree.now c.add_chosen.new.tree c.args.root (trees_of (chosen layout.console guest.bootargs guest.console ∷ [])) = subst (λ (o : Option Bytes). Grows c.args.tree.now c.add_chosen.new.tree c.args.root (trees_of (chosen layout.console o guest.console ∷ []))) c.as_ref.ensures.value c.in_ok-add_chosen.ensures in
    both-as c.add_psci.result c.args.tree.now c.add_cpus.new.tree c.add_psci.new.tree c.args.root (chosen layout.console guest.bootargs guest.console ∷ cpus guest.cpus ∷ []) (psci ∷ []) (first_nodes layout guest) c.requires.live (Grows-both c.args.tree.now c.add_chosen.new.tree c.add_cpus.new.tree c.args.root (chosen layout.console guest.bootargs guest.console ∷ []) (cpus guest.cpus ∷ []) c.requires.live start c.in_ok-add_cpus.ensures) c.add_psci.ensures refl
