use Rattle.std.proofs.Common.{[], ◌∷◌, ap, sym, ◌∙◌, codes}
use Rattle.std.specs.Option.{option_copied}
use Rattle.tree_parts.specs.Grown.{with_more}
use Rattle.tree_parts.specs.Nodes.{on_some}
use Rattle.tree_parts.proofs.Growing.{with_more-nothing}
use Rattle.guest_fdt.proofs.parts.add_bootargs.Goals as goal

pub returns-in-None : goal.returns-in-None
returns-in-None c =
    sym (ap (λ o. with_more c.args.tree.now c.args.node (on_some (option_copied o) (λ bytes. (codes "bootargs", bytes) ∷ []))) c.in-None.is ∙ with_more-nothing c.args.tree.now c.args.node)
