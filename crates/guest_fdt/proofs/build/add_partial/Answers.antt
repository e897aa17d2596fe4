use Rattle.std.proofs.Common.{ap, option_map}
use Rattle.std.specs.Option.{option_copied}
use Rattle.fdt_tree.specs.Document.{Document}
use Rattle.guest_fdt.specs.Copies.{copies}
use Rattle.tree_parts.proofs.Growing.{Grows-none}
use Rattle.guest_fdt.proofs.build.add_partial.Goals as goal

pub returns-in-None : goal.returns-in-None
returns-in-None c =
    Grows-none c.args.tree.now c.args.root _ (ap (λ o. copies (option_map (λ (d : Document). d.tree) (option_copied o))) c.in-None.is)
