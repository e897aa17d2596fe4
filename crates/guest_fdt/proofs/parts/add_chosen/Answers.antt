use Rattle.std.proofs.Common.{◌≡◌, [], ◌∷◌, ◌++◌, ap, ◌∙◌, codes}
use Rattle.std.specs.Option.{option_copied}
use Rattle.tree_parts.specs.Grown.{with_more}
use Rattle.guest_fdt.specs.Machine.{chosen, console_name}
use Rattle.tree_parts.specs.Nodes.{on, on_some, text}
use Rattle.tree_parts.proofs.Growing.{leaf-added, Grows-leaf, with_more-twice}
use Rattle.guest_fdt.proofs.parts.add_chosen.Goals as goal

pub returns : goal.returns
unfolding chosen
returns c =
    let d = c.args.tree.now in
    let node = c.in_ok-node.node in
    let first = on_some (option_copied c.args.bootargs) (λ bytes. (codes "bootargs", bytes) ∷ []) in
    let last = on c.args.console (text (codes "stdout-path") (codes "/" ++ console_name c.args.area) ∷ []) in
    let given : c.add_output.new.tree ≡ with_more c.add_empty.new.tree node (first ++ last) = c.in_ok-add_output.ensures ∙ (ap (λ e. with_more e node last) c.in_ok-add_bootargs.ensures ∙ with_more-twice c.add_empty.new.tree node first last) in
    Grows-leaf d c.add_output.new.tree c.args.root (codes "chosen") (first ++ last) (leaf-added d c.add_empty.new.tree c.add_output.new.tree c.args.root node (codes "chosen") (first ++ last) c.numbering.ensures c.requires c.in_ok-node.ensures.ok c.in_ok-node.ensures.newest given)
