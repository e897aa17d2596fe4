use Rattle.std.proofs.Common.{◌++◌, ap, sym, ◌∙◌, Some, codes, append_assoc}
use Rattle.fdt_tree.specs.Tree.{Tree}
use Rattle.std.specs.Prelude.{List}
use Rattle.guest_fdt.specs.Copies.{copied, copies}
use Rattle.tree_parts.proofs.Growing.{Grows-both, both-as, append-nothing}
use Rattle.guest_fdt.proofs.copies.add_copies.Goals as goal

pub returns : goal.returns
returns c =
    let partial = Some c.args.partial.now.tree in
    let one : List Tree = copied partial (codes "/passthrough") in
    let two : List Tree = copied partial (codes "/aliases") in
    let three : List Tree = copied partial (codes "/__symbols__") in
    both-as c.copy_found-3.result c.args.tree.now c.copy_found-2.new.tree c.copy_found-3.new.tree c.args.parent (one ++ two) three (copies partial) c.requires (Grows-both c.args.tree.now c.copy_found.new.tree c.copy_found-2.new.tree c.args.parent one two c.requires c.in_ok-copy_found.ensures c.in_ok-copy_found-2.ensures) c.copy_found-3.ensures (append_assoc one two three ∙ ap (λ z. one ++ (two ++ z)) (sym (append-nothing three)))
