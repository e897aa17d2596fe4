use Rattle.std.proofs.Common.{[], ◌∷◌, ◌++◌, ap, sym, ◌∙◌, codes}
use Rattle.fdt_tree.specs.Tree.{Bytes}
use Rattle.tree_parts.specs.Grown.{with_more}
use Rattle.guest_fdt.specs.Machine.{console_name}
use Rattle.tree_parts.specs.Nodes.{on, text}
use Rattle.tree_parts.proofs.Growing.{with_more-nothing, given-as}
use Rattle.guest_fdt.proofs.parts.add_output.Goals as goal

pub returns-in_ok-path : goal.returns-in_ok-path
returns-in_ok-path c =
    given-as c.add_rows.result c.args.tree.now c.add_rows.new.tree c.args.node (text (codes "stdout-path") c.as_slice.result.now ∷ []) (on c.args.console (text (codes "stdout-path") (codes "/" ++ console_name c.args.area) ∷ [])) c.add_rows.ensures (ap (λ (p : Bytes). text (codes "stdout-path") p ∷ []) (c.as_slice.ensures ∙ c.in_ok-path.ensures) ∙ ap (λ b. on b (text (codes "stdout-path") (codes "/" ++ console_name c.args.area) ∷ [])) (sym c.if-console.true))

pub returns-else-console : goal.returns-else-console
returns-else-console c =
    sym (ap (λ b. with_more c.args.tree.now c.args.node (on b (text (codes "stdout-path") (codes "/" ++ console_name c.args.area) ∷ []))) c.if-console.false ∙ with_more-nothing c.args.tree.now c.args.node)
