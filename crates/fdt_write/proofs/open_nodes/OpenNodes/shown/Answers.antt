use Rattle.std.proofs.Common.{reverse, sym, ◌∙◌}
use Rattle.fdt_write.proofs.OpenLemmas.{shown-root, shown-path}
use Rattle.fdt_write.proofs.open_nodes.OpenNodes.shown.Goals as goal

pub returns-then-is_empty : goal.returns-then-is_empty
returns-then-is_empty c = λ path others e.
    shown-root c.args.self.now others c.as_slice-path.result.now path (reverse c.self.inside.lengths.items) (cc) e (sym c.is_empty.ensures ∙ c.if-is_empty.true)

pub returns-else-is_empty : goal.returns-else-is_empty
returns-else-is_empty c = λ path others e.
    shown-path c.args.self.now others c.as_slice-path.result.now path (reverse c.self.inside.lengths.items) (cc) e (sym c.is_empty.ensures ∙ c.if-is_empty.false)
