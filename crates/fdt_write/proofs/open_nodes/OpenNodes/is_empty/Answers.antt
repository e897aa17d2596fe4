use Rattle.std.proofs.Common.{◌==◌, ◌∙◌, ap, ℕ, List, length}
use Rattle.fdt_write.proofs.OpenLemmas.{no-paths}
use Rattle.fdt_write.proofs.open_nodes.OpenNodes.is_empty.Goals as goal

pub returns : goal.returns
returns c =
    c.is_empty.ensures ∙ (ap (λ n. n == 0) c.self.inside.lengths.ok.0 ∙ (no-paths c.self.inside.path.items c.self.inside.lengths.items ∙ ap (λ (nodes : List (List ℕ)). length nodes == 0) c.self.view_is))
