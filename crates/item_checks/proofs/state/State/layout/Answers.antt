use Rattle.std.proofs.Common.{Bool, ap, ◌∙◌}
use Rattle.item_checks.specs.Layouts.{layout_of}
use Rattle.item_checks.proofs.LayoutLemmas.{layout_told}
use Rattle.item_checks.proofs.state.State.layout.Goals as goal

pub returns : goal.returns
returns c guest before stands =
    c.layout_of.ensures ∙ ap (λ (console : Bool). layout_of c.args.host.now c.args.self.now.last.direct console) c.is_some.ensures
    ∙ layout_told c.args.host.now c.args.self.now guest before stands
