use Rattle.std.proofs.Common.{◌≡◌, ◌==◌, ℕ, List, [], ◌∷◌, ◌++◌, length, ap, sym, ◌∙◌}
use Rattle.fdt_write.specs.Opened.{path_inside}
use Rattle.fdt_write.proofs.OpenLemmas.{root-opened, node-opened}
use Rattle.fdt_write.proofs.open_nodes.OpenNodes.enter.Goals as goal
use Rattle.fdt_write.proofs.open_nodes.OpenNodes.enter.Goals.{then-is_empty, else-is_empty+in_ok-append_name}

pub returns : goal.returns
returns c =
    let held = c.self.inside in
    let inside = c.if-is_empty.self-inside in
    let none : (length held.lengths.items == 0) ≡ c.is_empty.result = ap (λ n. n == 0) (sym held.lengths.ok.0) ∙ sym c.is_empty.ensures in
    let above : c.len-above.result ≡ length held.path.items = c.len-above.ensures ∙ held.path.ok.0 in
    let viewed = ap (λ (nodes : List (List ℕ)). path_inside nodes c.args.name.now ∷ nodes) c.self.view_is in
    elim c.if-is_empty.branch [
      | then-is_empty w ↦ root-opened held.path.items inside.path.items c.args.name.now held.lengths.items c.push.new.self.items c.len-above.result (none ∙ w.if-is_empty.true) (ap (λ r. r.path.items) w.self-inside-is ∙ w.clear.ensures.items) (c.in_ok-push.ensures.items ∙ ap (λ r. r.lengths.items ++ c.len-above.result ∷ []) w.self-inside-is) ∙ viewed
      | else-is_empty+in_ok-append_name w ↦ node-opened held.path.items inside.path.items c.args.name.now held.lengths.items c.push.new.self.items c.len-above.result (none ∙ w.if-is_empty.false) above (ap (λ r. r.path.items) w.self-inside-is ∙ w.in_ok-append_name.ensures) (c.in_ok-push.ensures.items ∙ ap (λ r. r.lengths.items ++ c.len-above.result ∷ []) w.self-inside-is) ∙ viewed
    ]
