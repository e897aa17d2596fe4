use Rattle.std.proofs.Common.{List, ℕ, ◌++◌, Bor, flat_map, sym, ap, ◌∙◌}
use Rattle.std.proofs.lemmas.List.Folds.{flat_map-map}
use Rattle.fdt_write.specs.Strings.{ended}
use Rattle.fdt_write.proofs.names.Names.push_to.Goals as goal

pub returns : goal.returns
returns c =
    c.in_ok-push_each.ensures ∙ (ap (λ (names : List (Bor (List ℕ))). c.args.out.now.items ++ flat_map (λ name. ended name.now) names) c.as_slice.ensures.value ∙ ap (λ bytes. c.args.out.now.items ++ bytes) (sym (flat_map-map ended (λ (name : Bor (List ℕ)). name.now) c.args.self.now.order.items)))
