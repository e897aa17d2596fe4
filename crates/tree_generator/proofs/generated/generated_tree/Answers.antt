use Rattle.std.proofs.Common.{◌<◌, ◌∷◌, [], ℕ, length, subst, sym}
use Rattle.fdt_tree.specs.Document.{Document}
use Rattle.tree_parts.proofs.Growing.{Grows-both, built}
use Rattle.tree_generator.specs.Generated.{guest_count, pages_of, memory, chosen, tree_with}
use Rattle.tree_parts.specs.Nodes.{two_and_two}
use Rattle.tree_generator.proofs.generated.generated_tree.Goals as goal

pub returns : goal.returns
unfolding tree_with
returns c =
    let number : ℕ = c.args.number in
    let root = c.root-root.result in
    let given = c.add_root.new.tree in
    let live : root < length given.places = subst (λ (d : Document). root < length d.places) (sym c.in_ok-add_root.ensures) c.root-root.ensures.live in
    let guests = chosen (guest_count number) (pages_of number) in
    built c.in_ok-tree.tree given c.add_chosen.new.tree root two_and_two (memory ∷ guests ∷ []) c.in_ok-tree.ensures c.root-root.ensures.place c.in_ok-add_root.ensures
    (Grows-both given c.add_memory.new.tree c.add_chosen.new.tree root (memory ∷ []) (guests ∷ []) live c.in_ok-add_memory.ensures c.in_ok-add_chosen.ensures)
