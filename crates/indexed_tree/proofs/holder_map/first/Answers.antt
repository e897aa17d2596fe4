use Rattle.std.proofs.Common.{◌≡◌, ◌∙◌, ap, sym, subst, Option, Some}
use Rattle.std.specs.Prelude.{IsSome}
use Rattle.fdt_tree.specs.Tree.{Place}
use Rattle.fdt_nodes.specs.ChildMaps.{named}
use Rattle.indexed_tree.specs.PrivateHolders.{holder_at}
use Rattle.indexed_tree.proofs.HolderMaps.{nodes-some, least-place}
use Rattle.indexed_tree.proofs.holder_map.first.Goals as goal

pub returns-in-Some-first_key_value : goal.returns-in-Some-first_key_value
returns-in-Some-first_key_value c =
    let h = c.args.holders.now in
    let p = c.args.phandle in
    let nodes = c.in-Some.nodes.now in
    let key = c.in-Some-first_key_value.field-0-0.now in (
      key.items,
      nodes-some h p nodes key.items (sym c.in-Some.ensures.value) ∙ c.in-Some-first_key_value.ensures.value,
      λ there some. least-place nodes key c.in-Some-first_key_value.ensures.all_from there (subst (λ (o : Option _). IsSome o) (nodes-some h p nodes there (sym c.in-Some.ensures.value)) some),
    )
