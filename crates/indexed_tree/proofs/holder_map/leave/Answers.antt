use Rattle.std.proofs.Common.{◌≡◌, ◌∙◌, ap, sym, refl, rules, cond, Option, Some, None}
use Rattle.std.specs.Prelude.{bytes_eq}
use Rattle.indexed_tree.proofs.NameMaps.{updated}
use Rattle.indexed_tree.proofs.HolderMaps.{noted, nodes-some}
use Rattle.indexed_tree.proofs.holder_map.leave.Goals as goal

pub returns-in-Some : goal.returns-in-Some
returns-in-Some c =
    let p = c.args.phandle in
    let place = c.args.place.now in
    noted c.args.holders.now (c.get_mut.follows.lender c.remove.new.self) p c.remove.new.self place None (((c.get_mut.follows.holds c.remove.new.self).3 (search rules)).0)
    (λ there. updated c.in-Some.nodes.now c.remove.new.self place None c.remove.ensures.updates there ∙ ap (cond (bytes_eq place there) None) (sym (nodes-some c.args.holders.now p c.in-Some.nodes.now there (sym c.in-Some.ensures.value))))
