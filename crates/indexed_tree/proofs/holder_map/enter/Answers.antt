use Rattle.std.proofs.Common.{◌≡◌, ◌∙◌, ap, sym, refl, rules, cond, Option, Some, None}
use Rattle.std.specs.Prelude.{bytes_eq}
use Rattle.fdt_tree.specs.Tree.{Place}
use Rattle.std.specs.Ordering.{nat_cmp}
use Rattle.std.specs.BTreeMap.{get, is_at}
use Rattle.indexed_tree.specs.PrivateHolders.{Holders}
use Rattle.indexed_tree.proofs.NameMaps.{updated}
use Rattle.indexed_tree.proofs.HolderMaps.{noted, nodes-some, nodes-none, nothing-named}
use Rattle.indexed_tree.proofs.holder_map.enter.Goals as goal

pub returns-in-Some-clause-ok : goal.returns-in-Some-clause-ok
returns-in-Some-clause-ok c =
    let p = c.args.phandle in
    let place = c.args.place.items in
    noted c.args.holders.now (c.get_mut.follows.lender c.insert.new.self) p c.insert.new.self place (Some c.args.number) (((c.get_mut.follows.holds c.insert.new.self).3 (search rules)).0)
    (λ there. updated c.in-Some.nodes.now c.insert.new.self place (Some c.args.number) c.in_ok-insert.ensures.updates there ∙ ap (cond (bytes_eq place there) (Some c.args.number)) (sym (nodes-some c.args.holders.now p c.in-Some.nodes.now there (sym c.in-Some.ensures.value))))

pub returns-clause-ok : goal.returns-clause-ok
returns-clause-ok c =
    let p = c.args.phandle in
    let place = c.args.place.items in
    noted c.args.holders.now c.insert-3.new.self p c.insert-2.new.self place (Some c.args.number) (λ q. c.in_ok-insert-3.ensures.updates.0 q ∙ ap (λ (m : Holders). cond (is_at (nat_cmp p) q) (Some c.insert-2.new.self) (get nat_cmp m q)) c.get_mut.follows.holds-at-none)
    (λ there. updated c.new-nodes.result c.insert-2.new.self place (Some c.args.number) c.in_ok-insert-2.ensures.updates there ∙ ap (cond (bytes_eq place there) (Some c.args.number)) (nothing-named c.new-nodes.result there c.new-nodes.ensures.empty ∙ sym (nodes-none c.args.holders.now p there (sym c.in_default.ensures.value))))
