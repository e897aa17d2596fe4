use Rattle.std.proofs.Common.{◌<◌, ◌∙◌, ap, sym, subst, ℕ, length, Option, IfSome, option_map}
use Rattle.fdt_tree.specs.Document.{place_of}
use Rattle.fdt_nodes.specs.ChildMaps.{named}
use Rattle.indexed_tree.specs.declared.entry.Entry.{Entry}
use Rattle.indexed_tree.specs.PrivateArena.{held}
use Rattle.indexed_tree.proofs.Settings.{entry-at}
use Rattle.indexed_tree.proofs.arena.child.Goals as goal

pub returns-clause-live : goal.returns-clause-live
returns-clause-live c =
    let d = held c.args.entries.now in
    let has = (entry-at d c.args.entries.now c.args.node c.index-entries-node.result c.requires.held c.requires.live c.index-entries-node.is).children in
    subst (λ (o : Option ℕ). IfSome o (λ child. child < length d.places)) (sym (c.copied.ensures ∙ (c.get.ensures.value ∙ ap (λ (e : Entry). named e.children c.args.name.now) (sym c.index-entries-node.is)))) (has.live c.args.name.now)

pub returns-clause-place : goal.returns-clause-place
returns-clause-place c =
    let d = held c.args.entries.now in
    let has = (entry-at d c.args.entries.now c.args.node c.index-entries-node.result c.requires.held c.requires.live c.index-entries-node.is).children in
    ap (option_map (place_of d)) (c.copied.ensures ∙ (c.get.ensures.value ∙ ap (λ (e : Entry). named e.children c.args.name.now) (sym c.index-entries-node.is))) ∙ has.places c.args.name.now
