use Rattle.std.proofs.Common.{◌≡◌, ◌∙◌, ap, sym, subst, true, false}
use Rattle.std.specs.Prelude.{bytes_eq, codes, OnOk}
use Rattle.std.proofs.lemmas.Slice.Eq.{bytes_eq-Decides}
use Rattle.fdt_tree.specs.Tree.{Bytes}
use Rattle.fdt_tree.specs.Document.{place_of, properties_of, with_properties}
use Rattle.fdt_tree.specs.PathEdits.{set_property}
use Rattle.indexed_tree.specs.PrivateArena.{held}
use Rattle.indexed_tree.proofs.PhandleEdits.{whole-tried, phandle-kept}
use Rattle.indexed_tree.proofs.phandles.set_whole.Goals as goal

pub returns-then-eq-clause-ok : goal.returns-then-eq-clause-ok
returns-then-eq-clause-ok c =
    let d = held c.args.entries.now.items in
    let named : bytes_eq c.args.name.now (codes "phandle") ≡ true = cc (c.as_slice.ensures, c.eq.ensures, c.if-eq.true) in
    subst (λ (n : Bytes). OnOk c.set_phandle.result (held c.set_phandle.new.entries.items ≡ with_properties d (place_of d c.args.node) (set_property n c.args.bytes.now))) (sym ((bytes_eq-Decides c.args.name.now (codes "phandle")).0 named)) c.set_phandle.ensures.ok

pub returns-clause-whole : goal.returns-clause-whole
returns-clause-whole c =
    let d = held c.args.entries.now.items in
    let named : bytes_eq c.args.name.now (codes "phandle") ≡ false = cc (c.as_slice.ensures, c.eq.ensures, c.if-eq.false) in
    whole-tried c.set.result c.args.entries.now.items c.set.new.entries.items c.args.holders.now c.args.node (set_property c.args.name.now c.args.bytes.now) c.requires.whole c.requires.live c.set.ensures.held c.set.ensures.ok c.set.ensures.err (phandle-kept c.args.name.now c.args.bytes.now (properties_of d c.args.node) named)
