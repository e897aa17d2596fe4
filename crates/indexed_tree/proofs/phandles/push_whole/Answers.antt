use Rattle.std.proofs.Common.{◌≡◌, ◌∙◌, ap, sym, subst, List, [], ◌∷◌, ◌++◌, Some, None}
use Rattle.std.specs.Prelude.{OnOk}
use Rattle.fdt_tree.specs.Tree.{Property, property_of}
use Rattle.fdt_tree.specs.Document.{place_of, properties_of, with_properties}
use Rattle.indexed_tree.specs.PrivateArena.{held}
use Rattle.indexed_tree.specs.declared.entry.Entry.{Entry}
use Rattle.indexed_tree.proofs.PhandleEdits.{set-missing-there, phandle-last, whole-tried}
use Rattle.indexed_tree.proofs.phandles.push_whole.Goals as goal

pub returns-in-None-clause-ok : goal.returns-in-None-clause-ok
returns-in-None-clause-ok c =
    let es = c.args.entries.now.items in
    let missing : property_of (properties_of (held es) c.args.node) c.args.name.now ≡ None = ap (λ (xs : List Entry). property_of (properties_of (held xs) c.args.node) c.args.name.now) (sym c.as_slice.ensures.value) ∙ sym c.in-None.ensures in
    set-missing-there es c.set_whole.new.entries.items c.args.node c.args.name.now c.args.bytes.now c.set_whole.result c.requires.whole.is_held c.requires.live missing c.set_whole.ensures.ok

pub returns-in-Some-clause-whole : goal.returns-in-Some-clause-whole
returns-in-Some-clause-whole c =
    let es = c.args.entries.now.items in
    let there : property_of (properties_of (held es) c.args.node) c.args.name.now ≡ Some c.in-Some.field-0.now = ap (λ (xs : List Entry). property_of (properties_of (held xs) c.args.node) c.args.name.now) (sym c.as_slice.ensures.value) ∙ sym c.in-Some.ensures in
    whole-tried c.push.result es c.push.new.entries.items c.args.holders.now c.args.node (λ (ps : List Property). ps ++ (c.args.name.now, c.args.bytes.now) ∷ []) c.requires.whole c.requires.live c.push.ensures.held c.push.ensures.ok c.push.ensures.err
    (phandle-last c.args.name.now c.args.bytes.now c.in-Some.field-0.now (properties_of (held es) c.args.node) there)
