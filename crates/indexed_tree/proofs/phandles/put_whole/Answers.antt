use Rattle.std.proofs.Common.{◌≡◌, ◌∙◌, ap, sym, subst, List, ◌+◌, ◌≤◌, Option, Some, length}
use Rattle.std.specs.Prelude.{OnOk, IsSomeAnd}
use Rattle.fdt_tree.specs.Tree.{Bytes, property_of}
use Rattle.fdt_tree.specs.Document.{place_of, properties_of, with_properties}
use Rattle.fdt_tree.specs.PathEdits.{set_property}
use Rattle.indexed_tree.specs.Words.{with_word}
use Rattle.indexed_tree.specs.PrivateArena.{held}
use Rattle.indexed_tree.specs.declared.entry.Entry.{Entry}
use Rattle.indexed_tree.proofs.Values.{named-of, within-of}
use Rattle.indexed_tree.proofs.PhandleEdits.{phandle-long, word-long, whole-kept}
use Rattle.indexed_tree.proofs.phandles.put_whole.Goals as goal

pub returns-then-bytes-ne4-clause-whole : goal.returns-then-bytes-ne4-clause-whole
returns-then-bytes-ne4-clause-whole c =
    let es = c.args.entries.now.items in
    let d = held es in
    let v = c.in-Some.bytes.now in
    let there : property_of (properties_of d c.args.node) c.args.name.now ≡ Some v = ap (λ (xs : List Entry). property_of (properties_of (held xs) c.args.node) c.args.name.now) (sym c.as_slice.ensures.value) ∙ sym c.in-Some.ensures in
    let within : c.args.offset + 4 ≤ length v = within-of v (property_of (properties_of d c.args.node) c.args.name.now) c.args.offset (sym there) c.requires.within in
    whole-kept es c.put_word.new.entries.items c.args.holders.now c.args.node (set_property c.args.name.now (with_word v c.args.offset c.args.number)) c.requires.whole c.requires.live c.put_word.ensures.held (c.put_word.ensures.ok v there)
    (phandle-long c.args.name.now (with_word v c.args.offset c.args.number) v (properties_of d c.args.node) there c.if-bytes-ne4.true (word-long v c.args.offset c.args.number within))

pub set_whole-requires-clause-property_name : goal.set_whole-requires-clause-property_name
set_whole-requires-clause-property_name c =
    let es = c.args.entries.now.items in
    let d = held es in
    let v = c.in-Some.bytes.now in
    let there : Some v ≡ property_of (properties_of d c.args.node) c.args.name.now = c.in-Some.ensures ∙ ap (λ (xs : List Entry). property_of (properties_of (held xs) c.args.node) c.args.name.now) c.as_slice.ensures.value in
    named-of (properties_of d c.args.node) c.args.name.now v (c.requires.whole.is_held.kept.properties c.args.node c.requires.live) there

pub returns-clause-ok : goal.returns-clause-ok
returns-clause-ok c = λ bytes is.
    let es = c.args.entries.now.items in
    let d = held es in
    let v = c.in-Some.bytes.now in
    let there : Some v ≡ Some bytes = c.in-Some.ensures ∙ (ap (λ (xs : List Entry). property_of (properties_of (held xs) c.args.node) c.args.name.now) c.as_slice.ensures.value ∙ is) in
    let same : v ≡ bytes = cc in
    let made : c.as_slice-2.result.now ≡ with_word bytes c.args.offset c.args.number = c.as_slice-2.ensures ∙ (c.put_word-2.ensures ∙ ap (λ (b : Bytes). with_word b c.args.offset c.args.number) (c.in_ok-made.ensures ∙ same)) in
    subst (λ (b : Bytes). OnOk c.set_whole.result (held c.set_whole.new.entries.items ≡ with_properties d (place_of d c.args.node) (set_property c.args.name.now b))) made c.set_whole.ensures.ok
