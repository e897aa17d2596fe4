use Rattle.std.proofs.Common.{◌≡◌, ◌∙◌, ap, sym, ℕ, List}
use Rattle.std.specs.Prelude.{codes}
use Rattle.std.specs.Option.{option_to_list}
use Rattle.fdt_tree.specs.Tree.{Property, Place}
use Rattle.fdt_tree.specs.Document.{place_of, properties_of}
use Rattle.fdt_tree.specs.PathEdits.{set_property}
use Rattle.fdt_tree.specs.Phandles.{phandle_of}
use Rattle.indexed_tree.specs.PrivateArena.{held}
use Rattle.indexed_tree.specs.declared.entry.Entry.{Entry}
use Rattle.indexed_tree.proofs.Settings.{entry-at, properties-at}
use Rattle.indexed_tree.proofs.Holds.{holding-same}
use Rattle.indexed_tree.proofs.PhandleEdits.{same-option, other-option, phandle-set, whole-tried, whole-moved, whole-undone}
use Rattle.indexed_tree.proofs.phandles.set_phandle.Goals as goal

pub returns-then-eq-clause-whole : goal.returns-then-eq-clause-whole
returns-then-eq-clause-whole c =
    let es = c.args.entries.now.items in
    let d = held es in
    let ps = properties_of d c.args.node in
    let own : option_to_list c.own_phandle-before.result ≡ phandle_of ps = c.own_phandle-before.ensures ∙ ap phandle_of (sym (properties-at d es c.args.node c.index.result.now c.requires.whole.is_held c.requires.live c.index.ensures)) in
    let same = same-option c.own_phandle-before.result c.phandle_in-after.result (sym c.if-eq.ensures) in
    whole-tried c.set.result es c.set.new.entries.items c.args.holders.now c.args.node (set_property (codes "phandle") c.args.bytes.now) c.requires.whole c.requires.live c.set.ensures.held c.set.ensures.ok c.set.ensures.err
    (phandle-set c.args.bytes.now ps ∙ (ap option_to_list (sym c.phandle_in-after.ensures ∙ sym same) ∙ own))

pub returns-in_err-note-clause-whole : goal.returns-in_err-note-clause-whole
returns-in_err-note-clause-whole c = record {
  is_held = c.requires.whole.is_held;
  holding = holding-same (held c.args.entries.now.items) c.args.holders.now c.note.new.holders c.requires.whole.holding c.in_err-note.ensures.err;
}

pub returns-in-Ok-clause-whole : goal.returns-in-Ok-clause-whole
returns-in-Ok-clause-whole c =
    let es = c.args.entries.now.items in
    let d = held es in
    let own : option_to_list c.own_phandle-before.result ≡ phandle_of (properties_of d c.args.node) = c.own_phandle-before.ensures ∙ ap phandle_of (sym (properties-at d es c.args.node c.index.result.now c.requires.whole.is_held c.requires.live c.index.ensures)) in
    let place : c.in_ok-place.place.items ≡ place_of d c.args.node = c.in_ok-place.ensures.items_if_clones_equal (λ x y e. e) ∙ (c.as_slice.ensures.value ∙ (entry-at d es c.args.node c.index-2.result.now c.requires.whole.is_held c.requires.live c.index-2.ensures).stands) in
    let key : c.in_ok-key.key.items ≡ place_of d c.args.node = c.in_ok-key.ensures.items_if_clones_equal (λ x y e. e) ∙ (c.as_slice-2.ensures.value ∙ place) in
    whole-moved es c.set-2.new.entries.items c.args.holders.now c.note.new.holders c.forget.new.holders c.args.node c.args.bytes.now c.as_slice-in-Ok.result.now c.in_ok-key.key.items c.own_phandle-before.result c.phandle_in-after.result c.requires.whole c.requires.live own c.phandle_in-after.ensures (other-option c.own_phandle-before.result c.phandle_in-after.result (sym c.if-eq.ensures)) (c.as_slice-in-Ok.ensures.value ∙ place) key c.in_ok-note.ensures.ok c.in-Ok.ensures.held c.in-Ok.ensures.ok c.forget.ensures

pub returns-clause-whole : goal.returns-clause-whole
returns-clause-whole c =
    let es = c.args.entries.now.items in
    let d = held es in
    let own : option_to_list c.own_phandle-before.result ≡ phandle_of (properties_of d c.args.node) = c.own_phandle-before.ensures ∙ ap phandle_of (sym (properties-at d es c.args.node c.index.result.now c.requires.whole.is_held c.requires.live c.index.ensures)) in
    let place : c.in_ok-place.place.items ≡ place_of d c.args.node = c.in_ok-place.ensures.items_if_clones_equal (λ x y e. e) ∙ (c.as_slice.ensures.value ∙ (entry-at d es c.args.node c.index-2.result.now c.requires.whole.is_held c.requires.live c.index-2.ensures).stands) in
    let key : c.in_ok-key.key.items ≡ place_of d c.args.node = c.in_ok-key.ensures.items_if_clones_equal (λ x y e. e) ∙ (c.as_slice-2.ensures.value ∙ place) in
    whole-undone es c.set-2.new.entries.items c.args.holders.now c.note.new.holders c.forget-in-Err.new.holders c.args.node c.args.bytes.now c.as_slice-in-Err.result.now c.in_ok-key.key.items c.own_phandle-before.result c.phandle_in-after.result c.requires.whole c.requires.live own c.phandle_in-after.ensures (other-option c.own_phandle-before.result c.phandle_in-after.result (sym c.if-eq.ensures)) (c.as_slice-in-Err.ensures.value ∙ place) key c.in_ok-note.ensures.ok c.in-Err.ensures.held c.in-Err.ensures.err c.forget-in-Err.ensures
