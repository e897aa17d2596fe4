use Rattle.std.proofs.Common.{◌≡◌, ◌≢◌, ◌∙◌, ap, subst, List, []}
use Rattle.fdt_tree.specs.Tree.{Bytes, depth, depth_limit}
use Rattle.fdt_tree.specs.Document.{place_of, with_node}
use Rattle.indexed_tree.specs.PrivateArena.{held, IsHeld, IsFresh, IsAdded}
use Rattle.indexed_tree.specs.declared.entry.Entry.{Entry}
use Rattle.indexed_tree.proofs.Growing.{after-adding, after-failing, document-failing, on-err, one-longer}
use Rattle.indexed_tree.proofs.arena.add.Goals as goal

pub returns-in_err-grow-clause-held : goal.returns-in_err-grow-clause-held
returns-in_err-grow-clause-held c = after-failing c.args.entries.now.items c.grow.new.entries.items c.args.parent c.requires.held c.in_err-grow.ensures.err

deep : (c : goal.In_ok-grow) → depth (place_of (held c.args.entries.now.items) c.args.parent) ≢ depth_limit
deep c = λ e. c.if-depth-eq-DEPTH_LIMIT.false (c.depth.ensures.depth ∙ (ap (λ (es : List Entry). depth (place_of (held es) c.args.parent)) c.as_slice.ensures.value ∙ e))

grown : (c : goal.In_ok-grow) → IsHeld (held c.grow.new.entries.items) c.grow.new.entries.items × (held c.grow.new.entries.items ≡ with_node (held c.args.entries.now.items) (place_of (held c.args.entries.now.items) c.args.parent) c.args.name.now [])
grown c =
    after-adding c.args.entries.now.items c.grow.new.entries.items c.args.parent c.args.name.now c.in_ok-entry.entry c.requires.held c.requires.live (deep c) c.requires.node_name
    (subst (λ (es : List Entry). IsFresh es c.args.parent c.args.name.now c.in_ok-entry.entry) c.as_slice-2.ensures.value c.in_ok-entry.ensures)
    (subst (λ (n : Bytes). IsAdded c.args.entries.now.items c.grow.new.entries.items c.args.parent n c.in_ok-entry.entry) (c.in_ok-key.ensures.items_if_clones_equal (λ x y e. e)) c.in_ok-grow.ensures.ok)

pub returns-clause-held : goal.returns-clause-held
returns-clause-held c = (grown c).0

pub returns-clause-ok : goal.returns-clause-ok
returns-clause-ok c = (grown c).1

pub returns-clause-longer : goal.returns-clause-longer
returns-clause-longer c =
    one-longer c.args.entries.now.items c.grow.new.entries.items c.args.parent c.len-number.result c.args.name.now (c.len-number.ensures ∙ c.args.entries.now.ok.0) c.requires.held (grown c).1

pub returns-in_err-grow-clause-err : goal.returns-in_err-grow-clause-err
returns-in_err-grow-clause-err c = on-err c.from_residual-in_err-grow.result (document-failing c.args.entries.now.items c.grow.new.entries.items c.args.parent c.requires.held c.in_err-grow.ensures.err)
