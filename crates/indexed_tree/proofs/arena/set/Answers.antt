use Rattle.fdt_tree.specs.PathEdits.{set_property}
use Rattle.indexed_tree.proofs.Settings.{IsTried, after-trying, names-at, have-set}
use Rattle.indexed_tree.specs.PrivateArena.{held}
use Rattle.std.proofs.Common.{set}
use Rattle.indexed_tree.proofs.arena.set.Goals as goal

tried : (c : goal.After-entries-1) → IsTried c.args.entries.now.items (set c.args.entries.now.items c.args.node (record c.index_mut-entry.result.now { properties = c.set.new.self })) c.args.node (set_property c.args.name.now c.args.bytes.now) c.set.result
tried c =
    after-trying c.args.entries.now.items c.args.node c.index_mut-entry.result.now c.set.new.self (set_property c.args.name.now c.args.bytes.now) c.set.result c.requires.held c.requires.live c.index_mut-entry.ensures.value c.set.ensures.ok c.set.ensures.err
    (have-set c.args.name.now c.args.bytes.now c.index_mut-entry.result.now.properties (names-at (held c.args.entries.now.items) c.args.entries.now.items c.args.node c.index_mut-entry.result.now c.requires.held c.requires.live c.index_mut-entry.ensures.value) c.requires.property_name)

pub returns-clause-held : goal.returns-clause-held
returns-clause-held c = (tried c).is_held

pub returns-clause-ok : goal.returns-clause-ok
returns-clause-ok c = (tried c).document

pub returns-clause-places : goal.returns-clause-places
returns-clause-places c = (tried c).places

pub returns-clause-err : goal.returns-clause-err
returns-clause-err c = (tried c).failed
