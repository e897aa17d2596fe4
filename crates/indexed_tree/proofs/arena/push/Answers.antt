use Rattle.std.proofs.Common.{List, [], ◌∷◌, ◌++◌, set}
use Rattle.fdt_tree.specs.Tree.{Property}
use Rattle.indexed_tree.proofs.Settings.{IsTried, after-trying, names-at, have-last}
use Rattle.indexed_tree.specs.PrivateArena.{held}
use Rattle.indexed_tree.proofs.arena.push.Goals as goal

tried : (c : goal.After-entries-1) → IsTried c.args.entries.now.items (set c.args.entries.now.items c.args.node (record c.index_mut-entry.result.now { properties = c.push.new.self })) c.args.node (λ (ps : List Property). ps ++ (c.args.name.now, c.args.bytes.now) ∷ []) c.push.result
tried c =
    after-trying c.args.entries.now.items c.args.node c.index_mut-entry.result.now c.push.new.self (λ (ps : List Property). ps ++ (c.args.name.now, c.args.bytes.now) ∷ []) c.push.result c.requires.held c.requires.live c.index_mut-entry.ensures.value c.push.ensures.ok c.push.ensures.err
    (have-last c.args.name.now c.args.bytes.now c.index_mut-entry.result.now.properties (names-at (held c.args.entries.now.items) c.args.entries.now.items c.args.node c.index_mut-entry.result.now c.requires.held c.requires.live c.index_mut-entry.ensures.value) c.requires.property_name)

pub returns-clause-held : goal.returns-clause-held
returns-clause-held c = (tried c).is_held

pub returns-clause-ok : goal.returns-clause-ok
returns-clause-ok c = (tried c).document

pub returns-clause-places : goal.returns-clause-places
returns-clause-places c = (tried c).places

pub returns-clause-err : goal.returns-clause-err
returns-clause-err c = (tried c).failed
