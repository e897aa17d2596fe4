use Rattle.std.proofs.Common.{set}
use Rattle.indexed_tree.specs.PrivateArena.{held}
use Rattle.indexed_tree.proofs.Settings.{IsWritten, after-writing, within-at}
use Rattle.indexed_tree.proofs.arena.put_word.Goals as goal

pub put_word-requires : goal.put_word-requires
put_word-requires c =
    within-at (held c.args.entries.now.items) c.args.entries.now.items c.args.node c.index_mut-entry.result.now c.args.name.now c.args.offset c.requires.held c.requires.live c.index_mut-entry.ensures.value c.requires.within

written : (c : goal.After-entries-1) → IsWritten c.args.entries.now.items (set c.args.entries.now.items c.args.node (record c.index_mut-entry.result.now { properties = c.put_word.new.self })) c.args.node c.args.name.now c.args.offset c.args.number
written c =
    after-writing c.args.entries.now.items c.args.node c.index_mut-entry.result.now c.put_word.new.self c.args.name.now c.args.offset c.args.number c.requires.held c.requires.live c.index_mut-entry.ensures.value c.requires.within c.put_word.ensures

pub returns-clause-held : goal.returns-clause-held
returns-clause-held c = (written c).is_held

pub returns-clause-ok : goal.returns-clause-ok
returns-clause-ok c = (written c).document

pub returns-clause-places : goal.returns-clause-places
returns-clause-places c = (written c).places
