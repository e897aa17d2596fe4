use Rattle.indexed_tree.specs.PrivateArena.{held}
use Rattle.indexed_tree.proofs.FirstHolders.{first-live, first-place}
use Rattle.indexed_tree.proofs.phandles.holder.Goals as goal

pub returns-clause-live : goal.returns-clause-live
returns-clause-live c = first-live (held c.args.entries.now) c.args.holders.now c.args.phandle c.first.result c.requires.holding c.first.ensures

pub returns-clause-place : goal.returns-clause-place
returns-clause-place c = first-place (held c.args.entries.now) c.args.holders.now c.args.phandle c.first.result c.requires.is_held.numbering c.requires.holding c.first.ensures
