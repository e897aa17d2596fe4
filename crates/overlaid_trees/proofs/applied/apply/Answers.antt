use Rattle.overlaid_trees.proofs.AppliedLemmas.{merge-made, merge-refused}
use Rattle.overlaid_trees.proofs.applied.apply.Goals as goal

pub returns-clause-ok : goal.returns-clause-ok
returns-clause-ok c =
    merge-made c.args.base.now.tree c.args.overlay.now.tree c.in_ok-above.above.tree c.in_ok-indexed.indexed.tree c.in_ok-above.ensures.ok c.in_ok-indexed.ensures c.in_ok-known.known.tree c.in_ok-known.ensures.ok c.merge.result c.merge.ensures.ok

pub returns-clause-refused : goal.returns-clause-refused
returns-clause-refused c =
    merge-refused c.args.base.now.tree c.args.overlay.now.tree c.in_ok-above.above.tree c.in_ok-indexed.indexed.tree c.in_ok-above.ensures.ok c.in_ok-indexed.ensures c.in_ok-known.known.tree c.in_ok-known.ensures.ok c.merge.result c.merge.ensures.refused
