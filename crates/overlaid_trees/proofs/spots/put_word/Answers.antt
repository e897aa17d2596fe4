use Rattle.overlaid_trees.proofs.PutLemmas.{spot-put}
use Rattle.overlaid_trees.proofs.spots.put_word.Goals as goal

pub returns-clause-ok : goal.returns-clause-ok
returns-clause-ok c = λ wanted is.
    spot-put c.args.tree.now c.in-Some.node c.args.path.now c.args.name.now c.args.offset wanted c.args.number c.in-Some.ensures.place is c.in-Some-word_of.ensures.small c.put_word.new.self c.in-Some-word_of.field-0 c.in-Some-word_of.ensures.word c.in_ok-put_word.ensures.ok
