use Rattle.std.proofs.Common.{List}
use Rattle.std.proofs.lemmas.Iterator.Consumers.{YieldsList-from_first, YieldsList-end}
use Rattle.fdt_read.specs.Spelling.{spelled_whole}
use Rattle.fdt_read.specs.Tokens.{Token}
use Rattle.fdt_write.specs.PrivateHeld.{held}
use Rattle.fdt_write.specs.Meaning.{meaning}
use Rattle.fdt_write.proofs.UsedLemmas.{names-step, names-all}
use Rattle.fdt_write.proofs.names.Names.of_tree.Goals as goal

pub loop-token-preserved : goal.loop-token-preserved
loop-token-preserved c =
    names-step c.loop-token.yielded c.in-Some.token (held c.loop-token.names) (held c.add_used.new.self) c.loop-token.invariant c.in_ok-add_used.ensures

pub returns : goal.returns
returns c =
    let tree = c.args.tree.now.tree in
    let all = YieldsList-end (YieldsList-from_first meaning (λ (tokens : List Token). tokens) (spelled_whole tree) (cc c.new-token-items.ensures)) c.loop-token.yielded _ c.loop-token.yielded_by _ c.next.new.self c.in-None.is c.next.ensures.steps in
    names-all tree c.loop-token.yielded (held c.loop-token.names) c.loop-token.invariant all.0
