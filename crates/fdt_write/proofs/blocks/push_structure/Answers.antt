use Rattle.std.proofs.Common.{List, length}
use Rattle.std.proofs.lemmas.Iterator.Consumers.{YieldsList-from_first, YieldsList-turn}
use Rattle.fdt_read.specs.Spelling.{spelled_whole}
use Rattle.fdt_read.specs.Tokens.{Token}
use Rattle.fdt_write.specs.PrivateHeld.{held}
use Rattle.fdt_write.specs.Meaning.{meaning}
use Rattle.fdt_write.proofs.NamedLemmas.{named-at, fits-at}
use Rattle.fdt_write.proofs.blocks.push_structure.Goals as goal

pub push_token-requires-clause-named : goal.push_token-requires-clause-named
push_token-requires-clause-named c =
    let tree = c.args.tree.now.tree in
    let turn = YieldsList-turn (YieldsList-from_first meaning (λ (tokens : List Token). tokens) (spelled_whole tree) (cc c.new-token-items.ensures)) c.loop-token.yielded _ c.loop-token.yielded_by _ c.next.new.self c.in-Some.token c.in-Some.is c.next.ensures.steps in
    named-at tree (held c.args.names.now) (length c.loop-token.yielded) (meaning c.in-Some.token) c.requires.names turn

pub push_token-requires-clause-fits : goal.push_token-requires-clause-fits
push_token-requires-clause-fits c =
    let tree = c.args.tree.now.tree in
    let turn = YieldsList-turn (YieldsList-from_first meaning (λ (tokens : List Token). tokens) (spelled_whole tree) (cc c.new-token-items.ensures)) c.loop-token.yielded _ c.loop-token.yielded_by _ c.next.new.self c.in-Some.token c.in-Some.is c.next.ensures.steps in
    fits-at tree (held c.args.names.now) (length c.loop-token.yielded) (meaning c.in-Some.token) c.requires.names turn c.requires.fits
