use Rattle.std.proofs.Common.{ap, ◌∙◌}
use Rattle.fdt_write.specs.Left.{tokens_of}
use Rattle.fdt_write.proofs.TokenLemmas.{tokens-end, first-live, rest-live, none-live}
use Rattle.fdt_write.proofs.tree_tokens.next_visited.Goals as goal

pub visited-requires : goal.visited-requires
visited-requires c =
    first-live c.args.tree.now c.args.walk.now c.next.new.self c.in-Some.visit c.in-Some.ensures.steps c.requires

pub returns-in-Some-clause-token : goal.returns-in-Some-clause-token
returns-in-Some-clause-token c =
    ap (tokens_of c.args.tree.now) c.in-Some.ensures.steps ∙ c.visited.ensures.token c.next.new.self

pub returns-in-Some-clause-live : goal.returns-in-Some-clause-live
returns-in-Some-clause-live c = record {
  coming = rest-live c.args.tree.now c.args.walk.now c.next.new.self c.in-Some.visit c.in-Some.ensures.steps c.requires;
  here = c.visited.ensures.live;
}

pub returns-in-None-clause-token : goal.returns-in-None-clause-token
returns-in-None-clause-token c = tokens-end c.args.tree.now c.args.walk.now c.in-None.ensures.steps.0

pub returns-in-None-clause-live : goal.returns-in-None-clause-live
returns-in-None-clause-live c = record {
  coming = none-live c.args.tree.now c.next.new.self c.in-None.ensures.steps.1;
  here = tt;
}
