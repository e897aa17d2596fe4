use Rattle.std.proofs.Common.{Some}
use Rattle.fdt_nodes.specs.Held.{node_of}
use Rattle.passthrough_dtb.specs.PrivateFacts.{AreFacts}
use Rattle.passthrough_dtb.proofs.KnownNodes.{one_known}
use Rattle.passthrough_dtb.proofs.facts.facts_once.Goals as goal

pub returns-clause-known : goal.returns-clause-known
returns-clause-known c = record {
  facts = one_known (λ node facts. AreFacts c.args.host.now.tree (Some (node_of c.args.host.now node)) facts) c.args.known.now.facts c.insert.new.self c.in-Some.node c.in_ok-facts.facts c.requires.known.facts
      c.in_ok-insert.ensures.updates c.in_ok-facts.ensures.facts;
  on_gic = c.in_ok-facts.ensures.on_gic;
}
