use Rattle.std.proofs.Common.{◌∙◌, ap}
use Rattle.std.proofs.lemmas.List.{take_all}
use Rattle.described.specs.Sound.{AreSound}
use Rattle.domain_bindings.specs.Results.{domains_at}
use Rattle.domain_bindings.specs.Assured.{HasHead, HasListedRanges, HasStaticLimit}
use Rattle.domain_bindings.proofs.ItemLemmas.{one_domain, all_domains}
use Rattle.domain_bindings.proofs.Assured.{domain-sound, domain-head, domain-ranges, domain-limit, domains-each}
use Rattle.domain_bindings.proofs.domain.read_domains.Goals as goal
use Rattle.fdt_nodes.specs.Held.{node_of}

pub loop-index-preserved : goal.loop-index-preserved
loop-index-preserved c =
    one_domain c.args.tree.now c.as_slice-nodes.result.now c.loop-index.index c.index-nodes-index.result c.loop-index.domains _ c.in_ok-domain.domain
    c.loop-index.invariant c.loop-index-test.true c.index-nodes-index.is c.in_ok-domain.ensures c.in_ok-push.ensures.ok

pub returns-clause-domains : goal.returns-clause-domains
returns-clause-domains c =
    all_domains c.args.tree.now c.in_ok-guests.guests.nodes c.as_slice-nodes.result.now c.loop-index.domains c.in_ok-guests.ensures.nodes c.as_slice-nodes.ensures
    (c.loop-index.invariant ∙ ap (domains_at c.args.tree.now 0) (take_all c.loop-index.index c.as_slice-nodes.result.now c.loop-index-test.false))

pub returns-clause-sound : goal.returns-clause-sound
returns-clause-sound c =
    domains-each (λ domain. AreSound domain.items) (λ document number held. domain-sound number (node_of document held)) c.args.tree.now c.loop-index.domains (returns-clause-domains c)

pub returns-clause-heads : goal.returns-clause-heads
returns-clause-heads c = domains-each HasHead domain-head c.args.tree.now c.loop-index.domains (returns-clause-domains c)

pub returns-clause-ranges : goal.returns-clause-ranges
returns-clause-ranges c = domains-each HasListedRanges domain-ranges c.args.tree.now c.loop-index.domains (returns-clause-domains c)

pub returns-clause-limit : goal.returns-clause-limit
returns-clause-limit c = domains-each HasStaticLimit domain-limit c.args.tree.now c.loop-index.domains (returns-clause-domains c)
