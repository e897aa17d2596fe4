use Rattle.build_sources.proofs.PartialLemmas.{addresses_found}
use Rattle.build_sources.proofs.partials.find_addresses.Goals as goal

pub returns : goal.returns
returns c =
    addresses_found c.args.tree.now _ c.first_of-first.result.now c.loop-domain.addresses.items c.loop-domain.domain-index c.in_ok-domains.ensures.domains (rw c.as_slice.ensures at c.first_of-first.ensures) c.loop-domain-test.false
    c.loop-domain.invariant
