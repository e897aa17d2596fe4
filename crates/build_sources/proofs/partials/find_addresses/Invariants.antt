use Rattle.std.proofs.Common.{◌≡◌, map, take}
use Rattle.domain_bindings.specs.declared.domain.Domain.{Domain}
use Rattle.build_sources.proofs.partials.find_addresses.Given as goal

-- the addresses so far
abbrev pub invariant-loop-domain : goal.invariant-loop-domain
invariant-loop-domain l = l.addresses.items ≡ map (λ (domain : Domain). domain.partial) (take l.domain-index l.first)
