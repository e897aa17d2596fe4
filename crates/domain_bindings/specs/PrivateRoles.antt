-- Of proofs and private contracts: what a node is to the readers.
use Rattle.std.specs.Prelude.{Bool}
use Rattle.fdt_nodes.specs.Nodes.{Node}
use Rattle.domain_bindings.specs.Hosts.{is_host_memory, is_reserved}
use Rattle.domain_bindings.specs.Modules.{is_module}
use Rattle.domain_bindings.specs.Domains.{is_domain}
use Rattle.domain_bindings.specs.Heads.{is_event_channel}
use Rattle.domain_bindings.specs.declared.roles.Role.{Role}
use Rattle.domain_bindings.specs.declared.roles.Role.TheVariants as roles

-- a node has a role
abbrev pub has_role : Role → Node → Bool
has_role roles.Memory = is_host_memory
has_role roles.Reserved = is_reserved
has_role roles.Module = is_module
has_role roles.Domain = is_domain
has_role roles.Channel = is_event_channel
