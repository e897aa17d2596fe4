-- Guests whose nodes are held by their numbers in memory. Only private contracts and proofs use this file.
use Rattle.std.specs.Prelude.{if◌then◌else◌, List, [], Option, None}
use Rattle.fdt_tree.specs.Tree.{Tree}
use Rattle.fdt_tree.specs.Document.{Document}
use Rattle.fdt_nodes.specs.Held.{node_of}
use Rattle.domain_bindings.specs.Heads.{is_past_limit}
use Rattle.domain_bindings.specs.declared.domain.Domain.{Domain}
use Rattle.domain_bindings.specs.declared.host.Host.{Host}
use Rattle.static_links.specs.Ports.{port_items}
use Rattle.static_links.specs.Shared.{shared_items}
use Rattle.item_checks.specs.declared.guests.Guest.{Guest}
use Rattle.item_checks.specs.declared.guests.PartialState.TheVariants as states
use Rattle.domain_plan.specs.Descriptions.{partial_state, partial_at}

-- the guest of a domain whose node is held
abbrev pub held_guest : Document → List (Option Tree) → Domain → Guest
held_guest document partials domain =
    if is_past_limit domain.number
    then record { domain = domain; partial = states.Unread; shared = []; ports = [] }
    else record {
      domain = domain;
      partial = partial_state document.tree domain.number (partial_at partials domain.number);
      shared = shared_items (node_of document domain.node);
      ports = port_items document.tree (node_of document domain.node);
    }

-- a domain without the number of its node
abbrev pub unheld_domain : Domain → Domain
unheld_domain domain = record domain { node = 0 }

-- a guest without the number of its node
abbrev pub unheld : Guest → Guest
unheld guest = record guest { domain = unheld_domain guest.domain }

-- a host without the number of its interrupt controller's node
abbrev pub unheld_host : Host → Host
unheld_host host = record host { gic = None }
