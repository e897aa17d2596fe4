-- The event channel ports of a domain.
use Rattle.std.specs.Prelude.{ℕ, ◌==◌, ◌||◌, not, nat_le, Bool, false, List, [], ◌∷◌, ◌++◌, find, length, codes, is_none, Option, option_map, option_and_then}
use Rattle.std.specs.Option.{option_map_or}
use Rattle.described.specs.declared.item.Described.{Described}
use Rattle.described.specs.declared.item.Item.{Item}
use Rattle.described.specs.declared.item.Part.TheVariants as parts
use Rattle.described.specs.declared.item.What.{What}
use Rattle.described.specs.declared.item.What.TheVariants as whats
use Rattle.described.specs.declared.why.Why.{Why}
use Rattle.described.specs.declared.why.Why.TheVariants.{TooMany, Missing, BadLength, BadValue, PortTaken, EvtchnLink}
use Rattle.fdt_tree.specs.Tree.{Property, Tree}
use Rattle.fdt_nodes.specs.Nodes.{Node}
use Rattle.fdt_nodes.specs.Values.{has}
use Rattle.described.specs.Reasons.{where_so, first_reason, described}
use Rattle.fdt_nodes.specs.NodeItems.{item_of}
use Rattle.static_links.specs.Shared.{children_with}
use Rattle.static_links.specs.Channels.{Channel, Ends, event_channel, ends_of, is_port, other_end}

-- the node says no port, or has no phandle
abbrev pub lacks_port : List Property → Bool
lacks_port properties = not (has properties (codes "xen,evtchn")) || not (has properties (codes "phandle"))

-- an item without a reason of its own has this port
abbrev pub holds : ℕ → Described → Bool
holds port item = elim item.what as (λ _. Bool) [ whats.Port held guest other ↦ held == port | _ ↦ false ]

-- the first of the items before that has the port of a node
abbrev pub holder : List Described → List Property → Option Item
holder before properties = option_and_then (λ (ends : Ends). option_map (λ (found : Described). found.item) (find (holds ends.port) before)) (ends_of properties)

-- the first reason against an event channel node, after these ports of its domain
abbrev pub port_reason : Tree → List Described → Node → Option Why
port_reason host before node = first_reason (
    where_so (nat_le 64 (length before)) TooMany
    ∷ where_so (lacks_port node.properties) Missing
    ∷ where_so (is_none (ends_of node.properties)) BadLength
    ∷ where_so (option_map_or (λ (ends : Ends). not (is_port ends.port)) (ends_of node.properties) false) BadValue
    ∷ option_map PortTaken (holder before node.properties)
    ∷ where_so (is_none (other_end host node)) EvtchnLink
    ∷ []
    )

-- a port, the guest at the other end, and its port
abbrev pub link : Ends → ℕ → Ends → What
link ends guest other = whats.Port ends.port guest other.port

-- a node's port and the other end, if there is one
abbrev pub linked_to : Ends → Channel → What
linked_to ends channel = option_map_or (link ends channel.guest) (ends_of channel.node.properties) whats.Unread

-- what the node describes
abbrev pub port_what : Tree → Node → What
port_what host node =
    option_map_or (λ (ends : Ends). option_map_or (linked_to ends) (other_end host node) whats.Unread) (ends_of node.properties) whats.Unread

-- the item of an event channel node, after these ports of its domain
abbrev pub port_item : Tree → List Described → Node → Described
port_item host before node = described (item_of parts.Port node 0) (port_reason host before node) (port_what host node)

-- nodes in a row, after these ports
abbrev pub ports_after : Tree → List Described → List Node → List Described
ports_after host before [] = []
ports_after host before (node ∷ nodes) = let item = port_item host before node in item ∷ ports_after host (before ++ item ∷ []) nodes

-- the event channel nodes of a domain
unfoldable pub port_items : Tree → Node → List Described
port_items host domain = ports_after host [] (children_with event_channel domain)
