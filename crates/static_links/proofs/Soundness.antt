-- Items are sound up to the first one with a reason of its own.
use Rattle.std.proofs.Common.{◌≡◌, ◌∙◌, refl, ℕ, ◌+◌, ◌%◌, ◌^◌, List, [], ◌∷◌, ◌++◌, Some, None, true, false, Bool}
use Rattle.std.specs.Prelude.{Option, ◌==◌, ◌||◌, not, nat_lt, nat_le, is_none, unwrap_or}
use Rattle.std.specs.Option.{option_map_or}
use Rattle.described.specs.declared.item.Described.{Described}
use Rattle.described.specs.declared.item.Part.TheVariants as parts
use Rattle.described.specs.declared.item.What.TheVariants as whats
use Rattle.described.specs.declared.why.Why.TheVariants.{TooMany, Missing, BadValue, BadLength, NotPage, TooHigh, TooLarge}
use Rattle.fdt_tree.specs.Tree.{Tree}
use Rattle.static_links.specs.declared.shared.SharedRegion.{SharedRegion}
use Rattle.fdt_nodes.specs.Nodes.{Node}
use Rattle.described.specs.Reasons.{where_so, first_reason, is_not_page, is_too_high, is_too_large}
use Rattle.fdt_nodes.specs.NodeItems.{item_of}
use Rattle.static_links.specs.Shared.{region, of_region, addresses, shared_id, is_owner, lacks_region, has_bad_value, shared_reason, shared_what, shared_from, shared_items, shared_memory, children_with}
use Rattle.static_links.specs.Channels.{Channel, Ends, ends_of, other_end, event_channel}
use Rattle.static_links.specs.Ports.{linked_to, port_item, port_reason, port_what, ports_after, port_items}
use Rattle.described.specs.Sound.{AreWholePages, IsSound, IsSoundRegion, AreSound}
use Rattle.static_links.proofs.RegionTests.{twice_not_page, twice_too_high}
use Rattle.described.proofs.Soundness.{sound-item, neither, holds, to_eq, to_le, to_some}

-- two addresses and a size that pass both tests
pages : (one other size : ℕ) → is_not_page (one ∷ other ∷ []) size ≡ false → is_too_high (one ∷ other ∷ []) size ≡ false → AreWholePages one size × AreWholePages other size
pages one other size whole low =
    let not_one = not (one % 4096 == 0) in
    let not_other = not (other % 4096 == 0) in
    let not_size = not (size % 4096 == 0) in
    let outer = neither ((not_one || (not_other || false)) || not_size) (size == 0) whole in
    let middle = neither (not_one || (not_other || false)) not_size outer.0 in
    let inner = neither not_one (not_other || false) middle.0 in
    let second = neither not_other false inner.1 in
    let ends = neither (nat_lt (2 ^ 40) (one + size)) (nat_lt (2 ^ 40) (other + size) || false) low in
    let last = neither (nat_lt (2 ^ 40) (other + size)) false ends.1 in
    let size_is : size % 4096 ≡ 0 = to_eq _ _ (holds (size % 4096 == 0) middle.1) in (
      record { base_whole = to_eq _ _ (holds (one % 4096 == 0) inner.0); size_whole = size_is; some = to_some size outer.1; low = to_le (2 ^ 40) (one + size) ends.0 },
      record { base_whole = to_eq _ _ (holds (other % 4096 == 0) second.0); size_whole = size_is; some = to_some size outer.1; low = to_le (2 ^ 40) (other + size) last.0 },
    )

no_reason : (a b c d e f g : Bool) → first_reason (where_so a TooMany ∷ where_so b Missing ∷ where_so c BadValue ∷ where_so d BadLength ∷ where_so e NotPage ∷ where_so f TooHigh ∷ where_so g TooLarge ∷ []) ≡ None
    → (e ≡ false) × (f ≡ false)
no_reason true b c d e f g is = absurd (cc)
no_reason false true c d e f g is = absurd (cc)
no_reason false false true d e f g is = absurd (cc)
no_reason false false false true e f g is = absurd (cc)
no_reason false false false false true f g is = absurd (cc)
no_reason false false false false false true g is = absurd (cc)
no_reason false false false false false false g is = (refl, refl)

-- one address and a size that pass both tests
pages_of_guest : (guest size : ℕ) → is_not_page (guest ∷ []) size ≡ false → is_too_high (guest ∷ []) size ≡ false → AreWholePages guest size
pages_of_guest guest size whole low =
    (pages guest guest size (twice_not_page guest size ∙ whole) (twice_too_high guest size ∙ low)).0

numbers_sound : (host : Option ℕ) (guest size : ℕ) → is_not_page (addresses (record { host = host; guest = guest; size = size })) size ≡ false → is_too_high (addresses (record { host = host; guest = guest; size = size })) size ≡ false
    → IsSoundRegion host guest size
numbers_sound None guest size whole low = pages_of_guest guest size whole low
numbers_sound (Some host) guest size whole low = pages host guest size whole low

-- a region that is there and passes both tests
region_sound : (found : Option SharedRegion) (id : List ℕ) (owner : Bool) → option_map_or (λ (r : SharedRegion). is_not_page (addresses r) r.size) found false ≡ false
    → option_map_or (λ (r : SharedRegion). is_too_high (addresses r) r.size) found false ≡ false
    → IsSound (option_map_or (λ (r : SharedRegion). whats.Shared id r.host r.guest r.size owner) found whats.Unread)
region_sound None id owner whole low = tt
region_sound (Some r) id owner whole low = numbers_sound r.host r.guest r.size whole low

shared_sound : (number : ℕ) (node : Node) → shared_reason number node ≡ None → IsSound (shared_what node)
shared_sound number node none =
    let tests = no_reason (nat_le 16 number) (lacks_region node) (has_bad_value node) (is_none (region node)) (of_region (λ r. is_not_page (addresses r) r.size) node) (of_region (λ r. is_too_high (addresses r) r.size) node)
    (of_region (λ r. is_too_large r.size) node) none in
    region_sound (region node) (unwrap_or (shared_id node) []) (is_owner node) tests.0 tests.1

sound_regions : (number : ℕ) (nodes : List Node) → AreSound (shared_from number nodes)
sound_regions number [] = tt
sound_regions number (node ∷ nodes) =
    sound-item (item_of parts.Shared node 0) (shared_reason number node) (shared_what node) (AreSound (shared_from (number + 1) nodes))
    (λ none. (shared_sound number node none, sound_regions (number + 1) nodes))

-- all shared regions of a domain
pub sound_shared : (domain : Node) → AreSound (shared_items domain)
unfolding shared_items
sound_shared domain = sound_regions 0 (children_with shared_memory domain)

linked_sound : (ends : Ends) (channel : Channel) (other : Option Ends) → IsSound (option_map_or (λ (o : Ends). whats.Port ends.port channel.guest o.port) other whats.Unread)
linked_sound ends channel None = tt
linked_sound ends channel (Some other) = tt

what_sound : (own : Option Ends) (found : Option Channel) → IsSound (option_map_or (λ (ends : Ends). option_map_or (linked_to ends) found whats.Unread) own whats.Unread)
what_sound None found = tt
what_sound (Some ends) None = tt
what_sound (Some ends) (Some channel) = linked_sound ends channel (ends_of channel.node.properties)

sound_links : (host : Tree) (before : List Described) (nodes : List Node) → AreSound (ports_after host before nodes)
sound_links host before [] = tt
sound_links host before (node ∷ nodes) =
    sound-item (item_of parts.Port node 0) (port_reason host before node) (port_what host node) (AreSound (ports_after host (before ++ port_item host before node ∷ []) nodes))
    (λ none. (what_sound (ends_of node.properties) (other_end host node), sound_links host (before ++ port_item host before node ∷ []) nodes))

-- all ports of a domain
pub sound_ports : (host : Tree) (domain : Node) → AreSound (port_items host domain)
unfolding port_items
sound_ports host domain = sound_links host [] (children_with event_channel domain)
