-- Guests that are held in memory are those of the description.
use Rattle.std.proofs.Common.{◌≡◌, ◌∙◌, ap, ap₂, refl, ℕ, ◌+◌, ◌<◌, Bool, true, false, List, [], ◌∷◌, map, All, Option}
use Rattle.std.specs.Prelude.{if◌then◌else◌}
use Rattle.std.proofs.lemmas.List.Elements.{All-nil, All-cons, All-head, All-tail}
use Rattle.fdt_tree.specs.Document.{Document}
use Rattle.fdt_tree.specs.Tree.{Tree}
use Rattle.fdt_tree.specs.declared.reserve.Reserve.{Reserve}
use Rattle.fdt_nodes.specs.Held.{node_of}
use Rattle.domain_bindings.specs.Domains.{guest_nodes}
use Rattle.domain_bindings.specs.Heads.{is_past_limit}
use Rattle.domain_bindings.specs.Results.{AreDomains, domain_at, domains_at}
use Rattle.domain_bindings.specs.declared.domain.Domain.{Domain}
use Rattle.static_links.specs.Ports.{port_items}
use Rattle.static_links.specs.Shared.{shared_items}
use Rattle.item_checks.specs.declared.guests.Guest.{Guest}
use Rattle.described.specs.declared.loaded.Loaded.{Loaded}
use Rattle.item_checks.specs.declared.guests.PartialState.TheVariants as states
use Rattle.domain_plan.specs.Descriptions.{description_of, domain_of, guest_of, guests_from, guests_of, partial_at, partial_state, trees_in}
use Rattle.domain_plan.specs.PrivateHeldGuests.{held_guest, unheld}

module _ (document : Document) (partials : List (Option Tree)) where
  held_one : (number held : ℕ) → unheld (held_guest document partials (domain_at document number held)) ≡ guest_of document.tree number (node_of document held) (partial_at partials number)
  held_one number held = by (is_past_limit number)
    where
      by : (past : Bool) →
          unheld (if past
          then record { domain = domain_at document number held; partial = states.Unread; shared = []; ports = [] }
          else record { domain = domain_at document number held; partial = partial_state document.tree number (partial_at partials number); shared = shared_items (node_of document held); ports = port_items document.tree (node_of document held) })
          ≡ (if past
          then record { domain = domain_of number (node_of document held); partial = states.Unread; shared = []; ports = [] }
          else record { domain = domain_of number (node_of document held); partial = partial_state document.tree number (partial_at partials number); shared = shared_items (node_of document held); ports = port_items document.tree (node_of document held) })
      by true = refl
      by false = refl

  held_all : (number : ℕ) (nodes : List ℕ) → map unheld (map (held_guest document partials) (domains_at document number nodes)) ≡ guests_from document.tree partials number (map (node_of document) nodes)
  held_all number [] = refl
  held_all number (held ∷ nodes) = ap₂ (λ (guest : Guest) (guests : List Guest). guest ∷ guests) (held_one number held) (held_all (number + 1) nodes)

  pub held_guests : (domains : List Domain) → AreDomains document domains → map unheld (map (held_guest document partials) domains) ≡ guests_from document.tree partials 0 (guest_nodes document.tree)
  held_guests domains are =
      ap (λ (list : List Domain). map unheld (map (held_guest document partials) list)) are.values
      ∙ held_all 0 (map (λ (domain : Domain). domain.node) domains) ∙ ap (guests_from document.tree partials 0) are.nodes.are

-- the nodes of guests are live
pub each_live : (limit : ℕ) (domains : List Domain) → All (λ (node : ℕ). node < limit) (map (λ (domain : Domain). domain.node) domains) → All (λ (domain : Domain). domain.node < limit) domains
each_live limit [] all = All-nil (λ (domain : Domain). domain.node < limit)
each_live limit (domain ∷ domains) all =
    All-cons (λ (one : Domain). one.node < limit) domain domains (All-head (λ (node : ℕ). node < limit) domain.node (map (λ (one : Domain). one.node) domains) all)
    (each_live limit domains (All-tail (λ (node : ℕ). node < limit) domain.node (map (λ (one : Domain). one.node) domains) all))

-- the guests that were read are those of the description
pub described_guests : (document : Document) (reserves : List Reserve) (loads : List Loaded) (partials : List (Option Document)) (guests : List Guest)
    → map unheld guests ≡ guests_from document.tree (trees_in partials) 0 (guest_nodes document.tree) → map unheld guests ≡ guests_of (description_of document reserves loads partials)
unfolding guests_of
described_guests document reserves loads partials guests same = same
