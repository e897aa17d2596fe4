-- The devices, the shared regions and the ports that a guest's tree lists.
use Rattle.std.proofs.Common.{◌≡◌, ◌≤◌, ◌^◌, ℕ, ◌+◌, true, List, [], ◌∷◌, ◌++◌, Option, Some, None, map, filter, flat_map, codes, refl, ap, ◌∙◌}
use Rattle.std.specs.Prelude.{All, IsTrue, option_map}
use Rattle.domain_plan.specs.declared.planned.GuestPlan.{GuestPlan}
use Rattle.texts.specs.declared.ranges.BaseSize.{BaseSize}
use Rattle.fdt_tree.specs.Tree.{Bytes, Tree}
use Rattle.fdt_tree.specs.Values.{cells_of}
use Rattle.tree_parts.specs.Nodes.{on_some, on_any}
use Rattle.guest_fdt.specs.Found.{list_of}
use Rattle.guest_fdt.specs.Copies.{cleaned, found_in}
use Rattle.guest_fdt.specs.Machine.{region, reserved_memory, static_ports}
use Rattle.guest_fdt.specs.GuestTree.{guest_tree}
use Rattle.guest_fdt.specs.Entries.{reg_entries, triples_of}
use Rattle.guest_fdt.specs.Listed.{Device, Region, devices_below, devices_in, is_region, region_id, regions_of, regions_in, ports_in}
use Rattle.guest_fdt.specs.Described.{bytes_of, partial_devices}
use Rattle.guest_fdt.specs.Laws.{is_text}
use Rattle.guest_fdt.proofs.Cleaning.{cleaned_device, devices-cleaned}
use Rattle.guest_fdt.proofs.EntryLemmas.{Fits, entries-pages, ports-back, text-back}
use Rattle.guest_fdt.proofs.FindingLemmas.{passthrough-found, reserved-found, ports-found}
use Rattle.guest_fdt.proofs.Lists.{all-first, all-rest, list-of-trees, first_with}

abbrev devices_of : Option Tree → List Device
devices_of found = on_some found (λ (node : Tree). devices_below (codes "/passthrough") node.children)

copied_devices : (found : Option Tree) → devices_of (option_map cleaned found) ≡ map cleaned_device (devices_of found)
copied_devices None = refl
copied_devices (Some t) = devices-cleaned (codes "/passthrough") t.children

of_partial : (partial : Option Tree) → devices_of (found_in partial (codes "/passthrough")) ≡ partial_devices partial
unfolding devices_in
of_partial None = refl
of_partial (Some t) = refl

-- a guest's tree lists the devices of its partial tree, without what binds them
pub devices-listed : (plan : GuestPlan) (partial : Option Tree) → devices_in (guest_tree plan partial) ≡ map cleaned_device (partial_devices partial)
unfolding devices_in
devices-listed plan partial =
    ap devices_of (passthrough-found plan partial) ∙ (copied_devices (found_in partial (codes "/passthrough")) ∙ ap (map cleaned_device) (of_partial partial))

-- a region with pages below 2^28 and a text as its id
abbrev LiesLow : Bytes × ℕ × ℕ → Type 0
LiesLow (id, page, count) = page + count ≤ 2 ^ 28

abbrev HasText : Bytes × ℕ × ℕ → Type 0
HasText (id, page, count) = IsTrue (is_text id)

abbrev described_region : Bytes × ℕ × ℕ → Region
described_region (id, page, count) = (id, bytes_of page count)

region-entries : (id : Bytes) (page count : ℕ) → page + count ≤ 2 ^ 28 → reg_entries (Some (2, 2)) (region (id, page, count)).properties ≡ bytes_of page count ∷ []
unfolding region
region-entries id page count low = entries-pages page count low

region-text : (id : Bytes) (page count : ℕ) → IsTrue (is_text id) → region_id (region (id, page, count)).properties ≡ Some id
unfolding region
region-text id page count plain = text-back id plain

region-one : (id : Bytes) (page count : ℕ) → page + count ≤ 2 ^ 28 → IsTrue (is_text id) → regions_of (Some (2, 2)) (region (id, page, count)) ≡ (id, bytes_of page count) ∷ []
region-one id page count low plain =
    let found : List BaseSize = reg_entries (Some (2, 2)) (region (id, page, count)).properties in
    let with_id : Bytes → BaseSize → Region = λ name at. (name, at) in
    ap (λ (o : Option Bytes). on_some o (λ name. map (with_id name) found)) (region-text id page count plain) ∙ ap (map (with_id id)) (region-entries id page count low)

is-region : (s : Bytes × ℕ × ℕ) → is_region (region s) ≡ true
unfolding region
is-region s = refl

regions-all : (shared : List (Bytes × ℕ × ℕ)) → All LiesLow shared → All HasText shared → flat_map (regions_of (Some (2, 2))) (filter is_region (map region shared)) ≡ map described_region shared
regions-all [] low plain = refl
regions-all (s ∷ shared) low plain =
    rw (is-region s) (ap (λ z. z ++ flat_map (regions_of (Some (2, 2))) (filter is_region (map region shared))) (region-one s.0 s.1 s.2 (all-first LiesLow s shared low) (all-first HasText s shared plain)) ∙ ap (λ z. described_region s ∷ z) (regions-all shared (all-rest LiesLow s shared low) (all-rest HasText s shared plain)))

abbrev found_regions : Option Tree → List Region
found_regions found = on_some found (λ (node : Tree). flat_map (regions_of (cells_of node.properties)) (filter is_region (list_of node.children)))

named-regions : (shared : List (Bytes × ℕ × ℕ)) → found_regions (first_with (codes "reserved-memory") (on_any shared (reserved_memory shared ∷ []))) ≡ flat_map (regions_of (Some (2, 2))) (filter is_region (map region shared))
unfolding reserved_memory
named-regions [] = refl
named-regions (s ∷ shared) = ap (λ nodes. flat_map (regions_of (Some (2, 2))) (filter is_region nodes)) (list-of-trees (map region (s ∷ shared)))

-- a guest's tree lists its shared regions
pub regions-listed : (plan : GuestPlan) (partial : Option Tree) → All (λ (id, page, count). page + count ≤ 2 ^ 28) plan.shared → All (λ (id, page, count). IsTrue (is_text id)) plan.shared → regions_in (guest_tree plan partial) ≡ map (λ (id, page, count). (id, bytes_of page count)) plan.shared
unfolding regions_in
regions-listed plan partial low plain =
    ap found_regions (reserved-found plan partial) ∙ (named-regions plan.shared ∙ regions-all plan.shared low plain)

abbrev found_ports : Option Tree → List (ℕ × ℕ × ℕ)
found_ports found = on_some found (λ (node : Tree). triples_of node.properties (codes "ports"))

named-ports : (ports : List (ℕ × ℕ × ℕ)) → All Fits ports → found_ports (first_with (codes "static-ports") (on_any ports (static_ports ports ∷ []))) ≡ ports
unfolding static_ports
named-ports [] fit = refl
named-ports (p ∷ ports) fit = ports-back (p ∷ ports) fit

-- a guest's tree lists its ports
pub ports-listed : (plan : GuestPlan) (partial : Option Tree) → All Fits plan.ports → ports_in (guest_tree plan partial) ≡ plan.ports
unfolding ports_in
ports-listed plan partial fit = ap found_ports (ports-found plan partial) ∙ named-ports plan.ports fit
