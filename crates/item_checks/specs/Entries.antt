-- All described items in one list, in the order in which they are judged.
use Rattle.std.specs.Prelude.{ℕ, ◌+◌, ◌^◌, Bool, true, false, nat_lt, if◌then◌else◌, List, [], ◌∷◌, ◌++◌, map, Option, Some, None}
use Rattle.described.specs.declared.item.Described.{Described}
use Rattle.described.specs.declared.item.What.TheVariants as whats
use Rattle.described.specs.declared.item.Part.TheVariants as parts
use Rattle.described.specs.declared.why.Why.TheVariants.{TooHigh}
use Rattle.domain_bindings.specs.declared.host.Host.{Host}
use Rattle.item_checks.specs.declared.guests.Guest.{Guest}
use Rattle.described.specs.declared.loaded.Loaded.{Loaded}
use Rattle.item_checks.specs.declared.guests.PartialState.{PartialState}
use Rattle.item_checks.specs.declared.guests.PartialState.TheVariants as states

-- an item, the number of the guest that it belongs to, and whether that guest's partial device tree was read
pub record Entry : Type 0 where
  pub guest : Option ℕ
  pub partial_read : Bool
  pub described : Described

-- items that belong to no guest
abbrev pub of_host : List Described → List Entry
of_host items = map (λ (described : Described). record { guest = None; partial_read = false; described = described }) items

-- items of a guest
abbrev pub of_guest : ℕ → Bool → List Described → List Entry
of_guest number read items = map (λ (described : Described). record { guest = Some number; partial_read = read; described = described }) items

-- the item of a loaded file. It ends at or below 2^40, or is TooHigh
abbrev pub load_item : Loaded → Described
load_item load =
    if nat_lt (2 ^ 40) (load.address + load.size)
    then record { item = record { part = parts.Load; path = load.name; index = 0 }; own = Some TooHigh; what = whats.Unread }
    else record { item = record { part = parts.Load; path = load.name; index = 0 }; own = None; what = whats.Load (record { base = load.address; size = load.size }) }

-- the items of a partial device tree, where it was read
abbrev pub partial_items : PartialState → List Described
partial_items (states.Read partial) = partial.items
partial_items _ = []

-- a guest's partial device tree was read
abbrev pub is_read : PartialState → Bool
is_read (states.Read partial) = true
is_read _ = false

-- the items of a guest: of its node, its partial device tree, its shared regions and its ports
abbrev pub items_of : Guest → List Described
items_of guest = guest.domain.items ++ partial_items guest.partial ++ guest.shared ++ guest.ports

-- the items of guests, the first of which has this number
abbrev pub guest_entries : ℕ → List Guest → List Entry
guest_entries number [] = []
guest_entries number (guest ∷ guests) = of_guest number (is_read guest.partial) (items_of guest) ++ guest_entries (number + 1) guests

-- all items: the host's, the loads, the modules of dom0, and the guests'
abbrev pub joined : Host → List Loaded → List Guest → List Entry
joined host loads guests = of_host host.items ++ of_host (map load_item loads) ++ of_host host.modules ++ guest_entries 0 guests
