-- A description with each region at its host address is one as readers give it.
use Rattle.std.proofs.Common.{◌≡◌, ℕ, zero, suc, ◌+◌, ◌^◌, ◌<◌, ◌≤◌, ◌&&◌, Bool, true, false, cond, List, [], ◌∷◌, ◌++◌, map, Option, Some, None, Result, Ok, Err, All, refl, sym, ap, subst, ◌∙◌, arith}
use Rattle.std.specs.Prelude.{slice_get, option_map, sum_by, length, nat_lt, is_some, unwrap_or, IfSome}
use Rattle.std.proofs.lemmas.Option.{slice_get-map}
use Rattle.std.proofs.lemmas.List.{map-append}
use Rattle.std.proofs.lemmas.List.Sums.{sum_by-cons}
use Rattle.described.specs.Sound.{IsSound, SoundUnless}
use Rattle.texts.specs.declared.ranges.FrameRange.{FrameRange}
use Rattle.described.specs.declared.item.Described.{Described}
use Rattle.described.specs.declared.item.Part.TheVariants as parts
use Rattle.described.specs.declared.item.What.{What}
use Rattle.described.specs.declared.item.What.TheVariants as whats
use Rattle.described.specs.declared.loaded.Loaded.{Loaded}
use Rattle.described.specs.declared.why.Why.{Why}
use Rattle.described.specs.declared.why.Why.TheVariants.{TooHigh, NoRam}
use Rattle.domain_bindings.specs.declared.domain.Domain.{Domain}
use Rattle.domain_bindings.specs.declared.host.Host.{Host}
use Rattle.item_checks.specs.declared.guests.Guest.{Guest}
use Rattle.item_checks.specs.declared.guests.PartialState.{PartialState}
use Rattle.item_checks.specs.declared.guests.PartialState.TheVariants as states
use Rattle.item_checks.specs.Entries.{Entry, of_host, of_guest, load_item, partial_items, is_read, items_of, guest_entries, joined}
use Rattle.item_checks.specs.Taken.{static_pages}
use Rattle.item_checks.specs.Refusals.{Refusal}
use Rattle.domain_plan.specs.Draws.{Drawn, Heaps, drawn, heaps, and_drawn, heap_item}
use Rattle.domain_plan.specs.Arguments.{AreSound, IsSoundGuest, whats_of}
use Rattle.domain_plan.specs.Regions.{host_in, placed_what, placed_item, placed_entry, placed}
use Rattle.domain_plan.specs.declared.runs.Run.{Run}
use Rattle.domain_plan.proofs.Placing.{kept_what}

-- the lists of a description, each region at its host address
abbrev pub placed_items : List Run → List Described → List Described
placed_items runs items = map (placed_item runs) items

abbrev pub placed_host : List Run → Host → Host
placed_host runs host = record { items = placed_items runs host.items; modules = placed_items runs host.modules; ram = host.ram; gic = host.gic; areas = host.areas; console = host.console }

abbrev pub placed_domain : List Run → Domain → Domain
placed_domain runs domain = record {
  node = domain.node;
  path = domain.path;
  number = domain.number;
  cpus = domain.cpus;
  pages = domain.pages;
  console = domain.console;
  spis = domain.spis;
  direct = domain.direct;
  bootargs = domain.bootargs;
  partial = domain.partial;
  items = placed_items runs domain.items;
}

abbrev pub placed_partial : List Run → PartialState → PartialState
placed_partial runs (states.Read partial) = states.Read (record { gic = partial.gic; items = placed_items runs partial.items })
placed_partial runs states.None = states.None
placed_partial runs states.Unread = states.Unread

abbrev pub placed_guest : List Run → Guest → Guest
placed_guest runs guest = record { domain = placed_domain runs guest.domain; partial = placed_partial runs guest.partial; shared = placed_items runs guest.shared; ports = placed_items runs guest.ports }

abbrev pub placed_guests : List Run → List Guest → List Guest
placed_guests runs guests = map (placed_guest runs) guests

-- where an item was placed or stays as it is, one of the two is placed
pub placed_is : (placed : Option Described) (described whole : Described) → IfSome placed (λ (one : Described). one ≡ whole) → (placed ≡ None → whole ≡ described) → unwrap_or placed described ≡ whole
placed_is None described whole some none = sym (none refl)
placed_is (Some one) described whole some none = some

-- a region that has a host address stays
pub host_stays : (runs : List Run) (described : Described) (id : List ℕ) (host : Option ℕ) (guest size : ℕ) (owner : Bool) → described.what ≡ whats.Shared id host guest size owner → is_some host ≡ true → placed_item runs described ≡ described
host_stays runs described id None guest size owner is some = absurd cc
host_stays runs described id (Some base) guest size owner is some =
    ap (λ (what : What). record { item = described.item; own = described.own; what = placed_what runs what }) is ∙ ap (λ (what : What). record { item = described.item; own = described.own; what = what }) (sym is)

-- one that has none is placed
pub run_places : (runs : List Run) (described : Described) (id : List ℕ) (host : Option ℕ) (guest size : ℕ) (owner : Bool) → described.what ≡ whats.Shared id host guest size owner → is_some host ≡ false
    → placed_item runs described ≡ record { item = described.item; own = described.own; what = whats.Shared id (host_in runs id None) guest size owner }
run_places runs described id None guest size owner is none = ap (λ (what : What). record { item = described.item; own = described.own; what = placed_what runs what }) is
run_places runs described id (Some base) guest size owner is none = absurd cc

module _ (runs : List Run) where
  load_stays : (load : Loaded) → placed_item runs (load_item load) ≡ load_item load
  load_stays load = by_test (nat_lt (2 ^ 40) (load.address + load.size))
    where
      high : Described
      high = record { item = record { part = parts.Load; path = load.name; index = 0 }; own = Some TooHigh; what = whats.Unread }

      low : Described
      low = record { item = record { part = parts.Load; path = load.name; index = 0 }; own = None; what = whats.Load (record { base = load.address; size = load.size }) }

      by_test : (b : Bool) → placed_item runs (cond b high low) ≡ cond b high low
      by_test true = refl
      by_test false = refl

  loads_stay : (loads : List Loaded) → placed_items runs (map load_item loads) ≡ map load_item loads
  loads_stay [] = refl
  loads_stay (load ∷ loads) = ap (λ (one : Described). one ∷ placed_items runs (map load_item loads)) (load_stays load) ∙ ap (λ (rest : List Described). load_item load ∷ rest) (loads_stay loads)

  host_placed : (items : List Described) → placed runs (of_host items) ≡ of_host (placed_items runs items)
  host_placed [] = refl
  host_placed (item ∷ items) = ap (λ (rest : List Entry). record { guest = None; partial_read = false; described = placed_item runs item } ∷ rest) (host_placed items)

  pub guest_placed : (number : ℕ) (read : Bool) (items : List Described) → placed runs (of_guest number read items) ≡ of_guest number read (placed_items runs items)
  guest_placed number read [] = refl
  guest_placed number read (item ∷ items) = ap (λ (rest : List Entry). record { guest = Some number; partial_read = read; described = placed_item runs item } ∷ rest) (guest_placed number read items)

  partial_placed : (partial : PartialState) → placed_items runs (partial_items partial) ≡ partial_items (placed_partial runs partial)
  partial_placed (states.Read partial) = refl
  partial_placed states.None = refl
  partial_placed states.Unread = refl

  pub read_placed : (partial : PartialState) → is_read (placed_partial runs partial) ≡ is_read partial
  read_placed (states.Read partial) = refl
  read_placed states.None = refl
  read_placed states.Unread = refl

  pub items_placed : (guest : Guest) → placed_items runs (items_of guest) ≡ items_of (placed_guest runs guest)
  items_placed guest =
      map-append (placed_item runs) (guest.domain.items ++ partial_items guest.partial ++ guest.shared) guest.ports
      ∙ ap (λ (xs : List Described). xs ++ placed_items runs guest.ports) (map-append (placed_item runs) (guest.domain.items ++ partial_items guest.partial) guest.shared
      ∙ ap (λ (xs : List Described). xs ++ placed_items runs guest.shared) (map-append (placed_item runs) guest.domain.items (partial_items guest.partial)
      ∙ ap (λ (xs : List Described). placed_items runs guest.domain.items ++ xs) (partial_placed guest.partial)))

  guests_placed : (number : ℕ) (guests : List Guest) → placed runs (guest_entries number guests) ≡ guest_entries number (placed_guests runs guests)
  guests_placed number [] = refl
  guests_placed number (guest ∷ guests) =
      map-append (placed_entry runs) (of_guest number (is_read guest.partial) (items_of guest)) (guest_entries (number + 1) guests)
      ∙ ap (λ (xs : List Entry). xs ++ placed runs (guest_entries (number + 1) guests))
      (guest_placed number (is_read guest.partial) (items_of guest) ∙ ap (of_guest number (is_read guest.partial)) (items_placed guest) ∙ ap (λ (read : Bool). of_guest number read (items_of (placed_guest runs guest))) (sym (read_placed guest.partial)))
      ∙ ap (λ (xs : List Entry). of_guest number (is_read (placed_partial runs guest.partial)) (items_of (placed_guest runs guest)) ++ xs) (guests_placed (number + 1) guests)

  -- all items
  pub joined_placed : (host : Host) (loads : List Loaded) (guests : List Guest) → placed runs (joined host loads guests) ≡ joined (placed_host runs host) loads (placed_guests runs guests)
  joined_placed host loads guests =
      map-append (placed_entry runs) (of_host host.items ++ of_host (map load_item loads) ++ of_host host.modules) (guest_entries 0 guests)
      ∙ ap (λ (xs : List Entry). xs ++ placed runs (guest_entries 0 guests)) (map-append (placed_entry runs) (of_host host.items ++ of_host (map load_item loads)) (of_host host.modules)
      ∙ ap (λ (xs : List Entry). xs ++ placed runs (of_host host.modules)) (map-append (placed_entry runs) (of_host host.items) (of_host (map load_item loads))
      ∙ ap (λ (xs : List Entry). xs ++ placed runs (of_host (map load_item loads))) (host_placed host.items)
      ∙ ap (λ (xs : List Entry). of_host (placed_items runs host.items) ++ xs) (host_placed (map load_item loads) ∙ ap of_host (loads_stay loads)))
      ∙ ap (λ (xs : List Entry). of_host (placed_items runs host.items) ++ of_host (map load_item loads) ++ xs) (host_placed host.modules))
      ∙ ap (λ (xs : List Entry). of_host (placed_items runs host.items) ++ of_host (map load_item loads) ++ of_host (placed_items runs host.modules) ++ xs) (guests_placed 0 guests)

  -- sound items stay sound
  pub sound_entries : (entries : List Entry) → ((k : ℕ) (entry : Entry) → slice_get entries k ≡ Some entry → IsSound (placed_what runs entry.described.what)) → AreSound (placed runs entries)
  sound_entries [] each = tt
  sound_entries (entry ∷ entries) each = by_own entry.described.own (each zero entry refl) (sound_entries entries (λ k one at. each (suc k) one at))
    where
      by_own : (own : Option Why) → IsSound (placed_what runs entry.described.what) → AreSound (placed runs entries) → SoundUnless own (placed_what runs entry.described.what) (AreSound (placed runs entries))
      by_own None sound rest = (sound, rest)
      by_own (Some reason) sound rest = tt

  whats_placed : (items : List Described) → map (λ (one : Described). one.what) (placed_items runs items) ≡ map (placed_what runs) (map (λ (one : Described). one.what) items)
  whats_placed [] = refl
  whats_placed (item ∷ items) = ap (λ (rest : List What). placed_what runs item.what ∷ rest) (whats_placed items)

  pub statics_placed : (ws : List What) → sum_by static_pages (map (placed_what runs) ws) ≡ sum_by static_pages ws
  statics_placed [] = refl
  statics_placed (w ∷ ws) = sum_by-cons static_pages (placed_what runs w) (map (placed_what runs) ws) ∙ rw (kept_what static_pages runs (λ id one other guest size owner. refl) w, statics_placed ws) (sym (sum_by-cons static_pages w ws))

  pub whats_of_placed : (guest : Guest) → whats_of (placed_guest runs guest) ≡ map (placed_what runs) (whats_of guest)
  whats_of_placed guest = ap (map (λ (one : Described). one.what)) (sym (items_placed guest)) ∙ whats_placed (items_of guest)

  pub guest_sound : (guest : Guest) → IsSoundGuest guest → IsSoundGuest (placed_guest runs guest)
  guest_sound guest sound = record {
    head = ap (λ (ws : List What). slice_get ws 0) (whats_of_placed guest) ∙ slice_get-map (placed_what runs) (whats_of guest) 0 ∙ ap (option_map (placed_what runs)) sound.head;
    statics = let same = ap (sum_by static_pages) (whats_of_placed guest) ∙ statics_placed (whats_of guest) in let few : sum_by static_pages (whats_of guest) ≤ 2 ^ 22 = sound.statics in omega arith;
  }

  pub each_guest_sound : (guests : List Guest) → All IsSoundGuest guests → All IsSoundGuest (placed_guests runs guests)
  each_guest_sound [] all k d low = absurd (omega arith)
  each_guest_sound (guest ∷ guests) all zero d low = guest_sound guest (all zero guest (omega arith))
  each_guest_sound (guest ∷ guests) all (suc k) d low = each_guest_sound guests (λ j e under. all (suc j) e (omega arith)) k d (omega arith)

  -- the guests draw the same
  pub heaps_placed : (guests : List Guest) (free : List ℕ) → heaps (placed_guests runs guests) free ≡ heaps guests free
  unfolding heaps
  heaps_placed [] free = refl
  heaps_placed (guest ∷ guests) free = by_first (drawn guest.domain.pages free) (heaps_placed guests)
    where
      by_first : (o : Option Drawn) → ((left : List ℕ) → heaps (placed_guests runs guests) left ≡ heaps guests left) → (elim o as (λ _. Result Heaps Refusal) [ None ↦ Err (heap_item guest, NoRam guest.domain.pages (length free)) | Some one ↦ and_drawn one.frames (heaps (placed_guests runs guests) one.left) ])
          ≡ (elim o as (λ _. Result Heaps Refusal) [ None ↦ Err (heap_item guest, NoRam guest.domain.pages (length free)) | Some one ↦ and_drawn one.frames (heaps guests one.left) ])
      by_first None later = refl
      by_first (Some one) later = ap (and_drawn one.frames) (later one.left)
