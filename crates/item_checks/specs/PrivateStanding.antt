-- For proofs and private contracts alone: what is told of a state, and what is added to it.
use Rattle.std.specs.Prelude.{◌≡◌, ℕ, ◌==◌, Bool, false, ◌+◌, if◌then◌else◌, List, [], ◌∷◌, ◌++◌, ◌||◌, ◌&&◌, not, find, bytes_eq, is_some, length, map, Option, Some, None, Result, Ok, Err}
use Rattle.std.specs.List.{list_any}
use Rattle.texts.specs.declared.ranges.FrameRange.{FrameRange}
use Rattle.described.specs.declared.item.Described.{Described}
use Rattle.described.specs.declared.item.What.{What}
use Rattle.described.specs.declared.item.What.TheVariants as whats
use Rattle.domain_bindings.specs.declared.host.Host.{Host}
use Rattle.item_checks.specs.declared.state.Owner.{Owner}
use Rattle.item_checks.specs.declared.state.State.{State}
use Rattle.item_checks.specs.declared.state.Seen.{Seen}
use Rattle.item_checks.specs.declared.state.LastGuest.{LastGuest}
use Rattle.item_checks.specs.declared.state.Region.{Region}
use Rattle.item_checks.specs.declared.reasons.Takes.{Takes}
use Rattle.described.specs.declared.why.Why.{Why}
use Rattle.described.specs.declared.why.Why.TheVariants as whys
use Rattle.described.specs.declared.item.Item.{Item}
use Rattle.item_checks.specs.declared.faults.PlanFault.{PlanFault}
use Rattle.item_checks.specs.declared.faults.PlanFault.TheVariants as faults
use Rattle.item_checks.specs.Refusals.{first_refused}
use Rattle.described.specs.Reasons.{where_so}
use Rattle.item_checks.specs.Reasons.{naming_first, layout, area_pages, layout_at, unlike, is_owner, is_past_spis, has_console, is_irq}
use Rattle.item_checks.specs.Entries.{Entry}
use Rattle.frame_alloc.specs.Ranges.{cut, lie_in, have_common}
use Rattle.std.specs.Option.{option_or}
use Rattle.item_checks.specs.Taken.{Passed, what_of, belongs_to, says_direct, static_pages, is_range, all_passed}
use Rattle.item_checks.specs.Standing.{taken_at, claims_taken, pages_taken, load_in, has_triple, is_guest, region_in, is_past, first_other, is_of_other, entry_of, Stands}

-- what it describes is a region of that id
abbrev pub is_region : List ℕ → What → Bool
is_region id what = elim what as (λ _. Bool) [
  | whats.Shared other host page size owner ↦ bytes_eq id other
  | _ ↦ false
]

-- the region has that id; it is that guest's, where only its regions are sought; and its role is owner, where only owners are
abbrev pub is_sought : List ℕ → Option ℕ → Bool → Bool → Region → Bool
is_sought id guest in_any owners region = bytes_eq id region.id && (in_any || is_guest guest region.guest) && (not owners || region.owner)

-- the item at that place is a region of that id
abbrev pub is_region_at : List ℕ → ℕ → List Region → Bool
is_region_at id place regions = list_any (λ (region : Region). (region.place == place) && bytes_eq id region.id) regions

-- what an item of a guest describes is that interrupt, and the guest is not this one
abbrev pub is_irq_of_other : ℕ → Option ℕ → Option ℕ → What → Bool
is_irq_of_other number guest of what = (is_some of && not (is_guest guest of)) && is_irq number what

-- an item with what it takes
abbrev pub mine_of : Owner → Described → Takes → Passed
mine_of owner described takes = record { entry = entry_of owner described; claims = takes.claims.items; pages = takes.pages.items }

-- an overlap with the layout, or else with another item
abbrev pub overlap_in : Bool → Option Why → Option Why
overlap_in on_layout other = if on_layout then Some (whys.GuestOverlap layout) else other

-- what the names of the earlier regions say against one
abbrev pub naming_reasons : Option ℕ → List ℕ → Option ℕ → ℕ → Bool → List Passed → Option Why
naming_reasons guest id host size owns before =
    option_or (naming_first (λ passed. belongs_to guest passed && is_region id (what_of passed)) whys.ShmTwice before)
    (option_or (unlike (whats.Shared id host 0 size false) (find (λ (passed : Passed). is_region id (what_of passed)) before))
    (if owns then naming_first (λ passed. is_region id (what_of passed) && is_owner (what_of passed)) whys.OwnerTwice before else None))

-- what the host's memory and the frames and pages taken before say against it
abbrev pub landing_reasons : Option ℕ → Host → List ℕ → List FrameRange → List FrameRange → List Passed → Option Why
landing_reasons guest host id claims pages before =
    option_or (where_so (not (lie_in host.ram claims)) whys.NotRam)
    (option_or (naming_first (λ passed. not (is_region id (what_of passed)) && have_common (claims_taken passed) claims) whys.HostOverlap before)
    (overlap_in (have_common (area_pages (layout_at host before guest)) pages) (naming_first (λ passed. have_common (pages_taken guest passed) pages) whys.GuestOverlap before)))

-- what the items before say against an interrupt
abbrev pub irq_reasons : Option ℕ → ℕ → List Passed → Option Why
irq_reasons guest number before =
    option_or (where_so (list_any (λ (passed : Passed). belongs_to guest passed && is_past_spis number (what_of passed)) before) whys.TooHigh)
    (option_or (if number == 0 then naming_first (λ passed. belongs_to guest passed && has_console (what_of passed)) whys.IrqTaken before else None)
    (naming_first (λ passed. is_of_other guest passed && is_irq number (what_of passed)) whys.IrqTaken before))

-- the first where there is a guest, or else the second
abbrev pub in_guest : {A : Type 0} → Option ℕ → A → A → A
in_guest None there otherwise = otherwise
in_guest (Some number) there otherwise = there

-- what is kept of the items of all guests has one item more, at this place
pub record IsSeenToo (owner : Owner) (described : Described) (place : ℕ) (old new : Seen) : Type 0 where
  pub loads : new.loads.items ≡ old.loads.items ++ load_in described.what
  pub regions : new.regions.items ≡ old.regions.items ++ region_in described.item place owner.guest described.what
  pub takers : (number : ℕ) (other : Option ℕ) → first_other number other new.takers.items ≡ option_or (first_other number other old.takers.items) (if is_irq_of_other number other owner.guest described.what then Some described.item else None)

-- what is kept of the last guest has one item more, at this place, that fills these pages
pub record IsLastToo (owner : Owner) (described : Described) (filled : List FrameRange) (place : ℕ) (old new : LastGuest) : Type 0 where
  pub pages : new.pages ≡ old.pages ++ map (taken_at place) (in_guest owner.guest filled [])
  pub direct : new.direct ≡ (old.direct || (is_some owner.guest && says_direct described.what))
  pub static_pages : new.static_pages ≡ cut (cut old.static_pages + in_guest owner.guest (static_pages described.what) 0)
  pub triples : (host size page : ℕ) → has_triple host size page new.triples.items ≡ (has_triple host size page old.triples.items || (is_some owner.guest && is_range host size page described.what))
  pub spis : (number : ℕ) → is_past number new.spis ≡ (is_past number old.spis || (is_some owner.guest && is_past_spis number described.what))
  pub console : new.console ≡ option_or old.console (if is_some owner.guest && has_console described.what then Some described.item else None)

-- nothing is known of the last guest
pub record IsFresh (last : LastGuest) : Type 0 where
  pub pages : last.pages ≡ []
  pub direct : last.direct ≡ false
  pub static_pages : last.static_pages ≡ 0
  pub triples : last.triples.items ≡ []
  pub spis : last.spis ≡ None
  pub console : last.console ≡ None

-- the new state has one item more than the old, with what it takes
pub record IsAdded (owner : Owner) (described : Described) (takes : Takes) (old new : State) : Type 0 where
  pub items : new.items.items ≡ old.items.items ++ described.item ∷ []
  pub claims : new.claims ≡ old.claims ++ map (taken_at (length old.items.items)) takes.claims.items
  pub seen : IsSeenToo owner described (length old.items.items) old.seen new.seen
  pub last : IsLastToo owner described takes.pages.items (length old.items.items) old.last new.last

-- items were passed, so the state stands for them too; or the first of them with a reason against it was named
abbrev pub Checked : {A : Type 0} → Host → Option ℕ → List Passed → List Entry → Result A PlanFault → State → Type 0
Checked host guest before entries (Ok done) new = Stands guest (all_passed before entries) new × (first_refused host before entries ≡ None)
Checked host guest before entries (Err fault) new = (item : Item) → (reason : Why) → fault ≡ faults.Refused item reason → first_refused host before entries ≡ Some (item, reason)

-- none of the items belongs to a guest
abbrev pub AreOfHost : List Passed → Type 0
AreOfHost passed = (number : ℕ) → list_any (belongs_to (Some number)) passed ≡ false
