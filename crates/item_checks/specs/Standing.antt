-- What the state of the judging stands for: the items that were passed.
use Rattle.std.specs.Prelude.{◌≡◌, ℕ, ◌==◌, Bool, false, ◌+◌, if◌then◌else◌, List, [], ◌∷◌, ◌++◌, ◌&&◌, not, nat_le, option_map, find, is_some, map, flat_map, Option, Some, None}
use Rattle.std.specs.List.{list_any}
use Rattle.texts.specs.declared.ranges.BaseSize.{BaseSize}
use Rattle.texts.specs.declared.ranges.FrameRange.{FrameRange}
use Rattle.described.specs.declared.item.Described.{Described}
use Rattle.described.specs.declared.item.What.{What}
use Rattle.described.specs.declared.item.What.TheVariants as whats
use Rattle.item_checks.specs.declared.state.Owner.{Owner}
use Rattle.item_checks.specs.declared.state.State.{State}
use Rattle.item_checks.specs.declared.state.Taken.{Taken}
use Rattle.item_checks.specs.declared.state.Triple.{Triple}
use Rattle.item_checks.specs.declared.state.Region.{Region}
use Rattle.item_checks.specs.declared.state.Taker.{Taker}
use Rattle.described.specs.declared.item.Item.{Item}
use Rattle.item_checks.specs.Reasons.{is_past_spis, has_console, is_irq}
use Rattle.item_checks.specs.Entries.{Entry}
use Rattle.item_checks.specs.Taken.{Passed, item_of, what_of, belongs_to, is_direct, static_pages, pages_before, is_repeated}

-- ranges that the item at a place takes
abbrev pub taken_at : ℕ → FrameRange → Taken
taken_at place range = record { range = range; item = place }

-- what each item takes, with its place, the first item being at this place
unfoldable pub taken_from : (Passed → List FrameRange) → ℕ → List Passed → List Taken
taken_from takes place [] = []
taken_from takes place (passed ∷ more) = map (taken_at place) (takes passed) ++ taken_from takes (place + 1) more

-- the frames that an item claims
abbrev pub claims_taken : Passed → List FrameRange
claims_taken passed = passed.claims

-- the pages that an item of that guest fills
abbrev pub pages_taken : Option ℕ → Passed → List FrameRange
pages_taken guest passed = if belongs_to guest passed then passed.pages else []

-- where a file was loaded
abbrev pub load_in : What → List BaseSize
load_in (whats.Load at) = at ∷ []
load_in _ = []

-- a device range has these three numbers
abbrev pub is_triple : ℕ → ℕ → ℕ → Triple → Bool
is_triple host size guest triple = (triple.host == host) && (triple.size == size) && (triple.guest == guest)

-- one of them has
abbrev pub has_triple : ℕ → ℕ → ℕ → List Triple → Bool
has_triple host size guest triples = list_any (is_triple host size guest) triples

-- the second guest is the first
abbrev pub is_guest : Option ℕ → Option ℕ → Bool
is_guest None other = false
is_guest (Some number) other = elim other as (λ _. Bool) [ None ↦ false | Some other ↦ other == number ]

-- a region that an item describes, with the item, its place and its guest
abbrev pub region_in : Item → ℕ → Option ℕ → What → List Region
region_in item place guest what = elim what as (λ _. List Region) [
  | whats.Shared id host page size owner ↦ record { item = item; place = place; guest = guest; id = id; host = host; size = size; owner = owner } ∷ []
  | _ ↦ []
]

-- the regions that items describe, the first item being at this place
unfoldable pub regions_from : ℕ → List Passed → List Region
regions_from place [] = []
regions_from place (passed ∷ more) = region_in (item_of passed) place passed.entry.guest (what_of passed) ++ regions_from (place + 1) more

-- a guest's number of shared interrupts is there, and the number is not below it
abbrev pub is_past : ℕ → Option ℕ → Bool
is_past number None = false
is_past number (Some spis) = nat_le spis number

-- the interrupt has that number, and its guest is not this one
abbrev pub is_other : ℕ → Option ℕ → Taker → Bool
is_other number guest taker = not (is_guest guest (Some taker.guest)) && (taker.number == number)

-- the first item that has
abbrev pub first_other : ℕ → Option ℕ → List Taker → Option Item
first_other number guest takers = option_map (λ (taker : Taker). taker.item) (find (is_other number guest) takers)

-- the item belongs to a guest that is not this one
abbrev pub is_of_other : Option ℕ → Passed → Bool
is_of_other guest passed = is_some passed.entry.guest && not (belongs_to guest passed)

-- the first of several items that meets a test
abbrev pub item_where : (Passed → Bool) → List Passed → Option Item
item_where test before = option_map item_of (find test before)

-- an item with its owner
abbrev pub entry_of : Owner → Described → Entry
entry_of owner described = record { guest = owner.guest; partial_read = owner.partial_read; described = described }

-- the state stands for these items, the last of which may belong to that guest
pub record Stands (guest : Option ℕ) (before : List Passed) (state : State) : Type 0 where
  pub items : state.items.items ≡ map item_of before
  pub claims : state.claims ≡ taken_from claims_taken 0 before
  pub loads : state.seen.loads.items ≡ flat_map (λ (passed : Passed). load_in (what_of passed)) before
  pub pages : state.last.pages ≡ taken_from (pages_taken guest) 0 before
  pub direct : state.last.direct ≡ is_direct before guest
  pub static_pages : state.last.static_pages ≡ pages_before before guest
  pub triples : (host size page : ℕ) → has_triple host size page state.last.triples.items ≡ is_repeated before guest host size page
  pub regions : state.seen.regions.items ≡ regions_from 0 before
  pub spis : (number : ℕ) → is_past number state.last.spis ≡ list_any (λ (passed : Passed). belongs_to guest passed && is_past_spis number (what_of passed)) before
  pub console : state.last.console ≡ item_where (λ passed. belongs_to guest passed && has_console (what_of passed)) before
  pub takers : (number : ℕ) (other : Option ℕ) → first_other number other state.seen.takers.items ≡ item_where (λ passed. is_of_other other passed && is_irq number (what_of passed)) before
