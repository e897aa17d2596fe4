-- What an item takes: the host frames that it claims, and the guest pages that it fills. It may look at the items before it.
use Rattle.std.specs.Prelude.{ℕ, ◌+◌, ◌-◌, ◌==◌, ◌&&◌, nat_le, min, sum_by, Bool, true, false, if◌then◌else◌, List, [], ◌∷◌, ◌++◌, map, Option, Some, None}
use Rattle.std.specs.List.{list_any}
use Rattle.texts.specs.declared.ranges.BaseSize.{BaseSize}
use Rattle.texts.specs.declared.ranges.FrameRange.{FrameRange}
use Rattle.described.specs.declared.item.Item.{Item}
use Rattle.described.specs.declared.item.What.{What}
use Rattle.described.specs.declared.item.What.TheVariants as whats
use Rattle.frame_alloc.specs.Ranges.{cut, touched}
use Rattle.domain_bindings.specs.declared.host.Host.{Host}
use Rattle.described.specs.declared.loaded.Loaded.{Loaded}
use Rattle.item_checks.specs.declared.guests.Guest.{Guest}
use Rattle.item_checks.specs.Entries.{Entry, joined}

-- an item that was passed, with what it takes
pub record Passed : Type 0 where
  pub entry : Entry
  pub claims : List FrameRange
  pub pages : List FrameRange

-- the item that has passed
abbrev pub item_of : Passed → Item
item_of passed = passed.entry.described.item

-- what it describes
abbrev pub what_of : Passed → What
what_of passed = passed.entry.described.what

-- the item belongs to that guest; an item of the host belongs to none
abbrev pub belongs_to : Option ℕ → Passed → Bool
belongs_to None passed = false
belongs_to (Some number) passed = elim passed.entry.guest as (λ _. Bool) [ None ↦ false | Some other ↦ other == number ]

-- the item describes direct-mapped memory, so static ranges lie at their own addresses
abbrev pub says_direct : What → Bool
says_direct (whats.Head cpus pages spis direct console) = direct
says_direct _ = false

-- the guest is direct-mapped
abbrev pub is_direct : List Passed → Option ℕ → Bool
is_direct before guest = list_any (λ (passed : Passed). belongs_to guest passed && says_direct (what_of passed)) before

-- how many pages a static range has
abbrev pub static_pages : What → ℕ
static_pages (whats.Static at) = (touched at).count
static_pages _ = 0

-- how many pages the guest's static ranges have so far, cut as every number of pages is
abbrev pub pages_before : List Passed → Option ℕ → ℕ
pages_before before guest = cut (sum_by (λ (passed : Passed). if belongs_to guest passed then static_pages (what_of passed) else 0) before)

-- a load of a file at that address, of at least that size
abbrev pub is_load_over : BaseSize → What → Bool
is_load_over at (whats.Load load) = (load.base == at.base) && nat_le at.size load.size
is_load_over at _ = false

-- a loaded file lies where the module does
abbrev pub is_loaded : List Passed → BaseSize → Bool
is_loaded before at = list_any (λ (passed : Passed). is_load_over at (what_of passed)) before

-- a device range with these three numbers
abbrev pub is_range : ℕ → ℕ → ℕ → What → Bool
is_range host size guest (whats.Range other_host other_size other_guest) = (other_host == host) && (other_size == size) && (other_guest == guest)
is_range host size guest _ = false

-- the guest named these three numbers before
abbrev pub is_repeated : List Passed → Option ℕ → ℕ → ℕ → ℕ → Bool
is_repeated before owner host size guest = list_any (λ (passed : Passed). belongs_to owner passed && is_range host size guest (what_of passed)) before

-- how many pages the first bank of a guest's memory has: addresses 0x40000000 to 0xffffffff. The second begins at 0x200000000
abbrev pub bank_size : ℕ
bank_size = 786432

-- the pages of a guest's memory from its k-th on, in both banks
abbrev pub bank_pages : ℕ → ℕ → List FrameRange
bank_pages k count =
    let low : ℕ = min count (bank_size - k) in
    record { first = 0x40000 + k; count = low } ∷ record { first = 0x200000 + (k + low - bank_size); count = count - low } ∷ []

-- the frames of a region that has a host address
abbrev pub region_claims : Option ℕ → ℕ → List FrameRange
region_claims None size = []
region_claims (Some host) size = touched (record { base = host; size = size }) ∷ []

-- the frames that an item claims
abbrev pub claims_of : List Passed → Entry → List FrameRange
claims_of before entry = elim entry.described.what as (λ _. List FrameRange) [
  | whats.Reserved entries ↦ map touched entries
  | whats.Reserve at ↦ touched at ∷ []
  | whats.Load at ↦ touched at ∷ []
  | whats.Module kind at ↦ if is_loaded before at then [] else touched at ∷ []
  | whats.Static at ↦ touched at ∷ []
  | whats.Range host size guest ↦ if is_repeated before entry.guest host size guest then [] else touched (record { base = host; size = size }) ∷ []
  | whats.Shared id host guest size owner ↦ region_claims host size
  | _ ↦ []
]

-- the guest pages that an item fills
abbrev pub pages_of : List Passed → Entry → List FrameRange
pages_of before entry = elim entry.described.what as (λ _. List FrameRange) [
  | whats.Head cpus pages spis direct console ↦ bank_pages 0 pages
  | whats.Static at ↦ if is_direct before entry.guest then touched at ∷ [] else bank_pages (pages_before before entry.guest) (touched at).count
  | whats.Range host size guest ↦ if is_repeated before entry.guest host size guest then [] else touched (record { base = guest; size = size }) ∷ []
  | whats.Shared id host guest size owner ↦ touched (record { base = guest; size = size }) ∷ []
  | _ ↦ []
]

-- how many pages several ranges have
abbrev pub total : List FrameRange → ℕ
total [] = 0
total (range ∷ ranges) = range.count + total ranges

-- what it describes has frames to which its pages go
abbrev pub has_frames : What → Bool
has_frames (whats.Static at) = true
has_frames (whats.Range host size guest) = true
has_frames (whats.Shared id host guest size owner) = true
has_frames _ = false

-- an item with what it takes
abbrev pub passing : List Passed → Entry → Passed
passing before entry = record { entry = entry; claims = claims_of before entry; pages = pages_of before entry }

-- the items passed before, and then these
unfoldable pub all_passed : List Passed → List Entry → List Passed
all_passed before [] = before
all_passed before (entry ∷ entries) = all_passed (before ++ passing before entry ∷ []) entries

-- all items with what they take
abbrev pub passed_of : Host → List Loaded → List Guest → List Passed
passed_of host loads guests = all_passed [] (joined host loads guests)
