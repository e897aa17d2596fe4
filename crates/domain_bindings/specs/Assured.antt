-- What holds of every guest that is read, whatever its tree says, so that a plan can rest on it.
use Rattle.std.specs.Prelude.{◌≡◌, ℕ, ◌^◌, ◌≤◌, ◌&&◌, Bool, true, false, is_some, List, [], ◌∷◌, None, filter, flat_map, sum_by}
use Rattle.std.specs.List.{list_any, AllZip}
use Rattle.described.specs.declared.item.Described.{Described}
use Rattle.described.specs.declared.item.Part.TheVariants as parts
use Rattle.described.specs.declared.item.What.{What}
use Rattle.described.specs.declared.item.What.TheVariants as whats
use Rattle.texts.specs.declared.ranges.BaseSize.{BaseSize}
use Rattle.domain_bindings.specs.declared.domain.Domain.{Domain}

-- the head that the numbers of a guest say
abbrev pub head_of : Domain → What
head_of domain = whats.Head domain.cpus domain.pages domain.spis domain.direct domain.console

-- the item is the head of the guest, by its path; without a reason of its own it says the guest's numbers
pub record IsHeadOf (domain : Domain) (item : Described) : Type 0 where
  pub part : item.item.part ≡ parts.Head
  pub path : item.item.path ≡ domain.path
  pub numbers : item.own ≡ None → item.what ≡ head_of domain

-- the first of some items is the head of the guest
abbrev pub BeginWithHead : Domain → List Described → Type 0
BeginWithHead domain [] = ⊥
BeginWithHead domain (first ∷ rest) = IsHeadOf domain first

-- the first item of a guest is its head
abbrev pub HasHead : Domain → Type 0
HasHead domain = BeginWithHead domain domain.items

-- the item is a list of static ranges
abbrev pub is_static_list : Described → Bool
is_static_list item = elim item.item.part as (λ _. Bool) [ parts.StaticList ↦ true | _ ↦ false ]

-- the item is a static range
abbrev pub is_static_range : Described → Bool
is_static_range item = elim item.item.part as (λ _. Bool) [ parts.Static ↦ true | _ ↦ false ]

-- the static ranges among some items
abbrev pub static_ranges : List Described → List Described
static_ranges items = filter is_static_range items

-- a list of static ranges among some items has a reason of its own
abbrev pub has_faulty_list : List Described → Bool
has_faulty_list items = list_any (λ (item : Described). is_static_list item && is_some item.own) items

-- the entries that an item says as a list of static ranges
abbrev pub entries_of : Described → List BaseSize
entries_of item = elim item.what as (λ _. List BaseSize) [ whats.StaticList entries ↦ entries | _ ↦ [] ]

-- the entries that some items list as static ranges
abbrev pub listed_entries : List Described → List BaseSize
listed_entries items = flat_map entries_of items

-- the item, where it has no reason of its own, says this entry
abbrev pub IsRangeOf : BaseSize → Described → Type 0
IsRangeOf entry item = item.own ≡ None → item.what ≡ whats.Static entry

-- where its list has no reason of its own, the guest has one static range for each entry, in their order; without a list it has none
abbrev pub HasListedRanges : Domain → Type 0
HasListedRanges domain = has_faulty_list domain.items ≡ false → AllZip IsRangeOf (listed_entries domain.items) (static_ranges domain.items)

-- how many bytes of static memory an item says
abbrev pub static_bytes : Described → ℕ
static_bytes item = elim item.what as (λ _. ℕ) [ whats.Static at ↦ at.size | _ ↦ 0 ]

-- where its list has no reason of its own, the guest's static ranges have at most 16 GiB together
abbrev pub HasStaticLimit : Domain → Type 0
HasStaticLimit domain = has_faulty_list domain.items ≡ false → sum_by static_bytes domain.items ≤ 2 ^ 34
