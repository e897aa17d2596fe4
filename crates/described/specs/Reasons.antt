-- The first reason against an item, an item as it is described, and tests of ranges that several items share.
use Rattle.std.specs.Prelude.{ℕ, ◌+◌, ◌%◌, ◌^◌, ◌==◌, ◌||◌, not, nat_lt, Bool, List, [], ◌∷◌, Option, Some, None, if◌then◌else◌}
use Rattle.std.specs.List.{list_any}
use Rattle.described.specs.declared.item.Described.{Described}
use Rattle.described.specs.declared.item.Item.{Item}
use Rattle.described.specs.declared.item.What.{What}
use Rattle.described.specs.declared.item.What.TheVariants.{Unread}
use Rattle.described.specs.declared.why.Why.{Why}

-- a reason, where its test holds
abbrev pub where_so : Bool → Why → Option Why
where_so test why = if test then Some why else None

-- the first of the reasons that are there. A list of options, and not of tests beside reasons (`first_that_applies`), since some reasons
-- name the item that their test finds
abbrev pub first_reason : List (Option Why) → Option Why
first_reason [] = None
first_reason (None ∷ rest) = first_reason rest
first_reason (Some why ∷ rest) = Some why

-- an item with its own reason; where it has one, what it describes is unread
abbrev pub described : Item → Option Why → What → Described
described item None what = record { item = item; own = None; what = what }
described item (Some why) what = record { item = item; own = Some why; what = Unread }

-- one of the addresses or the size, in bytes, is no multiple of a page's 4,096, or the size is 0
abbrev pub is_not_page : List ℕ → ℕ → Bool
is_not_page addresses size = list_any (λ address. not (address % 4096 == 0)) addresses || not (size % 4096 == 0) || size == 0

-- a range of so many bytes from one of the addresses on ends past 2^40
abbrev pub is_too_high : List ℕ → ℕ → Bool
is_too_high addresses size = list_any (λ address. nat_lt (2 ^ 40) (address + size)) addresses

-- a size in bytes is more than 1 GiB
abbrev pub is_too_large : ℕ → Bool
is_too_large size = nat_lt (2 ^ 30) size
