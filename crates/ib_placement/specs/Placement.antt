-- Where the files of a configuration are loaded: one after the other from 2 MiB above MEMORY_START, each at a multiple of 2 MiB.
use Rattle.std.specs.Prelude.{◌≡◌, ℕ, ◌+◌, ◌*◌, ◌/◌, ◌^◌, min, max, Bool, ◌&&◌, List, [], ◌∷◌, ◌++◌, map, Result, Ok, Err, nat_lt, find, option_to_list}
use Rattle.std.specs.List.{flat_map}
use Rattle.std.specs.Option.{option_map_or}
use Rattle.ib_config.specs.declared.settings.Settings.{Settings}
use Rattle.ib_config.specs.declared.guests.Guest.{Guest}
use Rattle.ib_placement.specs.declared.places.FilePlace.{FilePlace}
use Rattle.ib_placement.specs.declared.places.PlaceFault.{PlaceFault}
use Rattle.ib_placement.specs.declared.places.PlaceFault.TheVariants.{PastEnd, Memory}

-- the files of dom0 that are set, in their order
abbrev pub dom0_files : Settings → List (List ℕ)
dom0_files settings = option_to_list settings.dom0_kernel ++ option_to_list settings.dom0_ramdisk

-- the files of a guest that are set, in their order
abbrev pub guest_files : Guest → List (List ℕ)
guest_files guest = guest.kernel ∷ (option_to_list guest.ramdisk ++ option_to_list guest.passthrough_dtb)

-- the files in the order in which they are placed: XEN, dom0's files, those of each guest, and DEVICE_TREE last
unfoldable pub files_of : Settings → List (List ℕ)
files_of settings = (settings.xen ∷ dom0_files settings) ++ flat_map guest_files settings.guests ++ settings.device_tree ∷ []

-- the least multiple of 2 MiB that is not below an address
abbrev pub round_up : ℕ → ℕ
round_up address = (address + 0x1fffff) / 0x200000 * 0x200000

-- whether the address and the size of a file are of 64 bits
abbrev pub is_wide : FilePlace → Bool
is_wide place = nat_lt place.address (2 ^ 64) && nat_lt place.size (2 ^ 64)

-- what a size counts: at least 1 and at most 2^40 bytes
abbrev pub counted : ℕ → ℕ
counted size = min (max size 1) (2 ^ 40)

-- the bytes that a file takes before the files that follow it: the last, DEVICE_TREE, takes 0x80000 more, to which the script resizes it
abbrev pub room_of : List (List ℕ) → ℕ → ℕ
room_of [] size = counted size + 0x80000
room_of (next ∷ later) size = counted size

-- where a file ends that is placed behind the end before it
abbrev pub end_of : ℕ → List (List ℕ) → ℕ → ℕ
end_of before later size = round_up before + room_of later size

-- Each file begins at the least multiple of 2 MiB that is not below the end before it: its place, and where it ends.
abbrev pub placed_from : ℕ → List (List ℕ) → List ℕ → List (FilePlace × ℕ)
placed_from before [] sizes = []
placed_from before (name ∷ names) [] = []
placed_from before (name ∷ names) (size ∷ sizes) =
    (record { name = name; address = round_up before; size = size }, end_of before names size) ∷ placed_from (end_of before names size) names sizes

-- the place and the end of each file, the first 2 MiB or more above MEMORY_START
abbrev pub placed : Settings → List ℕ → List (FilePlace × ℕ)
placed settings sizes = placed_from (settings.memory_start + 0x200000) (files_of settings) sizes

-- the places; or the first file whose end passes a limit, with that end
abbrev pub places_below : ℕ → List (FilePlace × ℕ) → Result (List FilePlace) PlaceFault
places_below limit all = option_map_or (λ found. Err (PastEnd found.0.name found.1)) (find (λ one. nat_lt limit one.1) all) (Ok (map (λ one. one.0) all))

-- the places of a configuration's files, which have these sizes; or the first file whose end passes MEMORY_END, with that end
unfoldable pub places_of : Settings → List ℕ → Result (List FilePlace) PlaceFault
places_of settings sizes = places_below settings.memory_end (placed settings sizes)

-- a call answered this fault, or ran out of memory
abbrev pub IsFault : {Y : Type 0} → PlaceFault → Result Y PlaceFault → Type 0
IsFault Memory found = Unit {0}
IsFault fault found = found ≡ Err fault

-- what a call answered is what the definition gives, unless memory ran out
abbrev pub Gives : {X : Type 0} → Result X PlaceFault → Result X PlaceFault → Type 0
Gives (Ok x) found = found ≡ Ok x
Gives (Err fault) found = IsFault fault found
