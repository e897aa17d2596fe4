-- What a run says: messages on `err`, each on one line behind the program's name, and the report on `out`.
use Rattle.std.specs.Prelude.{ℕ, List, ◌++◌, flat_map, codes}
use Rattle.texts.specs.NumberTexts.{hexadecimal}
use Rattle.run_steps.specs.Messages as messages
use Rattle.guest_load.specs.declared.places.Place.{Place}
use Rattle.guest_load.specs.declared.places.LoadPlan.{LoadPlan}
use Rattle.guest_load.specs.declared.places.LoadPart.{LoadPart}
use Rattle.guest_load.specs.declared.places.LoadPart.TheVariants.{Kernel, Ramdisk, Tree}
use Rattle.guest_load.specs.LoadPlaces.{parts}

-- the program's name
abbrev pub program_name : List ℕ
program_name = codes "guest_load"

-- a message of this program is one line on `err`, ended by a line feed
abbrev pub line : List ℕ → List ℕ
line message = messages.line program_name message

-- the tree of this name has no bank
abbrev pub no_bank_message : List ℕ → List ℕ
no_bank_message name = messages.file_message name (codes "NoBank")

-- the file of this name is no image
abbrev pub no_image_message : List ℕ → List ℕ
no_image_message name = messages.file_message name (codes "NotImage")

-- the name of a part
abbrev pub part_text : LoadPart → List ℕ
part_text Kernel = codes "kernel"
part_text Ramdisk = codes "ramdisk"
part_text Tree = codes "tree"

-- there is no room for a part
abbrev pub no_room_message : LoadPart → List ℕ
no_room_message part = messages.file_message (part_text part) (codes "NoRoom")

-- where a part lies: its name, its address and its size
abbrev pub part_line : LoadPart × Place → List ℕ
part_line (part, place) = part_text part ++ (codes " " ++ (hexadecimal place.address ++ (codes " " ++ (hexadecimal place.size ++ codes "\n"))))

-- where the parts lie, a line each
abbrev pub report : LoadPlan → List ℕ
report plan = flat_map part_line (parts plan)
