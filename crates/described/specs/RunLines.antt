-- A run of pages as a line of text.
use Rattle.std.specs.Prelude.{ℕ, ◌*◌, ◌^◌, ◌<◌, ◌++◌, List, codes, decimal}
use Rattle.texts.specs.NumberTexts.{hexadecimal}
use Rattle.texts.specs.Lines.{text_line}
use Rattle.described.specs.declared.map_range.Kind.{Kind}
use Rattle.described.specs.declared.map_range.Kind.TheVariants.{Ram, Device, Shared}
use Rattle.described.specs.declared.map_range.MapRange.{MapRange}

-- a kind as it is shown
unfoldable pub kind_text : Kind → List ℕ
kind_text Ram = codes "ram"
kind_text Device = codes "device"
kind_text Shared = codes "shared"

-- the address of a page or a frame, as it is shown
abbrev pub address_text : ℕ → List ℕ
address_text page = hexadecimal (page * 4096)

-- where a run goes: its first guest page, and the first host frame
abbrev pub places_text : MapRange → List ℕ
places_text run = address_text run.page ++ (codes " -> " ++ address_text run.first)

-- the line of a run: where it goes, how many pages it has, and their kind
abbrev pub run_line : MapRange → List ℕ
run_line run = text_line (codes "  " ++ (places_text run ++ (codes " pages " ++ (decimal run.count ++ (codes " " ++ kind_text run.kind)))))

-- the addresses of a run are numbers of 64 bits
abbrev pub HasAddresses : MapRange → Type 0
HasAddresses run = (run.page < 2 ^ 28) × (run.first < 2 ^ 28)
