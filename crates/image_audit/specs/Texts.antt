-- How what an audit finds is said.
use Rattle.std.specs.Prelude.{ℕ, ◌==◌, ◌++◌, if◌then◌else◌, List, codes, decimal, Option, Some, None}
use Rattle.described.specs.Maps.{attributes}
use Rattle.texts.specs.NumberTexts.{hexadecimal}
use Rattle.described.specs.declared.map_range.Kind.TheVariants.{Ram, Device, Shared}
use Rattle.stage2_walk.specs.declared.audit_fault.AuditFault.{AuditFault}
use Rattle.stage2_walk.specs.declared.audit_fault.AuditFault.TheVariants as tears
use Rattle.stage2_walk.specs.declared.image_fault.ImageFault.{ImageFault}
use Rattle.stage2_walk.specs.declared.image_fault.ImageFault.TheVariants as faults
use Rattle.described.specs.RunLines.{address_text, kind_text}

-- a name with the number of a page in the file
abbrev pub at_page : List ℕ → ℕ → List ℕ
at_page name page = name ++ (codes " at " ++ decimal page)

-- why a file is no image
abbrev pub image_fault_text : ImageFault → List ℕ
image_fault_text faults.Magic = codes "Magic"
image_fault_text faults.Length = codes "Length"
image_fault_text (faults.TooHigh page) = at_page (codes "TooHigh") page
image_fault_text (faults.FrameTwice page) = at_page (codes "FrameTwice") page
image_fault_text faults.Root = codes "Root"
image_fault_text faults.Memory = codes "out of memory"

-- a name with the number of a frame
abbrev pub frame_text : List ℕ → ℕ → List ℕ
frame_text name frame = name ++ (codes " " ++ hexadecimal frame)

-- where an image is torn
abbrev pub tear_text : AuditFault → List ℕ
tear_text (tears.Missing frame) = frame_text (codes "Missing") frame
tear_text (tears.Reused frame) = frame_text (codes "Reused") frame
tear_text (tears.Reserved frame index) = frame_text (codes "Reserved") frame ++ (codes " " ++ decimal index)
tear_text tears.Memory = codes "out of memory"

-- attributes: the kind that has them, or else their number
abbrev pub attributes_text : ℕ → List ℕ
attributes_text attr =
    if attr == attributes Ram then kind_text Ram
    else if attr == attributes Device then kind_text Device
    else if attr == attributes Shared then kind_text Shared
    else codes "attr " ++ hexadecimal attr

-- where a page goes: to the address of a frame with attributes, or nowhere
abbrev pub goal_text : Option (ℕ × ℕ) → List ℕ
goal_text None = codes "none"
goal_text (Some goal) = address_text goal.0 ++ (codes " " ++ attributes_text goal.1)

-- the address of a page, where it goes, and where it is planned to go
abbrev pub difference_text : ℕ → Option (ℕ × ℕ) → Option (ℕ × ℕ) → List ℕ
difference_text page goal planned = address_text page ++ (codes " maps " ++ (goal_text goal ++ (codes ", plan " ++ goal_text planned)))

-- a table in a frame that some guest is planned to be mapped to
abbrev pub table_mapped : List ℕ
table_mapped = codes "TableMapped"

-- a table in a frame of an earlier image
abbrev pub table_shared : List ℕ
table_shared = codes "TableShared"

-- the line that is put where nothing is found, with the number of guests
abbrev pub checked_line : ℕ → List ℕ
checked_line guests = codes "checked " ++ (decimal guests ++ codes "\n")
