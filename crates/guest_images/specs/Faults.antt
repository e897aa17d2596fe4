-- Why no images are built.
use Rattle.std.specs.Prelude.{◌≡◌, Option, Some}
use Rattle.item_checks.specs.Refusals.{Refusal}
use Rattle.guest_images.specs.declared.fault.ImagesFault.{ImagesFault}
use Rattle.guest_images.specs.declared.fault.ImagesFault.TheVariants.{Refused, Memory}

-- memory ran out, or this is the refused item with its reason
abbrev pub IsFaultOf : Option Refusal → ImagesFault → Type 0
IsFaultOf first Memory = Unit {0}
IsFaultOf first (Refused item why) = first ≡ Some (item, why)
