-- What some items and reasons show, as computed.
use Rattle.std.proofs.Common.{◌≡◌, refl, []}
use Rattle.std.specs.Prelude.{codes}
use Rattle.std.specs.Fmt.{digits}
use Rattle.described.specs.Items.{item_text, why_text}
use Rattle.described.specs.declared.item.Part.TheVariants as parts
use Rattle.described.specs.declared.why.Why.TheVariants as whys

range_of_serial : item_text (record { part = parts.Range; path = codes "domU0:/passthrough/serial@ff010000"; index = 0 }) ≡ codes "domU0:/passthrough/serial@ff010000 range 0"
unfolding digits
range_of_serial = refl

static_overlap : why_text (whys.HostOverlap (record { part = parts.Static; path = codes "/chosen/domU0"; index = 0 })) ≡ codes "HostOverlap /chosen/domU0 static 0"
unfolding digits
static_overlap = refl

layout_overlap : why_text (whys.GuestOverlap (record { part = parts.Layout; path = []; index = 0 })) ≡ codes "GuestOverlap layout"
layout_overlap = refl

frames_wanting : why_text (whys.NoRam 512 1021) ≡ codes "NoRam 512 1021"
unfolding digits
frames_wanting = refl

reserve_seventh : item_text (record { part = parts.Reserve; path = []; index = 7 }) ≡ codes "reserve 7"
unfolding digits
reserve_seventh = refl
