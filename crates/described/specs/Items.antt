-- How items and reasons are shown.
use Rattle.std.specs.Prelude.{ℕ, List, [], ◌++◌, codes, decimal}
use Rattle.described.specs.declared.item.Item.{Item}
use Rattle.described.specs.declared.item.Part.TheVariants as parts
use Rattle.described.specs.declared.why.Why.{Why}
use Rattle.described.specs.declared.why.Why.TheVariants as whys

-- an item's text: its path and, where its node has several, its number among them
abbrev pub item_text : Item → List ℕ
item_text item = elim item.part as (λ _. List ℕ) [
  | parts.Reserve ↦ codes "reserve " ++ decimal item.index
  | parts.Load ↦ codes "load " ++ item.path
  | parts.StaticList ↦ item.path ++ codes " xen,static-mem"
  | parts.Static ↦ item.path ++ codes " static " ++ decimal item.index
  | parts.Range ↦ item.path ++ codes " range " ++ decimal item.index
  | parts.Irq ↦ item.path ++ codes " interrupt " ++ decimal item.index
  | parts.Region ↦ item.path ++ codes " region"
  | parts.Heap ↦ item.path ++ codes " memory"
  | parts.Tables ↦ item.path ++ codes " tables"
  | parts.Layout ↦ codes "layout"
  | _ ↦ item.path
]

-- a reason's name
abbrev pub why_name : Why → List ℕ
why_name whys.Missing = codes "Missing"
why_name whys.BadLength = codes "BadLength"
why_name whys.BadValue = codes "BadValue"
why_name whys.NotPage = codes "NotPage"
why_name whys.TooHigh = codes "TooHigh"
why_name whys.NotRam = codes "NotRam"
why_name (whys.HostOverlap other) = codes "HostOverlap"
why_name (whys.GuestOverlap other) = codes "GuestOverlap"
why_name whys.MemorySum = codes "MemorySum"
why_name whys.DirectWithoutStatic = codes "DirectWithoutStatic"
why_name whys.TooMany = codes "TooMany"
why_name whys.TooLarge = codes "TooLarge"
why_name whys.PartialUnread = codes "PartialUnread"
why_name whys.NoHostNode = codes "NoHostNode"
why_name whys.NoIommu = codes "NoIommu"
why_name whys.ExtendedInterrupts = codes "ExtendedInterrupts"
why_name whys.NotGic = codes "NotGic"
why_name whys.IrqNotHost = codes "IrqNotHost"
why_name (whys.IrqTaken other) = codes "IrqTaken"
why_name whys.PhandleClash = codes "PhandleClash"
why_name (whys.ShmDiffers other) = codes "ShmDiffers"
why_name (whys.OwnerTwice other) = codes "OwnerTwice"
why_name (whys.ShmTwice other) = codes "ShmTwice"
why_name whys.EvtchnLink = codes "EvtchnLink"
why_name (whys.PortTaken other) = codes "PortTaken"
why_name whys.EvtchnPlain = codes "EvtchnPlain"
why_name (whys.NoRam needed free) = codes "NoRam"
why_name (whys.NoTableFrame needed free) = codes "NoTableFrame"
why_name (whys.TreeTooLong bytes) = codes "TreeTooLong"
why_name (whys.Twice other) = codes "Twice"

-- after a space each, the other item or the numbers that a reason names
abbrev pub why_detail : Why → List ℕ
why_detail (whys.HostOverlap other) = codes " " ++ item_text other
why_detail (whys.GuestOverlap other) = codes " " ++ item_text other
why_detail (whys.IrqTaken other) = codes " " ++ item_text other
why_detail (whys.ShmDiffers other) = codes " " ++ item_text other
why_detail (whys.OwnerTwice other) = codes " " ++ item_text other
why_detail (whys.ShmTwice other) = codes " " ++ item_text other
why_detail (whys.PortTaken other) = codes " " ++ item_text other
why_detail (whys.NoRam needed free) = codes " " ++ decimal needed ++ codes " " ++ decimal free
why_detail (whys.NoTableFrame needed free) = codes " " ++ decimal needed ++ codes " " ++ decimal free
why_detail (whys.TreeTooLong bytes) = codes " " ++ decimal bytes
why_detail (whys.Twice other) = codes " " ++ item_text other
why_detail _ = []

-- a reason's text
abbrev pub why_text : Why → List ℕ
why_text why = why_name why ++ why_detail why

-- a refused item, and its reason
abbrev pub refusal_text : Item → Why → List ℕ
refusal_text item why = item_text item ++ (codes ": " ++ why_text why)
