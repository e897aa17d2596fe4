-- How a reader's fault is shown.
use Rattle.std.specs.Prelude.{ℕ, ◌++◌, codes, decimal}
use Rattle.fdt_tree.specs.Tree.{Bytes}
use Rattle.fdt_read.specs.declared.fault.FdtFault.{FdtFault}
use Rattle.fdt_read.specs.declared.fault.FdtFault.TheVariants as faults

-- A fault's name and the offset at which it was found, in decimal.
abbrev pub at_offset : Bytes → ℕ → Bytes
at_offset name offset = name ++ codes " at " ++ decimal offset

-- A fault's text: its name, and where it has one its offset.
abbrev pub fault_text : FdtFault → Bytes
fault_text faults.Magic = codes "Magic"
fault_text faults.Version = codes "Version"
fault_text (faults.Bounds offset) = at_offset (codes "Bounds") offset
fault_text (faults.Token offset) = at_offset (codes "Token") offset
fault_text (faults.Name offset) = at_offset (codes "Name") offset
fault_text (faults.Order offset) = at_offset (codes "Order") offset
fault_text (faults.Deep offset) = at_offset (codes "Deep") offset
fault_text faults.Memory = codes "out of memory"
