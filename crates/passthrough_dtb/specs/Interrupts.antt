-- The interrupts that the devices of a partial tree have.
use Rattle.std.specs.Prelude.{ℕ, ◌+◌, ◌==◌, ◌&&◌, ◌||◌, not, nat_lt, Bool, List, [], ◌∷◌, map, codes, Option, if◌then◌else◌}
use Rattle.std.specs.Option.{option_map_or}
use Rattle.std.specs.List.{list_any}
use Rattle.described.specs.declared.item.Described.{Described}
use Rattle.described.specs.declared.item.Part.TheVariants as parts
use Rattle.described.specs.declared.item.What.TheVariants as whats
use Rattle.described.specs.declared.why.Why.{Why}
use Rattle.described.specs.declared.why.Why.TheVariants.{BadValue, IrqNotHost}
use Rattle.fdt_tree.specs.Tree.{Bytes, Property, Tree, property_of}
use Rattle.fdt_nodes.specs.Nodes.{Node, shown}
use Rattle.fdt_nodes.specs.Entries.{first_number, after_cells, is_whole, split_entries}
use Rattle.passthrough_dtb.specs.declared.interrupts.Interrupt.{Interrupt}
use Rattle.described.specs.Reasons.{where_so, first_reason, described}
use Rattle.passthrough_dtb.specs.Whole.{item_in}
use Rattle.passthrough_dtb.specs.Devices.{host_node, properties_of}

-- three cells: kind, number and flags
abbrev pub interrupt_in : Bytes → Interrupt
interrupt_in bytes = record { kind = first_number 1 bytes; number = first_number 1 (after_cells 1 bytes) }

-- the interrupts of a value; none where it is no whole threes of cells
abbrev pub interrupts_in : Bytes → List Interrupt
interrupts_in value = if is_whole 3 value then map interrupt_in (split_entries 3 value) else []

-- the interrupts of a node
abbrev pub interrupts_of : List Property → List Interrupt
interrupts_of properties = option_map_or interrupts_in (property_of properties (codes "interrupts")) []

-- the interrupt is no shared peripheral interrupt that a guest can have
abbrev pub is_no_spi : Interrupt → Bool
is_no_spi interrupt = not (interrupt.kind == 0) || nat_lt 987 interrupt.number

-- the two are of one kind and number
abbrev pub same_interrupt : Interrupt → Interrupt → Bool
same_interrupt one other = (one.kind == other.kind) && (one.number == other.number)

-- the first reason against an interrupt, where the host's node has these
abbrev pub interrupt_reason : List Interrupt → Interrupt → Option Why
interrupt_reason held interrupt = first_reason (
    where_so (is_no_spi interrupt) BadValue
    ∷ where_so (not (list_any (same_interrupt interrupt) held)) IrqNotHost
    ∷ []
    )

-- interrupts in a row, counted from a number on
abbrev pub interrupts_from : ℕ → Bytes → List Interrupt → ℕ → List Interrupt → List Described
interrupts_from guest path held number [] = []
interrupts_from guest path held number (interrupt ∷ rest) =
    described (item_in parts.Irq guest path number) (interrupt_reason held interrupt) (whats.Irq interrupt.number)
    ∷ interrupts_from guest path held (number + 1) rest

-- the interrupts of a device
abbrev pub irq_items : Tree → ℕ → Node → List Described
irq_items host guest device = interrupts_from guest (shown device.path) (interrupts_of (properties_of (host_node host device.properties))) 0 (interrupts_of device.properties)
