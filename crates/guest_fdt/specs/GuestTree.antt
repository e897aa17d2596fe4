-- The device tree that is written for a guest.
use Rattle.std.specs.Prelude.{List, [], ◌∷◌, ◌++◌, map, Option}
use Rattle.described.specs.declared.layout.Layout.{Layout}
use Rattle.domain_plan.specs.declared.planned.GuestPlan.{GuestPlan}
use Rattle.fdt_tree.specs.Tree.{Tree}
use Rattle.tree_parts.specs.Nodes.{node, on, on_any}
use Rattle.guest_fdt.specs.Copies.{copies}
use Rattle.guest_fdt.specs.Machine.{root_properties, chosen, cpus, psci, memory, interrupt_controller, timer, hypervisor, console, reserved_memory, static_ports}

-- what the guest starts with, and its vCPUs
abbrev pub first_nodes : Layout → GuestPlan → List Tree
first_nodes layout plan = chosen layout.console plan.bootargs plan.console ∷ cpus plan.cpus ∷ psci ∷ []

-- its memory
abbrev pub memory_nodes : GuestPlan → List Tree
memory_nodes plan = map memory plan.memories

-- the devices that every guest has
abbrev pub device_nodes : Layout → GuestPlan → List Tree
device_nodes layout plan =
    interrupt_controller layout.distributor layout.redistributors plan.gic ∷ timer ∷ hypervisor layout.grant ∷ []

-- the console, where the guest has one
abbrev pub console_nodes : Layout → GuestPlan → List Tree
console_nodes layout plan = on plan.console (console layout.console ∷ [])

-- the regions that it shares, where there are some
abbrev pub region_nodes : GuestPlan → List Tree
region_nodes plan = on_any plan.shared (reserved_memory plan.shared ∷ [])

-- its ports, where there are some
abbrev pub port_nodes : GuestPlan → List Tree
port_nodes plan = on_any plan.ports (static_ports plan.ports ∷ [])

-- the nodes of the guest's machine, whose devices stand in these areas
abbrev pub machine_nodes : Layout → GuestPlan → List Tree
machine_nodes layout plan =
    first_nodes layout plan
    ++ memory_nodes plan
    ++ device_nodes layout plan
    ++ console_nodes layout plan
    ++ region_nodes plan
    ++ port_nodes plan

-- the tree of a guest: its machine, whose devices stand where its layout says, and what is copied from its partial tree
unfoldable pub guest_tree : GuestPlan → Option Tree → Tree
guest_tree plan partial = node [] (root_properties plan.gic) (machine_nodes plan.layout plan ++ copies partial)
