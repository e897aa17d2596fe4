-- The nodes of a guest's machine, part by part.
use Rattle.std.proofs.Common.{List, ◌++◌}
use Rattle.described.specs.declared.layout.Layout.{Layout}
use Rattle.domain_plan.specs.declared.planned.GuestPlan.{GuestPlan}
use Rattle.fdt_tree.specs.Tree.{Tree}
use Rattle.guest_fdt.specs.GuestTree.{first_nodes, memory_nodes, device_nodes, console_nodes, region_nodes}

-- the nodes up to the memory, up to the devices, up to the console, and up to the regions
abbrev pub to_memory : Layout → GuestPlan → List Tree
to_memory layout plan = first_nodes layout plan ++ memory_nodes plan

abbrev pub to_devices : Layout → GuestPlan → List Tree
to_devices layout plan = to_memory layout plan ++ device_nodes layout plan

abbrev pub to_console : Layout → GuestPlan → List Tree
to_console layout plan = to_devices layout plan ++ console_nodes layout plan

abbrev pub to_regions : Layout → GuestPlan → List Tree
to_regions layout plan = to_console layout plan ++ region_nodes plan
