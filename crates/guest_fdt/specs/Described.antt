-- What a guest's description says, in the same five lists.
use Rattle.std.specs.Prelude.{ℕ, ◌*◌, List, map, Option}
use Rattle.texts.specs.declared.ranges.BaseSize.{BaseSize}
use Rattle.domain_plan.specs.declared.planned.GuestPlan.{GuestPlan}
use Rattle.fdt_tree.specs.Tree.{Tree}
use Rattle.guest_fdt.specs.Copies.{kept}
use Rattle.guest_fdt.specs.Listed.{Device, Listing, devices_in}
use Rattle.tree_parts.specs.Nodes.{on_some}

-- pages as a range of bytes
abbrev pub bytes_of : ℕ → ℕ → BaseSize
bytes_of page count = record { base = page * 4096; size = count * 4096 }

-- the devices of a partial tree, if there is one
abbrev pub partial_devices : Option Tree → List Device
partial_devices partial = on_some partial devices_in

-- what the guest is to see
abbrev pub described : GuestPlan → Option Tree → Listing
described plan partial = record {
  memories = map (λ (page, count). bytes_of page count) plan.memories;
  devices = map (λ (path, properties). (path, kept properties)) (partial_devices partial);
  interrupts = plan.spis;
  shared = map (λ (id, page, count). (id, bytes_of page count)) plan.shared;
  ports = plan.ports;
}
