-- The host and the guests that a description describes (Xen, docs/misc/arm/device-tree/booting.txt).
use Rattle.std.specs.Prelude.{ℕ, ◌+◌, ◌==◌, if◌then◌else◌, List, [], ◌∷◌, Option, None, Some, slice_get, option_and_then}
use Rattle.texts.specs.declared.ranges.FrameRange.{FrameRange}
use Rattle.fdt_tree.specs.Tree.{Tree}
use Rattle.fdt_nodes.specs.Nodes.{Node, shown}
pub use Rattle.domain_bindings.specs.Descriptions.{Description, description_of, trees_in}
use Rattle.domain_bindings.specs.Domains.{guest_nodes, domain_items, bootargs_of, partial_of, said_cpus, said_pages, said_spis, said_direct, said_console}
use Rattle.domain_bindings.specs.Heads.{head_item, is_past_limit}
use Rattle.domain_bindings.specs.HostDevices.{areas_of, console_of}
use Rattle.domain_bindings.specs.Hosts.{host_items, dom0_items, ram_regions}
use Rattle.domain_bindings.specs.Ram.{ram_frames}
use Rattle.domain_bindings.specs.declared.domain.Domain.{Domain}
use Rattle.domain_bindings.specs.declared.host.Host.{Host}
use Rattle.passthrough_dtb.specs.Gic.{guest_gic}
use Rattle.passthrough_dtb.specs.Items.{partial_items}
use Rattle.static_links.specs.Ports.{port_items}
use Rattle.static_links.specs.Shared.{shared_items}
use Rattle.item_checks.specs.declared.guests.Guest.{Guest}
use Rattle.item_checks.specs.declared.guests.PartialState.{PartialState}
use Rattle.item_checks.specs.declared.guests.PartialState.TheVariants as states

-- a frame before ranges of frames
abbrev pub with_frame : ℕ → List FrameRange → List FrameRange
with_frame frame [] = record { first = frame; count = 1 } ∷ []
with_frame frame (range ∷ ranges) =
    if range.first == frame + 1 then record { first = frame; count = range.count + 1 } ∷ ranges
    else record { first = frame; count = 1 } ∷ range ∷ ranges

-- ascending frames as ranges, as few as can be
unfoldable pub frames_as_ranges : List ℕ → List FrameRange
frames_as_ranges [] = []
frames_as_ranges (frame ∷ frames) = with_frame frame (frames_as_ranges frames)

-- The numbers that nodes have in memory belong to no description: here they are none and 0.

-- the host that is described
abbrev pub host_of : Description → Host
host_of description = record {
  items = host_items description.root description.reserves;
  modules = dom0_items description.root;
  ram = frames_as_ranges (ram_frames (ram_regions description.root));
  gic = None;
  areas = areas_of description.root;
  console = console_of description.root;
}

-- what the node of the guest with this number describes
abbrev pub domain_of : ℕ → Node → Domain
domain_of number node =
    let head = (head_item number node).what in
    record {
      node = 0;
      path = shown node.path;
      number = number;
      cpus = said_cpus head;
      pages = said_pages head;
      console = said_console head;
      spis = said_spis head;
      direct = said_direct head;
      bootargs = bootargs_of node;
      partial = partial_of node;
      items = domain_items number node;
    }

-- a guest's partial tree: unread, or its interrupt controller and its items
abbrev pub partial_state : Tree → ℕ → Option Tree → PartialState
partial_state root number None = states.Unread
partial_state root number (Some partial) = states.Read (record { gic = guest_gic partial; items = partial_items partial root number })

-- a guest; of one past the sixteenth, which its head refuses, the head is all that counts
abbrev pub guest_of : Tree → ℕ → Node → Option Tree → Guest
guest_of root number node partial =
    if is_past_limit number
    then record { domain = domain_of number node; partial = states.Unread; shared = []; ports = [] }
    else record { domain = domain_of number node; partial = partial_state root number partial; shared = shared_items node; ports = port_items root node }

-- the partial tree of the guest with this number, where it was read
abbrev pub partial_at : List (Option Tree) → ℕ → Option Tree
partial_at partials number = option_and_then (λ partial. partial) (slice_get partials number)

-- guests, the first of which has this number
abbrev pub guests_from : Tree → List (Option Tree) → ℕ → List Node → List Guest
guests_from root partials number [] = []
guests_from root partials number (node ∷ nodes) =
    guest_of root number node (partial_at partials number) ∷ guests_from root partials (number + 1) nodes

-- the guests that are described, in document order
unfoldable pub guests_of : Description → List Guest
guests_of description = guests_from description.root description.partials 0 (guest_nodes description.root)
