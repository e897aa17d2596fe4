-- Small descriptions, as the definitions read them.
use Rattle.std.proofs.Common.{◌≡◌, ℕ, List, [], ◌∷◌, ◌++◌, refl, Some, None}
use Rattle.std.specs.Prelude.{codes, Option}
use Rattle.std.specs.Fmt.{digits}
use Rattle.texts.specs.Consecutive.{numbers}
use Rattle.described.specs.declared.item.Described.{Described}
use Rattle.described.specs.declared.item.Part.TheVariants as parts
use Rattle.described.specs.declared.item.What.TheVariants as whats
use Rattle.described.specs.declared.why.Why.{Why}
use Rattle.described.specs.declared.why.Why.TheVariants as whys
use Rattle.fdt_tree.specs.Tree.{Bytes, Property, none, tree, Tree}
use Rattle.passthrough_dtb.specs.Devices.{device_reason}
use Rattle.passthrough_dtb.specs.Whole.{partial_reason}
use Rattle.passthrough_dtb.specs.Items.{partial_items}

-- cells below 256, and two that are not
abbrev c : ℕ → Bytes
c n = 0 ∷ 0 ∷ 0 ∷ n ∷ []

abbrev uart_address : Bytes
uart_address = c 0 ++ 0xff ∷ 0x01 ∷ 0x00 ∷ 0x00 ∷ []

abbrev page : Bytes
page = c 0 ++ 0 ∷ 0 ∷ 0x10 ∷ 0 ∷ []

abbrev two_and_two : List Property
two_and_two = (codes "#address-cells", c 2) ∷ (codes "#size-cells", c 2) ∷ []

-- a text with its NUL
abbrev z : Bytes → Bytes
z text = text ++ 0 ∷ []

-- a host with these properties of its root and of its serial port: a GIC of phandle 1, and a serial port with interrupt 22
abbrev host_with : List Property → List Property → Tree
host_with of_root of_port = record {
  name = [];
  properties = two_and_two ++ of_root;
  children = tree (codes "gic") ((codes "#interrupt-cells", c 3) ∷ (codes "interrupt-controller", []) ∷ (codes "phandle", c 1) ∷ []) none
      (tree (codes "axi") two_and_two (tree (codes "serial@ff010000") ((codes "reg", uart_address ++ page) ∷ (codes "interrupts", c 0 ++ c 22 ++ c 4) ∷ of_port) none none)
      (tree (codes "chosen") [] none none));
}

-- interrupts go to the node of this phandle
abbrev parent : ℕ → List Property
parent phandle = (codes "interrupt-parent", c phandle) ∷ []

abbrev host : Tree
host = host_with (parent 1) []

-- the partial tree of a guest, with these interrupts, entries of `xen,reg`, and properties of `/passthrough`
abbrev uart : Bytes → Bytes → List Property → Tree
uart interrupts entries more = record {
  name = [];
  properties = two_and_two;
  children = tree (codes "passthrough") ((codes "compatible", z (codes "simple-bus")) ∷ (codes "ranges", []) ∷ two_and_two ++ more)
      (tree (codes "serial@ff010000") (
      (codes "compatible", z (codes "cdns,uart-r1p8"))
      ∷ (codes "reg", uart_address ++ page)
      ∷ (codes "interrupts", interrupts)
      ∷ (codes "interrupt-parent", 0 ∷ 0 ∷ 0xfd ∷ 0xe8 ∷ [])
      ∷ (codes "xen,reg", entries)
      ∷ (codes "xen,path", z (codes "/axi/serial@ff010000"))
      ∷ (codes "xen,force-assign-without-iommu", [])
      ∷ []
      ) none none)
      none;
}

abbrev one_entry : Bytes
one_entry = uart_address ++ page ++ uart_address

abbrev one_interrupt : Bytes
one_interrupt = c 0 ++ c 22 ++ c 4

-- what is described of the serial port
abbrev tree_itself : Described
tree_itself = record { item = record { part = parts.Partial; path = codes "domU0:/"; index = 0 }; own = None; what = whats.Partial 65000 }

abbrev device : Described
device = record { item = record { part = parts.Device; path = codes "domU0:/passthrough/serial@ff010000"; index = 0 }; own = None; what = whats.Device }

abbrev range : ℕ → Described
range k = record { item = record { part = parts.Range; path = codes "domU0:/passthrough/serial@ff010000"; index = k }; own = None; what = whats.Range 0xff010000 0x1000 0xff010000 }

abbrev irq : Described
irq = record { item = record { part = parts.Irq; path = codes "domU0:/passthrough/serial@ff010000"; index = 0 }; own = None; what = whats.Irq 22 }

serial_port : partial_items (uart one_interrupt one_entry []) host 0 ≡ tree_itself ∷ device ∷ range 0 ∷ irq ∷ []
unfolding partial_items numbers digits
serial_port = refl

-- an interrupt that the host's node has not
two_interrupts : partial_items (uart (one_interrupt ++ c 0 ++ c 23 ++ c 4) one_entry []) host 0
    ≡ tree_itself ∷ device ∷ range 0 ∷ irq ∷ record { item = record { part = parts.Irq; path = codes "domU0:/passthrough/serial@ff010000"; index = 1 }; own = Some whys.IrqNotHost; what = whats.Unread } ∷ []
unfolding partial_items numbers digits
two_interrupts = refl

-- a range that stands twice has no reason
repeated_range : partial_items (uart one_interrupt (one_entry ++ one_entry) []) host 0 ≡ tree_itself ∷ device ∷ range 0 ∷ range 1 ∷ irq ∷ []
unfolding partial_items numbers digits
repeated_range = refl

-- `/passthrough` says that it is memory
memory_node : partial_items (uart one_interrupt one_entry ((codes "device_type", z (codes "memory")) ∷ [])) host 0
    ≡ record { item = record { part = parts.Partial; path = codes "domU0:/"; index = 0 }; own = Some whys.BadValue; what = whats.Unread } ∷ device ∷ range 0 ∷ irq ∷ []
unfolding partial_items numbers digits
memory_node = refl

-- a node below `/passthrough` has the phandle of the guest's interrupt controller
phandle_of_the_gic : partial_reason (record { name = []; properties = []; children = tree (codes "passthrough") [] (tree (codes "a") ((codes "phandle", 0 ∷ 0 ∷ 0xfd ∷ 0xe8 ∷ []) ∷ []) none none) none }) ≡ Some whys.PhandleClash
phandle_of_the_gic = refl

no_passthrough : partial_reason (record { name = []; properties = []; children = none }) ≡ Some whys.Missing
no_passthrough = refl

-- the first reason of a device with these properties, over this host
abbrev reason_of : Tree → List Property → Option Why
reason_of host properties = device_reason host (record { place = 0 ∷ 0 ∷ []; path = codes "/passthrough/serial"; cells = Some (2, 2); properties = properties; children = none })

abbrev named : Bytes → List Property → List Property
named path more = (codes "xen,path", path) ∷ more

abbrev port : Bytes
port = z (codes "/axi/serial@ff010000")

abbrev forced : List Property
forced = (codes "xen,force-assign-without-iommu", []) ∷ []

abbrev interrupts : List Property → List Property
interrupts more = (codes "interrupts", one_interrupt) ∷ more

device_without_path : reason_of host (interrupts forced) ≡ Some whys.Missing
device_without_path = refl

forced_device_without_path : reason_of host ((codes "xen,reg", one_entry) ∷ forced) ≡ None
forced_device_without_path = refl

path_without_slash : reason_of host (named (z (codes "axi")) forced) ≡ Some whys.BadValue
path_without_slash = refl

path_of_no_node : reason_of host (named (z (codes "/axi/serial")) forced) ≡ Some whys.NoHostNode
path_of_no_node = refl

device_without_iommu : reason_of host (named port []) ≡ Some whys.NoIommu
device_without_iommu = refl

device_behind_an_iommu : reason_of (host_with [] ((codes "iommus", []) ∷ [])) (named port []) ≡ None
device_behind_an_iommu = refl

extended_interrupts : reason_of host (named port ((codes "interrupts-extended", []) ∷ forced)) ≡ Some whys.ExtendedInterrupts
extended_interrupts = refl

extended_interrupts_of_the_host : reason_of (host_with (parent 1) ((codes "interrupts-extended", []) ∷ [])) (named port forced) ≡ Some whys.ExtendedInterrupts
extended_interrupts_of_the_host = refl

interrupt_of_two_cells : reason_of host (named port ((codes "interrupts", c 0 ++ c 22) ∷ forced)) ≡ Some whys.BadLength
interrupt_of_two_cells = refl

no_interrupt_parent : reason_of (host_with [] []) (named port (interrupts forced)) ≡ Some whys.NotGic
no_interrupt_parent = refl

another_interrupt_parent : reason_of (host_with (parent 2) []) (named port (interrupts forced)) ≡ Some whys.NotGic
another_interrupt_parent = refl

-- the nearest one counts
nearest_interrupt_parent : reason_of (host_with (parent 2) (parent 1)) (named port (interrupts forced)) ≡ None
nearest_interrupt_parent = refl
