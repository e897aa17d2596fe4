-- Worked trees: the first is written out whole, as a listing of it shows it.
use Rattle.std.proofs.Common.{ℕ, zero, suc, ◌+◌, ◌<◌, ◌≤◌, ◌^◌, arith, ◌≡◌, [], ◌∷◌, ◌++◌, Some, None, true, false, codes, refl}
use Rattle.std.specs.Fmt.{digits}
use Rattle.texts.specs.Consecutive.{numbers}
use Rattle.std.specs.Prelude.{All, IsTrue, option_map}
use Rattle.texts.specs.Consecutive.{is_in}
use Rattle.described.specs.declared.layout.Layout.{Layout}
use Rattle.fdt_tree.specs.Tree.{Bytes, property_of}
use Rattle.guest_fdt.specs.Laws.{IsDescription, is_text}
use Rattle.described.specs.Layouts.{usual_layout}
use Rattle.domain_plan.specs.declared.planned.GuestPlan.{GuestPlan}
use Rattle.fdt_tree.specs.Tree.{none, tree, Tree}
use Rattle.guest_fdt.specs.Found.{node_found}
use Rattle.guest_fdt.specs.Copies.{is_binding}
use Rattle.guest_fdt.specs.Machine.{root_properties, chosen, cpu, cpus, psci, memory, interrupt_controller, timer, hypervisor, console, region, reserved_memory, static_ports}
use Rattle.guest_fdt.specs.GuestTree.{guest_tree}
use Rattle.guest_fdt.specs.Listed.{memories_in, devices_in, interrupts_in, regions_in, ports_in, listed}
use Rattle.guest_fdt.specs.Described.{described}

-- a guest with 512 MiB at 1 GiB, mapped directly, and nothing else
abbrev plain_guest : GuestPlan
plain_guest = record { number = 0; path = codes "/chosen/domU0"; cpus = 1; console = false; gic = 65000; layout = usual_layout; bootargs = None; memories = (0x40000, 0x20000) ∷ []; ranges = []; spis = []; shared = []; ports = [] }

-- its tree, byte by byte
plain-tree : guest_tree plain_guest None ≡ record {
  name = [];
  properties = ((codes "#address-cells", 0 ∷ 0 ∷ 0 ∷ 2 ∷ []) ∷ (codes "#size-cells", 0 ∷ 0 ∷ 0 ∷ 2 ∷ []) ∷ (codes "compatible", 120 ∷ 101 ∷ 110 ∷ 44 ∷ 120 ∷ 101 ∷ 110 ∷ 118 ∷ 109 ∷ 0 ∷ []) ∷ (codes "interrupt-parent", 0 ∷ 0 ∷ 253 ∷ 232 ∷ []) ∷ []);
  children = (tree (codes "chosen") []
      none
      (tree (codes "cpus") ((codes "#address-cells", 0 ∷ 0 ∷ 0 ∷ 1 ∷ []) ∷ (codes "#size-cells", 0 ∷ 0 ∷ 0 ∷ 0 ∷ []) ∷ [])
      (tree (codes "cpu@0") ((codes "device_type", 99 ∷ 112 ∷ 117 ∷ 0 ∷ []) ∷ (codes "compatible", 97 ∷ 114 ∷ 109 ∷ 44 ∷ 97 ∷ 114 ∷ 109 ∷ 118 ∷ 56 ∷ 0 ∷ []) ∷ (codes "enable-method", 112 ∷ 115 ∷ 99 ∷ 105 ∷ 0 ∷ []) ∷ (codes "reg", 0 ∷ 0 ∷ 0 ∷ 0 ∷ []) ∷ [])
      none
      none)
      (tree (codes "psci") ((codes "compatible", 97 ∷ 114 ∷ 109 ∷ 44 ∷ 112 ∷ 115 ∷ 99 ∷ 105 ∷ 45 ∷ 49 ∷ 46 ∷ 48 ∷ 0 ∷ []) ∷ (codes "method", 104 ∷ 118 ∷ 99 ∷ 0 ∷ []) ∷ [])
      none
      (tree (codes "memory@40000000") ((codes "device_type", 109 ∷ 101 ∷ 109 ∷ 111 ∷ 114 ∷ 121 ∷ 0 ∷ []) ∷ (codes "reg", 0 ∷ 0 ∷ 0 ∷ 0 ∷ 64 ∷ 0 ∷ 0 ∷ 0 ∷ 0 ∷ 0 ∷ 0 ∷ 0 ∷ 32 ∷ 0 ∷ 0 ∷ 0 ∷ []) ∷ [])
      none
      (tree (codes "interrupt-controller@3001000") ((codes "compatible", 97 ∷ 114 ∷ 109 ∷ 44 ∷ 103 ∷ 105 ∷ 99 ∷ 45 ∷ 118 ∷ 51 ∷ 0 ∷ []) ∷ (codes "#interrupt-cells", 0 ∷ 0 ∷ 0 ∷ 3 ∷ []) ∷ (codes "#address-cells", 0 ∷ 0 ∷ 0 ∷ 0 ∷ []) ∷ (codes "interrupt-controller", []) ∷ (codes "reg", 0 ∷ 0 ∷ 0 ∷ 0 ∷ 3 ∷ 0 ∷ 16 ∷ 0 ∷ 0 ∷ 0 ∷ 0 ∷ 0 ∷ 0 ∷ 1 ∷ 0 ∷ 0 ∷ 0 ∷ 0 ∷ 0 ∷ 0 ∷ 3 ∷ 2 ∷ 0 ∷ 0 ∷ 0 ∷ 0 ∷ 0 ∷ 0 ∷ 1 ∷ 0 ∷ 0 ∷ 0 ∷ []) ∷ (codes "phandle", 0 ∷ 0 ∷ 253 ∷ 232 ∷ []) ∷ [])
      none
      (tree (codes "timer") ((codes "compatible", 97 ∷ 114 ∷ 109 ∷ 44 ∷ 97 ∷ 114 ∷ 109 ∷ 118 ∷ 56 ∷ 45 ∷ 116 ∷ 105 ∷ 109 ∷ 101 ∷ 114 ∷ 0 ∷ []) ∷ (codes "interrupts", 0 ∷ 0 ∷ 0 ∷ 1 ∷ 0 ∷ 0 ∷ 0 ∷ 13 ∷ 0 ∷ 0 ∷ 0 ∷ 4 ∷ 0 ∷ 0 ∷ 0 ∷ 1 ∷ 0 ∷ 0 ∷ 0 ∷ 14 ∷ 0 ∷ 0 ∷ 0 ∷ 4 ∷ 0 ∷ 0 ∷ 0 ∷ 1 ∷ 0 ∷ 0 ∷ 0 ∷ 11 ∷ 0 ∷ 0 ∷ 0 ∷ 4 ∷ []) ∷ [])
      none
      (tree (codes "hypervisor@38000000") ((codes "compatible", 120 ∷ 101 ∷ 110 ∷ 44 ∷ 120 ∷ 101 ∷ 110 ∷ 0 ∷ []) ∷ (codes "reg", 0 ∷ 0 ∷ 0 ∷ 0 ∷ 56 ∷ 0 ∷ 0 ∷ 0 ∷ 0 ∷ 0 ∷ 0 ∷ 0 ∷ 1 ∷ 0 ∷ 0 ∷ 0 ∷ []) ∷ [])
      none
      none)))))));
}
unfolding digits guest_tree usual_layout root_properties chosen cpus cpu numbers psci memory interrupt_controller timer hypervisor
plain-tree = refl

plain-listed : listed (guest_tree plain_guest None) ≡ described plain_guest None
unfolding digits guest_tree usual_layout root_properties chosen cpus cpu numbers psci memory interrupt_controller timer hypervisor memories_in devices_in interrupts_in regions_in ports_in
plain-listed = refl

-- a partial tree with one serial port
abbrev serial_port : Tree
serial_port = record {
  name = [];
  properties = ((codes "#address-cells", 0 ∷ 0 ∷ 0 ∷ 2 ∷ []) ∷ (codes "#size-cells", 0 ∷ 0 ∷ 0 ∷ 2 ∷ []) ∷ []);
  children = (tree (codes "passthrough") ((codes "compatible", 115 ∷ 105 ∷ 109 ∷ 112 ∷ 108 ∷ 101 ∷ 45 ∷ 98 ∷ 117 ∷ 115 ∷ 0 ∷ []) ∷ (codes "ranges", []) ∷ (codes "#address-cells", 0 ∷ 0 ∷ 0 ∷ 2 ∷ []) ∷ (codes "#size-cells", 0 ∷ 0 ∷ 0 ∷ 2 ∷ []) ∷ [])
      (tree (codes "serial@ff010000") ((codes "compatible", 99 ∷ 100 ∷ 110 ∷ 115 ∷ 44 ∷ 117 ∷ 97 ∷ 114 ∷ 116 ∷ 45 ∷ 114 ∷ 49 ∷ 112 ∷ 56 ∷ 0 ∷ []) ∷ (codes "reg", 0 ∷ 0 ∷ 0 ∷ 0 ∷ 255 ∷ 1 ∷ 0 ∷ 0 ∷ 0 ∷ 0 ∷ 0 ∷ 0 ∷ 0 ∷ 0 ∷ 16 ∷ 0 ∷ []) ∷ (codes "interrupts", 0 ∷ 0 ∷ 0 ∷ 0 ∷ 0 ∷ 0 ∷ 0 ∷ 22 ∷ 0 ∷ 0 ∷ 0 ∷ 4 ∷ []) ∷ (codes "interrupt-parent", 0 ∷ 0 ∷ 253 ∷ 232 ∷ []) ∷ (codes "xen,reg", 0 ∷ 0 ∷ 0 ∷ 0 ∷ 255 ∷ 1 ∷ 0 ∷ 0 ∷ 0 ∷ 0 ∷ 0 ∷ 0 ∷ 0 ∷ 0 ∷ 16 ∷ 0 ∷ 0 ∷ 0 ∷ 0 ∷ 0 ∷ 255 ∷ 1 ∷ 0 ∷ 0 ∷ []) ∷ (codes "xen,path", 47 ∷ 97 ∷ 120 ∷ 105 ∷ 47 ∷ 115 ∷ 101 ∷ 114 ∷ 105 ∷ 97 ∷ 108 ∷ 64 ∷ 102 ∷ 102 ∷ 48 ∷ 49 ∷ 48 ∷ 48 ∷ 48 ∷ 48 ∷ 0 ∷ []) ∷ (codes "xen,force-assign-without-iommu", []) ∷ [])
      none
      none)
      none);
}

-- a guest with that port, a console, two regions and two ports
abbrev linked_guest : GuestPlan
linked_guest = record { number = 0; path = codes "/chosen/domU0"; cpus = 18; console = true; gic = 65000; layout = usual_layout; bootargs = Some (codes "console=ttyAMA0" ++ 0 ∷ []); memories = (0x40000, 0xc0000) ∷ (0x200000, 0x1000) ∷ []; ranges = []; spis = 22 ∷ []; shared = (codes "ring", 0x60000, 0x200) ∷ (codes "b", 0x8000000, 1) ∷ []; ports = (1, 1, 5) ∷ (4095, 0xffffffff, 2) ∷ [] }

-- the port is copied with four of its properties
copied-port : node_found (guest_tree linked_guest (Some serial_port)) (codes "/passthrough/serial@ff010000") ≡ Some (record {
  name = codes "serial@ff010000";
  properties = (codes "compatible", codes "cdns,uart-r1p8" ++ 0 ∷ [])
      ∷ (codes "reg", 0 ∷ 0 ∷ 0 ∷ 0 ∷ 255 ∷ 1 ∷ 0 ∷ 0 ∷ 0 ∷ 0 ∷ 0 ∷ 0 ∷ 0 ∷ 0 ∷ 16 ∷ 0 ∷ [])
      ∷ (codes "interrupts", 0 ∷ 0 ∷ 0 ∷ 0 ∷ 0 ∷ 0 ∷ 0 ∷ 22 ∷ 0 ∷ 0 ∷ 0 ∷ 4 ∷ [])
      ∷ (codes "interrupt-parent", 0 ∷ 0 ∷ 253 ∷ 232 ∷ [])
      ∷ [];
  children = none;
})
unfolding digits guest_tree usual_layout root_properties chosen cpus cpu numbers psci memory interrupt_controller timer hypervisor console region reserved_memory static_ports is_binding
copied-port = refl

linked-listed : listed (guest_tree linked_guest (Some serial_port)) ≡ described linked_guest (Some serial_port)
unfolding digits guest_tree usual_layout root_properties chosen cpus cpu numbers psci memory interrupt_controller timer hypervisor console region reserved_memory static_ports is_binding memories_in devices_in interrupts_in regions_in ports_in
linked-listed = refl

-- areas that a host has: distributor and redistributors of its own, and its console
abbrev host_layout : Layout
host_layout = record { distributor = record { base = 0x8000000; size = 0x10000 }; redistributors = record { base = 0x80a0000; size = 0xf60000 }; console = record { base = 0xff010000; size = 0x1000 }; grant = record { base = 0x38000000; size = 0x01000000 } }

abbrev direct_guest : GuestPlan
direct_guest = record linked_guest { layout = host_layout }

-- a guest with these areas has its interrupt controller and its console there
controller-there : option_map (λ (node : Tree). property_of node.properties (codes "reg")) (node_found (guest_tree direct_guest None) (codes "/interrupt-controller@8000000")) ≡ Some (Some (0 ∷ 0 ∷ 0 ∷ 0 ∷ 8 ∷ 0 ∷ 0 ∷ 0 ∷ 0 ∷ 0 ∷ 0 ∷ 0 ∷ 0 ∷ 1 ∷ 0 ∷ 0 ∷ 0 ∷ 0 ∷ 0 ∷ 0 ∷ 8 ∷ 10 ∷ 0 ∷ 0 ∷ 0 ∷ 0 ∷ 0 ∷ 0 ∷ 0 ∷ 246 ∷ 0 ∷ 0 ∷ []))
unfolding digits guest_tree root_properties chosen cpus cpu numbers psci memory interrupt_controller timer hypervisor console region reserved_memory static_ports
controller-there = refl

output-there : option_map (λ (node : Tree). property_of node.properties (codes "stdout-path")) (node_found (guest_tree direct_guest None) (codes "/chosen")) ≡ Some (Some (codes "/pl011@ff010000" ++ 0 ∷ []))
unfolding digits guest_tree root_properties chosen cpus cpu numbers psci memory interrupt_controller timer hypervisor console region reserved_memory static_ports
output-there = refl

two : {A : Type 0} (P : A → Type 0) (x y : A) → P x → P y → All P (x ∷ y ∷ [])
two P x y one other zero d h = one
two P x y one other (suc zero) d h = other
two P x y one other (suc (suc k)) d h = absurd (omega arith)

-- the premise of the law can be met: a guest without memory of its own, with the port, two regions and two links
abbrev linked_alone : GuestPlan
linked_alone = record linked_guest { memories = [] }

described-alone : IsDescription linked_alone (Some serial_port)
unfolding is_in interrupts_in devices_in
described-alone = record {
  bounded = record {
    cpus = omega arith;
    memories = λ k d h. absurd (omega arith);
    shared = two (λ (s : Bytes × ℕ × ℕ). s.1 + s.2 ≤ 2 ^ 28) _ _ (omega arith) (omega arith);
    peers = two (λ (p : ℕ × ℕ × ℕ). p.1 < 2 ^ 32) _ _ (omega arith) (omega arith);
  };
  ports = two (λ (p : ℕ × ℕ × ℕ). (p.0 < 2 ^ 32) × (p.2 < 2 ^ 32)) _ _ (omega arith, omega arith) (omega arith, omega arith);
  ids = two (λ (s : Bytes × ℕ × ℕ). IsTrue (is_text s.0)) _ _ refl refl;
  interrupts = refl;
  no_memory = refl;
  mapped = λ page. refl;
}
