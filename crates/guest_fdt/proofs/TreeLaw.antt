-- The law: a reader of the tree of a guest finds what is described of it.
use Rattle.std.proofs.Common.{◌≡◌, sym, ap, ◌∙◌, flat_map}
use Rattle.texts.specs.Consecutive.{is_in}
use Rattle.guest_fdt.specs.Laws.{pages_of, TreeListsTheGuest}
use Rattle.guest_fdt.specs.Listed.{Listing, interrupts_in, listed}
use Rattle.guest_fdt.specs.Described.{described, partial_devices}
use Rattle.guest_fdt.specs.GuestTree.{guest_tree}
use Rattle.guest_fdt.proofs.Cleaning.{interrupts-cleaned}
use Rattle.guest_fdt.proofs.MemoryLemmas.{memories-listed, pages-listed}
use Rattle.guest_fdt.proofs.LinkLemmas.{devices-listed, regions-listed, ports-listed}

same : (one other : Listing) → one.memories ≡ other.memories → one.devices ≡ other.devices → one.interrupts ≡ other.interrupts → one.shared ≡ other.shared → one.ports ≡ other.ports → one ≡ other
same one other m d i s p =
    ap (λ z. record one { memories = z }) m ∙ (ap (λ z. record other { devices = z; interrupts = one.interrupts; shared = one.shared; ports = one.ports }) d ∙ (ap (λ z. record other { interrupts = z; shared = one.shared; ports = one.ports }) i ∙ (ap (λ z. record other { shared = z; ports = one.ports }) s ∙ ap (λ z. record other { ports = z }) p)))

pub tree_lists_the_guest : TreeListsTheGuest
tree_lists_the_guest plan partial is =
    let memories = memories-listed plan partial is.bounded.memories is.no_memory in
    let devices = devices-listed plan partial in
    let interrupts = ap interrupts_in devices ∙ (interrupts-cleaned (partial_devices partial) ∙ sym is.interrupts) in
    let shared = regions-listed plan partial is.bounded.shared is.ids in
    let ports = ports-listed plan partial (λ k d h. ((is.ports k d h).0, is.bounded.peers k d h, (is.ports k d h).1)) in
    record {
      lists = same (listed (guest_tree plan partial)) (described plan partial) memories devices interrupts shared ports;
      pages = λ page. ap (λ rs. is_in (flat_map pages_of rs) page) memories ∙ (ap (λ ps. is_in ps page) (pages-listed plan.memories) ∙ is.mapped page);
    }
