-- What a copy keeps.
use Rattle.std.proofs.Common.{◌≡◌, ℕ, Bool, true, false, not, cond, List, [], ◌∷◌, ◌++◌, Option, Some, map, filter, flat_map, codes, refl, sym, ap, ◌∙◌}
use Rattle.std.proofs.lemmas.List.{map-append}
use Rattle.std.specs.Prelude.{bytes_eq}
use Rattle.std.proofs.lemmas.Slice.Eq.{bytes_eq-Decides}
use Rattle.fdt_tree.specs.Tree.{Bytes, Property, Trees, none, tree, Tree, property_of}
use Rattle.guest_fdt.specs.Copies.{is_binding, kept, cleaned, cleaned_in}
use Rattle.std.specs.Prelude.{◌==◌}
use Rattle.fdt_nodes.specs.Values.{passes}
use Rattle.tree_parts.specs.Nodes.{on_some}
use Rattle.guest_fdt.specs.Entries.{triples}
use Rattle.guest_fdt.specs.Listed.{Device, is_memory_node, devices_below, interrupts_of, interrupts_in, in_order}

-- a property that does not bind is found as before
pub property-kept : (ps : List Property) (name : Bytes) → is_binding name ≡ false → property_of (kept ps) name ≡ property_of ps name
property-kept [] name other = refl
property-kept (p ∷ ps) name other = by (is_binding p.0) refl (property-kept ps name other)
  where
    missed : is_binding p.0 ≡ true → (b : Bool) → (b ≡ true → p.0 ≡ name) → b ≡ false
    missed binds true is = let same : p.0 ≡ name = is refl in let both : is_binding p.0 ≡ is_binding name = ap is_binding same in absurd (cc)
    missed binds false is = refl

    by : (b : Bool) → is_binding p.0 ≡ b → property_of (kept ps) name ≡ property_of ps name → property_of (cond (not b) (p ∷ kept ps) (kept ps)) name ≡ cond (bytes_eq p.0 name) (Some p.1) (property_of ps name)
    by true binds rest = rest ∙ ap (λ b. cond b (Some p.1) (property_of ps name)) (sym (missed binds (bytes_eq p.0 name) ((bytes_eq-Decides p.0 name).0)))
    by false binds rest = ap (λ z. cond (bytes_eq p.0 name) (Some p.1) z) rest

device_type-stays : is_binding (codes "device_type") ≡ false
unfolding is_binding
device_type-stays = refl

interrupts-stay : is_binding (codes "interrupts") ≡ false
unfolding is_binding
interrupts-stay = refl

-- a copy is a memory node where its node is one
pub memory-cleaned : (t : Tree) → is_memory_node (cleaned t) ≡ is_memory_node t
memory-cleaned t =
    ap (λ (o : Option Bytes). passes (λ value. bytes_eq value (codes "memory" ++ 0 ∷ [])) o) (property-kept t.properties (codes "device_type") device_type-stays)

-- a device without what binds it
abbrev pub cleaned_device : Device → Device
cleaned_device (path, properties) = (path, kept properties)

-- the nodes of a copy
pub devices-cleaned : (path : Bytes) (ts : Trees) → devices_below path (cleaned_in ts) ≡ map cleaned_device (devices_below path ts)
devices-cleaned path none = refl
devices-cleaned path (tree name properties children rest) =
    let here : Bytes = path ++ 47 ∷ name in
    ap (λ z. (here, kept properties) ∷ (z ++ devices_below path (cleaned_in rest))) (devices-cleaned here children) ∙ (ap (λ z. (here, kept properties) ∷ (map cleaned_device (devices_below here children) ++ z)) (devices-cleaned path rest) ∙ ap (λ z. (here, kept properties) ∷ z) (sym (map-append cleaned_device (devices_below here children) (devices_below path rest))))

same_interrupts : (device : Device) → interrupts_of (cleaned_device device) ≡ interrupts_of device
same_interrupts (path, properties) =
    ap (λ (o : Option Bytes). map (λ (t : ℕ × ℕ × ℕ). t.1) (filter (λ (t : ℕ × ℕ × ℕ). t.0 == 0) (on_some o triples))) (property-kept properties (codes "interrupts") interrupts-stay)

all_interrupts : (devices : List Device) → flat_map interrupts_of (map cleaned_device devices) ≡ flat_map interrupts_of devices
all_interrupts [] = refl
all_interrupts (device ∷ devices) =
    ap (λ z. z ++ flat_map interrupts_of (map cleaned_device devices)) (same_interrupts device) ∙ ap (λ z. interrupts_of device ++ z) (all_interrupts devices)

-- the interrupts of a copy
pub interrupts-cleaned : (devices : List Device) → interrupts_in (map cleaned_device devices) ≡ interrupts_in devices
unfolding interrupts_in
interrupts-cleaned devices = ap in_order (all_interrupts devices)
