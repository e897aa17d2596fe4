-- Two places of a ramdisk give trees that differ in the bytes of values alone.
use Rattle.std.proofs.Common.{◌≡◌, ◌∙◌, ap, sym, refl, ℕ, zero, suc, Bool, true, false, cond, List, [], ◌∷◌, length, Option, Some, None, option_map}
use Rattle.std.specs.Prelude.{bytes_eq, codes, option_and_then, replicate, Result, ok_or}
use Rattle.std.specs.Result.{result_unwrap_or, result_map_both}
use Rattle.std.specs.Int.{w64, to_be_bytes}
use Rattle.fdt_tree.specs.Tree.{Bytes, Property, Trees, none, tree, Tree, edit, edit_in, change_properties, first_named, descend, components, find_place}
use Rattle.fdt_tree.specs.Tree as trees
use Rattle.fdt_tree.specs.PathEdits.{set, set_property}
use Rattle.fdt_tree.specs.declared.edit_fault.EditFault.{EditFault}
use Rattle.fdt_tree.specs.declared.edit_fault.EditFault.TheVariants.{NoNode}
use Rattle.fdt_write.specs.Flattened.{flattened}
use Rattle.guest_load.specs.declared.places.Place.{Place}
use Rattle.guest_load.specs.LoadPlaces.{end_of}
use Rattle.guest_load.specs.Started.{with_chosen, with_number, with_ramdisk, started}
use Rattle.guest_load.proofs.Sizes.{zeroed, zeroed_properties, zeroed_in, zeroed_tree, IsOneLength}
use Rattle.guest_load.proofs.LengthLemmas.{flattened-zeroed}

first_named-zeroed : (wanted : Bytes) (ts : Trees) → first_named wanted (zeroed_in ts) ≡ option_map (λ (found : ℕ × Trees). (found.0, zeroed_in found.1)) (first_named wanted ts)
first_named-zeroed wanted none = refl
first_named-zeroed wanted (tree name ps cs rest) = by (bytes_eq name wanted) (first_named wanted rest) (first_named-zeroed wanted rest)
  where
    by : (test : Bool) (later : Option (ℕ × Trees)) → first_named wanted (zeroed_in rest) ≡ option_map (λ (found : ℕ × Trees). (found.0, zeroed_in found.1)) later
        → cond {A = Option (ℕ × Trees)} test (Some (0, zeroed_in cs)) (option_map (λ (found : ℕ × Trees). (suc found.0, found.1)) (first_named wanted (zeroed_in rest)))
        ≡ option_map (λ (found : ℕ × Trees). (found.0, zeroed_in found.1)) (cond {A = Option (ℕ × Trees)} test (Some (0, cs)) (option_map (λ (found : ℕ × Trees). (suc found.0, found.1)) later))
    by true later is = refl
    by false None is = ap (option_map (λ (found : ℕ × Trees). (suc found.0, found.1))) is
    by false (Some found) is = ap (option_map (λ (found : ℕ × Trees). (suc found.0, found.1))) is

descend-zeroed : (names : List Bytes) (ts : Trees) → descend names (zeroed_in ts) ≡ descend names ts
descend-zeroed [] ts = refl
descend-zeroed (name ∷ names) ts = by (bytes_eq name []) (first_named name ts) (first_named-zeroed name ts) (λ below. descend-zeroed names below)
  where
    by : (test : Bool) (first : Option (ℕ × Trees)) → first_named name (zeroed_in ts) ≡ option_map (λ (found : ℕ × Trees). (found.0, zeroed_in found.1)) first
        → ((below : Trees) → descend names (zeroed_in below) ≡ descend names below)
        → cond {A = Option trees.Place} test None (option_and_then (λ (found : ℕ × Trees). option_map (λ (place : trees.Place). found.0 ∷ place) (descend names found.1)) (first_named name (zeroed_in ts)))
        ≡ cond {A = Option trees.Place} test None (option_and_then (λ (found : ℕ × Trees). option_map (λ (place : trees.Place). found.0 ∷ place) (descend names found.1)) first)
    by true first is below = refl
    by false None is below = ap (option_and_then (λ (found : ℕ × Trees). option_map (λ (place : trees.Place). found.0 ∷ place) (descend names found.1))) is
    by false (Some found) is below =
        ap (option_and_then (λ (found : ℕ × Trees). option_map (λ (place : trees.Place). found.0 ∷ place) (descend names found.1))) is
        ∙ ap (option_map (λ (place : trees.Place). found.0 ∷ place)) (below found.1)

find_place-zeroed : (t : Tree) (path : Bytes) → find_place (zeroed_tree t) path ≡ find_place t path
find_place-zeroed t path = by (components path)
  where
    by : (names : Option (List Bytes)) → option_and_then (λ names. descend names (zeroed_in t.children)) names ≡ option_and_then (λ names. descend names t.children) names
    by None = refl
    by (Some names) = descend-zeroed names t.children

-- the change of a property at a place that was found
abbrev set_found : Bytes → Bytes → Tree → Option trees.Place → Result Tree EditFault
set_found name value t found =
    result_map_both (λ (place : trees.Place). edit (change_properties (set_property name value)) t place) (λ fault. fault) (ok_or found NoNode)

module _ (name value : Bytes) where
  property-zeroed : (ps : List Property) → zeroed_properties (set_property name value ps) ≡ set_property name (zeroed value) (zeroed_properties ps)
  property-zeroed [] = refl
  property-zeroed (p ∷ ps) = by (bytes_eq p.0 name) (property-zeroed ps)
    where
      by : (test : Bool) → zeroed_properties (set_property name value ps) ≡ set_property name (zeroed value) (zeroed_properties ps)
          → zeroed_properties (cond {A = List Property} test ((name, value) ∷ ps) (p ∷ set_property name value ps))
          ≡ cond {A = List Property} test ((name, zeroed value) ∷ zeroed_properties ps) ((p.0, zeroed p.1) ∷ set_property name (zeroed value) (zeroed_properties ps))
      by true rest = refl
      by false rest = ap (λ zs. (p.0, zeroed p.1) ∷ zs) rest

  edit_in-zeroed : (ts : Trees) (k : ℕ) (place : trees.Place)
      → zeroed_in (edit_in (change_properties (set_property name value)) ts k place) ≡ edit_in (change_properties (set_property name (zeroed value))) (zeroed_in ts) k place
  edit_in-zeroed none k place = refl
  edit_in-zeroed (tree n ps cs rest) zero [] = ap (λ qs. tree n qs (zeroed_in cs) (zeroed_in rest)) (property-zeroed ps)
  edit_in-zeroed (tree n ps cs rest) zero (next ∷ place) = ap (λ ds. tree n (zeroed_properties ps) ds (zeroed_in rest)) (edit_in-zeroed cs next place)
  edit_in-zeroed (tree n ps cs rest) (suc k) place = ap (λ later. tree n (zeroed_properties ps) (zeroed_in cs) later) (edit_in-zeroed rest k place)

  edit-zeroed : (t : Tree) (place : trees.Place)
      → zeroed_tree (edit (change_properties (set_property name value)) t place) ≡ edit (change_properties (set_property name (zeroed value))) (zeroed_tree t) place
  edit-zeroed t [] = ap (λ qs. record { name = t.name; properties = qs; children = zeroed_in t.children }) (property-zeroed t.properties)
  edit-zeroed t (k ∷ place) = ap (λ ds. record { name = t.name; properties = zeroed_properties t.properties; children = ds }) (edit_in-zeroed t.children k place)

  pub set-zeroed : (path : Bytes) (t : Tree) → zeroed_tree (result_unwrap_or (set t path name value) t) ≡ result_unwrap_or (set (zeroed_tree t) path name (zeroed value)) (zeroed_tree t)
  set-zeroed path t = by (find_place t path) (find_place-zeroed t path)
    where
      by : (found : Option trees.Place) → find_place (zeroed_tree t) path ≡ found
          → zeroed_tree (result_unwrap_or (set_found name value t found) t) ≡ result_unwrap_or (set_found name (zeroed value) (zeroed_tree t) (find_place (zeroed_tree t) path)) (zeroed_tree t)
      by None is = rw (is) refl
      by (Some place) is = rw (is) (edit-zeroed t place)

-- a number of zeros
abbrev blank : Bytes → Tree → Tree
blank name t = result_unwrap_or (set t (codes "/chosen") name (replicate 8 0)) t

number-zeroed : (name : Bytes) (number : ℕ) (t : Tree) → zeroed_tree (with_number name number t) ≡ blank name (zeroed_tree t)
number-zeroed name number t = set-zeroed name (to_be_bytes w64 number) (codes "/chosen") t

ramdisk-zeroed : (ramdisk : Place) (t : Tree) → zeroed_tree (with_ramdisk ramdisk t) ≡ blank (codes "linux,initrd-end") (blank (codes "linux,initrd-start") (zeroed_tree t))
ramdisk-zeroed ramdisk t =
    number-zeroed (codes "linux,initrd-end") (end_of ramdisk) (with_number (codes "linux,initrd-start") ramdisk.address t)
    ∙ ap (blank (codes "linux,initrd-end")) (number-zeroed (codes "linux,initrd-start") ramdisk.address t)

-- so the written trees have one length
pub one-length : IsOneLength
unfolding started
one-length reserves boot t one other =
    let whole : Tree = with_chosen t in
    sym (flattened-zeroed reserves boot (with_ramdisk one whole))
    ∙ (ap (λ (z : Tree). length (flattened reserves boot z)) (ramdisk-zeroed one whole ∙ sym (ramdisk-zeroed other whole))
    ∙ flattened-zeroed reserves boot (with_ramdisk other whole))
