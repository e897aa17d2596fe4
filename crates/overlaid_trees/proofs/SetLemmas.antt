-- A value that is changed at a place, step by step.
use Rattle.std.proofs.Common.{◌≡◌, ◌∙◌, ap, sym, refl, List, [], ◌∷◌, Bool, true, false, cond, Option, Some, None, option_map}
use Rattle.std.specs.Prelude.{bytes_eq, option_and_then}
use Rattle.std.specs.Option.{option_map_or}
use Rattle.std.proofs.lemmas.Slice.Eq.{bytes_eq-Decides}
use Rattle.fdt_tree.specs.Tree.{Bytes, Property, Tree, Place, at, edit, change_properties, property_of}
use Rattle.fdt_tree.specs.PathEdits.{set_property}
use Rattle.fdt_tree.proofs.Edits.{at-edit_same}
use Rattle.fdt_nodes.specs.Nodes.{properties_at}
use Rattle.tree_parts.proofs.Growing.{edit-twice, edit-same, edit-nothing}
use Rattle.overlaid_trees.specs.Values.{changed_at}
use Rattle.overlaid_trees.proofs.MergeLemmas.{edit-there}

-- a name equals itself
same-name : (name : Bytes) → bytes_eq name name ≡ true
same-name name = (bytes_eq-Decides name name).1 refl

-- the value that was set is there
set-get : (name value : Bytes) (ps : List Property) → property_of (set_property name value ps) name ≡ Some value
set-get name value [] = ap (λ b. cond b (Some value) None) (same-name name)
set-get name value (p ∷ ps) = by (bytes_eq p.0 name) refl (set-get name value ps)
  where
    by : (b : Bool) → bytes_eq p.0 name ≡ b → property_of (set_property name value ps) name ≡ Some value → property_of (cond b ((name, value) ∷ ps) (p ∷ set_property name value ps)) name ≡ Some value
    by true is later = ap (λ b. cond b (Some value) (property_of ps name)) (same-name name)
    by false is later = ap (λ b. cond b (Some p.1) (property_of (set_property name value ps) name)) is ∙ later

-- a value that is set twice is set once
set-twice : (name first last : Bytes) (ps : List Property) → set_property name last (set_property name first ps) ≡ set_property name last ps
set-twice name first last [] = ap (λ b. cond b ((name, last) ∷ []) ((name, first) ∷ (name, last) ∷ [])) (same-name name)
set-twice name first last (p ∷ ps) = by (bytes_eq p.0 name) refl (set-twice name first last ps)
  where
    by : (b : Bool) → bytes_eq p.0 name ≡ b → set_property name last (set_property name first ps) ≡ set_property name last ps → set_property name last (cond b ((name, first) ∷ ps) (p ∷ set_property name first ps)) ≡ cond b ((name, last) ∷ ps) (p ∷ set_property name last ps)
    by true is later = ap (λ b. cond b ((name, last) ∷ ps) ((name, first) ∷ set_property name last ps)) (same-name name)
    by false is later =
        ap (λ b. cond b ((name, last) ∷ set_property name first ps) (p ∷ set_property name last (set_property name first ps))) is ∙ ap (λ qs. p ∷ qs) later

-- a value that is there may be set again
set-same : (name value : Bytes) (ps : List Property) → property_of ps name ≡ Some value → set_property name value ps ≡ ps
set-same name value [] there = absurd (cc)
set-same name value ((n, v) ∷ ps) there = by (bytes_eq n name) (λ e. (bytes_eq-Decides n name).0 e) (set-same name value ps) there
  where
    by : (b : Bool) → (b ≡ true → n ≡ name) → (property_of ps name ≡ Some value → set_property name value ps ≡ ps) → cond b (Some v) (property_of ps name) ≡ Some value → cond b ((name, value) ∷ ps) ((n, v) ∷ set_property name value ps) ≡ (n, v) ∷ ps
    by true same later there = let one : v ≡ value = cc in ap (λ m. (m, value) ∷ ps) (sym (same refl)) ∙ ap (λ w. (n, w) ∷ ps) (sym one)
    by false same later there = ap (λ qs. (n, v) ∷ qs) (later there)

-- what a change of a value that was done was
pub record IsDone (whole made : Tree) (place : Place) (name : Bytes) (change : Bytes → Option Bytes) : Type 0 where
  pub node : Tree
  pub stands : at whole place ≡ Some node
  pub value : Bytes
  pub there : property_of node.properties name ≡ Some value
  pub new : Bytes
  pub is : change value ≡ Some new
  pub done : made ≡ edit (change_properties (set_property name new)) whole place

module _ (whole : Tree) (place : Place) (name : Bytes) where
  abbrev written : Bytes → Tree
  written bytes = edit (change_properties (set_property name bytes)) whole place

  abbrev properties : Option Tree → List Property
  properties o = option_map_or (λ (found : Tree). found.properties) o []

  -- the change of the value of a node that stands there
  at-value : (change : Bytes → Option Bytes) (u : Tree) (value : Bytes) → at whole place ≡ Some u → property_of u.properties name ≡ Some value → changed_at whole place name change ≡ option_map written (change value)
  at-value change u value stands there =
      ap (λ (o : Option Tree). option_map written (option_and_then change (property_of (properties o) name))) stands ∙ ap (λ o. option_map written (option_and_then change o)) there

  was-done : (made : Tree) (change : Bytes → Option Bytes) → changed_at whole place name change ≡ Some made → IsDone whole made place name change
  was-done made change done = on_node (at whole place) refl done
    where
      on_new : (u : Tree) (value : Bytes) → at whole place ≡ Some u → property_of u.properties name ≡ Some value → (o : Option Bytes) → change value ≡ o → option_map written o ≡ Some made → IsDone whole made place name change
      on_new u value stands there None is done = absurd (cc)
      on_new u value stands there (Some new) is done = record {
        node = u;
        stands = stands;
        value = value;
        there = there;
        new = new;
        is = is;
        done = cc;
      }

      on_value : (u : Tree) → at whole place ≡ Some u → (o : Option Bytes) → property_of u.properties name ≡ o → option_map written (option_and_then change o) ≡ Some made → IsDone whole made place name change
      on_value u stands None there done = absurd (cc)
      on_value u stands (Some value) there done = on_new u value stands there (change value) refl done

      on_node : (o : Option Tree) → at whole place ≡ o → option_map written (option_and_then change (property_of (properties o) name)) ≡ Some made → IsDone whole made place name change
      on_node None stands done = absurd (cc)
      on_node (Some u) stands done = on_value u stands (property_of u.properties name) refl done

  -- no step can be done, so none after it
  pub changed-stop : (one all : Bytes → Option Bytes) → ((value : Bytes) → one value ≡ None → all value ≡ None) → changed_at whole place name one ≡ None → changed_at whole place name all ≡ None
  changed-stop one all stops done = on_value (property_of (properties_at whole place) name) done
    where
      on_new : (value : Bytes) (o : Option Bytes) → one value ≡ o → option_map written o ≡ None → option_map written (all value) ≡ None
      on_new value None is done = ap (option_map written) (stops value is)
      on_new value (Some new) is done = absurd (cc)

      on_value : (o : Option Bytes) → option_map written (option_and_then one o) ≡ None → option_map written (option_and_then all o) ≡ None
      on_value None done = refl
      on_value (Some value) done = on_new value (one value) refl done

  -- there is no such value
  pub changed-missing : (change : Bytes → Option Bytes) → property_of (properties_at whole place) name ≡ None → changed_at whole place name change ≡ None
  changed-missing change missing = ap (λ o. option_map written (option_and_then change o)) missing

  -- the value stays as it is
  pub changed-end : (change : Bytes → Option Bytes) (value : Bytes) → property_of (properties_at whole place) name ≡ Some value → change value ≡ Some value → changed_at whole place name change ≡ Some whole
  changed-end change value there is = on_node (at whole place) refl there
    where
      on_node : (o : Option Tree) → at whole place ≡ o → property_of (properties o) name ≡ Some value → changed_at whole place name change ≡ Some whole
      on_node None stands there = absurd (none_there there)
        where
          none_there : None ≡ Some value → ⊥
          none_there e = cc
      on_node (Some u) stands there =
          at-value change u value stands there ∙ (ap (option_map written) is ∙ ap Some (edit-there (change_properties (set_property name value)) (λ v. v) whole place u stands (ap (λ qs. record u { properties = qs }) (set-same name value u.properties there)) ∙ edit-nothing whole place))

-- one step is done, and others are left
pub changed-next : (whole made : Tree) (place : Place) (name : Bytes) (one all later : Bytes → Option Bytes) → ((value new : Bytes) → one value ≡ Some new → all value ≡ later new) → changed_at whole place name one ≡ Some made → changed_at whole place name all ≡ changed_at made place name later
changed-next whole made place name one all later steps done =
    at-value whole place name all i.node i.value i.stands i.there ∙ (ap (option_map before) (steps i.value i.new i.is) ∙ (same (later i.new) ∙ sym (at-value made place name later (change_properties (set_property name i.new) i.node) i.new stands (set-get name i.new i.node.properties))))
  where
    i : IsDone whole made place name one
    i = was-done whole place name made one done

    before : Bytes → Tree
    before bytes = edit (change_properties (set_property name bytes)) whole place

    after : Bytes → Tree
    after bytes = edit (change_properties (set_property name bytes)) made place

    stands : at made place ≡ Some (change_properties (set_property name i.new) i.node)
    stands = ap (λ t. at t place) i.done ∙ (at-edit_same (change_properties (set_property name i.new)) whole place ∙ ap (option_map (change_properties (set_property name i.new))) i.stands)

    again : (bytes : Bytes) → before bytes ≡ after bytes
    again bytes =
        sym (ap (λ t. edit (change_properties (set_property name bytes)) t place) i.done ∙ (edit-twice (change_properties (set_property name i.new)) (change_properties (set_property name bytes)) whole place ∙ edit-same (λ u. change_properties (set_property name bytes) (change_properties (set_property name i.new) u)) (change_properties (set_property name bytes)) (λ u. ap (λ qs. record u { properties = qs }) (set-twice name i.new bytes u.properties)) whole place))

    same : (o : Option Bytes) → option_map before o ≡ option_map after o
    same None = refl
    same (Some bytes) = ap Some (again bytes)
