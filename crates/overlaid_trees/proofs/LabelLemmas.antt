-- Labels and what they stand for.
use Rattle.std.proofs.Common.{◌≡◌, ◌∙◌, ap, sym, ℕ, List, [], Option, Some, None, Ok, Err}
use Rattle.std.specs.Prelude.{option_and_then, ok_or, codes}
use Rattle.std.specs.Option.{option_map_or}
use Rattle.fdt_tree.specs.Tree.{Bytes, Property, Tree, Place, at, find_place}
use Rattle.fdt_tree.specs.Document.{Document, place_of, properties_of}
use Rattle.fdt_nodes.specs.Values.{string_in, u32_in}
use Rattle.overlaid_trees.specs.declared.fault.OverlayFault.TheVariants.{Unresolved, BadFixup}
use Rattle.overlaid_trees.specs.Turns.{each, and_then}
use Rattle.overlaid_trees.specs.Values.{properties_found}
use Rattle.overlaid_trees.specs.Resolve.{phandle_of_label, with_strings, with_label}

-- the properties of the node at a place that may be none
abbrev pub held_at : Tree → Option Place → List Property
held_at whole place = option_map_or (λ (found : Tree). found.properties) (option_and_then (at whole) place) []

-- a node that a path finds
pub found-properties : (d : Document) (node : ℕ) (path : Bytes) → Some (place_of d node) ≡ find_place d.tree path → properties_found d.tree path ≡ properties_of d node
found-properties d node path is = ap (held_at d.tree) (sym is)

-- a path that finds none
pub unfound-properties : (whole : Tree) (path : Bytes) → None ≡ find_place whole path → properties_found whole path ≡ []
unfound-properties whole path is = ap (held_at whole) (sym is)

-- the phandle at the path that a label gives
abbrev pub phandle_at_path : Tree → Option Bytes → Option ℕ
phandle_at_path base path = option_and_then (λ path. u32_in (properties_found base path) (codes "phandle")) path

-- there are no symbols
pub no-symbols : (base : Tree) (label : Bytes) → None ≡ find_place base (codes "/__symbols__") → None ≡ phandle_of_label base label
no-symbols base label is = sym (ap (λ ps. phandle_at_path base (string_in ps label)) (unfound-properties base (codes "/__symbols__") is))

-- the symbols have no such string
pub no-string : (d : Document) (symbols : ℕ) (label : Bytes) → Some (place_of d symbols) ≡ find_place d.tree (codes "/__symbols__") → None ≡ string_in (properties_of d symbols) label → None ≡ phandle_of_label d.tree label
no-string d symbols label at_symbols is =
    sym (ap (λ ps. phandle_at_path d.tree (string_in ps label)) (found-properties d symbols (codes "/__symbols__") at_symbols) ∙ ap (phandle_at_path d.tree) (sym is))

-- the string finds no node
pub no-node : (d : Document) (symbols : ℕ) (label path : Bytes) → Some (place_of d symbols) ≡ find_place d.tree (codes "/__symbols__") → Some path ≡ string_in (properties_of d symbols) label → None ≡ find_place d.tree path → None ≡ phandle_of_label d.tree label
no-node d symbols label path at_symbols is missing =
    sym (ap (λ ps. phandle_at_path d.tree (string_in ps label)) (found-properties d symbols (codes "/__symbols__") at_symbols) ∙ (ap (phandle_at_path d.tree) (sym is) ∙ ap (λ ps. u32_in ps (codes "phandle")) (unfound-properties d.tree path missing)))

-- the string finds a node
pub node-said : (d : Document) (symbols node : ℕ) (label path : Bytes) → Some (place_of d symbols) ≡ find_place d.tree (codes "/__symbols__") → Some path ≡ string_in (properties_of d symbols) label → Some (place_of d node) ≡ find_place d.tree path → phandle_of_label d.tree label ≡ u32_in (properties_of d node) (codes "phandle")
node-said d symbols node label path at_symbols is found =
    ap (λ ps. phandle_at_path d.tree (string_in ps label)) (found-properties d symbols (codes "/__symbols__") at_symbols) ∙ (ap (phandle_at_path d.tree) (sym is) ∙ ap (λ ps. u32_in ps (codes "phandle")) (found-properties d node path found))

-- there are no fixups
pub no-fixups : (base whole overlay : Tree) → None ≡ find_place overlay (codes "/__fixups__") → each (with_label base) whole (properties_found overlay (codes "/__fixups__")) ≡ Ok whole
no-fixups base whole overlay is = ap (each (with_label base) whole) (unfound-properties overlay (codes "/__fixups__") is)

-- a label that the base does not know
pub label-unknown : (base whole : Tree) (label name value : Bytes) → None ≡ phandle_of_label base label → name ≡ label → with_label base whole (label, value) ≡ Err (Unresolved name)
label-unknown base whole label name value is same =
    ap (λ o. and_then (ok_or o (Unresolved label)) (λ number. ok_or (with_strings number whole value) (BadFixup label))) (sym is) ∙ ap (λ l. Err (Unresolved l)) (sym same)

-- a label that the base knows
pub label-known : (base whole : Tree) (label value : Bytes) (number : ℕ) → Some number ≡ phandle_of_label base label → with_label base whole (label, value) ≡ ok_or (with_strings number whole value) (BadFixup label)
label-known base whole label value number is =
    ap (λ o. and_then (ok_or o (Unresolved label)) (λ number. ok_or (with_strings number whole value) (BadFixup label))) (sym is)

-- whose words are all there
pub label-done : (base whole made : Tree) (label value : Bytes) (number : ℕ) → Some number ≡ phandle_of_label base label → with_strings number whole value ≡ Some made → with_label base whole (label, value) ≡ Ok made
label-done base whole made label value number is done = label-known base whole label value number is ∙ ap (λ o. ok_or o (BadFixup label)) done

-- one of whose words is not there
pub label-missing : (base whole : Tree) (label name value : Bytes) (number : ℕ) → Some number ≡ phandle_of_label base label → with_strings number whole value ≡ None → name ≡ label → with_label base whole (label, value) ≡ Err (BadFixup name)
label-missing base whole label name value number is missing same =
    label-known base whole label value number is ∙ (ap (λ o. ok_or o (BadFixup label)) missing ∙ ap (λ l. Err (BadFixup l)) (sym same))
