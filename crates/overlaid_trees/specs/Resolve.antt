-- The labels of an overlay stand for phandles of the base.
use Rattle.std.specs.Prelude.{ℕ, ◌==◌, nat_lt, List, [], ◌∷◌, if◌then◌else◌, bytes_eq, codes, Option, Some, None, Result, ok_or, option_map, option_and_then}
use Rattle.std.specs.List.{slice_split, list_all}
use Rattle.std.specs.Char.{digit_value}
use Rattle.std.specs.Str.Parse.{digits_value}
use Rattle.fdt_tree.specs.Tree.{Bytes, Property, Tree, find_place}
use Rattle.fdt_nodes.specs.Values.{string_in, u32_in}
use Rattle.overlaid_trees.specs.declared.fault.OverlayFault.{OverlayFault}
use Rattle.overlaid_trees.specs.declared.fault.OverlayFault.TheVariants.{Unresolved, BadFixup}
use Rattle.overlaid_trees.specs.Turns.{each, all, and_then}
use Rattle.overlaid_trees.specs.Words.{replaced}
use Rattle.overlaid_trees.specs.Values.{properties_found, changed_at}

-- the phandle of the node that a label of a base stands for
abbrev pub phandle_of_label : Tree → Bytes → Option ℕ
phandle_of_label base label =
    option_and_then (λ path. u32_in (properties_found base path) (codes "phandle")) (string_in (properties_found base (codes "/__symbols__")) label)

-- a word of an overlay: the path of a node, the name of a property and an offset in its value
pub record Spot : Type 0 where
  pub path : Bytes
  pub name : Bytes
  pub offset : ℕ

-- the number that decimal digits spell
abbrev pub decimal_of : Bytes → Option ℕ
decimal_of digits = if list_all (λ digit. nat_lt (digit_value digit) 10) digits then Some (digits_value 10 digits) else None

-- the word that a path, a name and an offset say, none of which is empty
abbrev pub spot_of_parts : List Bytes → Option Spot
spot_of_parts ((a ∷ path) ∷ (b ∷ name) ∷ (c ∷ digits) ∷ []) =
    option_map (λ offset. record { path = a ∷ path; name = b ∷ name; offset = offset }) (decimal_of (c ∷ digits))
spot_of_parts _ = None

-- the word that a string `PATH:PROP:OFFSET` names
abbrev pub spot_of : Bytes → Option Spot
spot_of string = spot_of_parts (slice_split (λ byte. byte == 58) string)

-- the strings of a value, where each is ended by a NUL
abbrev pub ended : List Bytes → Option (List Bytes)
ended [] = None
ended (last ∷ []) = if bytes_eq last [] then Some [] else None
ended (string ∷ next ∷ strings) = option_map (λ later. string ∷ later) (ended (next ∷ strings))

-- the strings of a value (2.2.4, stringlist), where no rest is left
abbrev pub strings_of : Bytes → Option (List Bytes)
strings_of value = ended (slice_split (λ byte. byte == 0) value)

-- an overlay with a number at a word of its own
abbrev pub with_spot : ℕ → Tree → Spot → Option Tree
with_spot number whole spot =
    option_and_then (λ place. changed_at whole place spot.name (λ bytes. replaced number bytes spot.offset)) (find_place whole spot.path)

-- an overlay with a number at the word that a string names
abbrev pub with_string : ℕ → Tree → Bytes → Option Tree
with_string number whole string = option_and_then (with_spot number whole) (spot_of string)

-- an overlay with a number at the words that a value names
abbrev pub with_strings : ℕ → Tree → Bytes → Option Tree
with_strings number whole value = option_and_then (all (with_string number) whole) (strings_of value)

-- an overlay with one label resolved: a label that the base does not know is named, and so is one with a word that is not there
abbrev pub with_label : Tree → Tree → Property → Result Tree OverlayFault
with_label base whole label =
    and_then (ok_or (phandle_of_label base label.0) (Unresolved label.0)) (λ number. ok_or (with_strings number whole label.1) (BadFixup label.0))

-- an overlay with its labels resolved
abbrev pub resolved : Tree → Tree → Result Tree OverlayFault
resolved base overlay = each (with_label base) overlay (properties_found overlay (codes "/__fixups__"))
