-- Only private contracts and proofs use this file: copies of trees with their phandles moved up.
use Rattle.std.specs.Prelude.{◌≤◌, ◌<◌, ℕ, ◌+◌, List, [], ◌∷◌, if◌then◌else◌, bytes_eq, codes, length, Option, Some, None, option_map, IfSome}
use Rattle.fdt_tree.specs.Tree.{Bytes, Property}
use Rattle.fdt_tree.specs.Document.{Document, properties_of}
use Rattle.fdt_nodes.specs.Values.{u32_in}

-- a property as it is copied: the first of a name has these bytes, where some are given
abbrev pub placed : Bytes → Option Bytes → Property → Property
placed name None property = property
placed name (Some bytes) property = if bytes_eq property.0 name then (name, bytes) else property

-- the bytes that are still to be given after it
abbrev pub left_over : Bytes → Option Bytes → Property → Option Bytes
left_over name None property = None
left_over name (Some bytes) property = if bytes_eq property.0 name then None else Some bytes

-- properties as they are copied: the first of a name has these bytes, where some are given
abbrev pub with_first : Bytes → Option Bytes → List Property → List Property
with_first name new [] = []
with_first name new (property ∷ properties) = placed name new property ∷ with_first name (left_over name new property) properties

-- the phandle of a copy, where the node has one
abbrev pub moved_phandle : ℕ → List Property → Option ℕ
moved_phandle by properties = option_map (λ phandle. phandle + by) (u32_in properties (codes "phandle"))

-- every phandle that is moved up has still four bytes
abbrev pub CanMove : Document → ℕ → Type 0
CanMove document by =
    (node : ℕ) → node < length document.places → IfSome (moved_phandle by (properties_of document node)) (λ phandle. phandle ≤ 4294967295)
