-- Where the host's interrupt controller and its console stand (Devicetree Specification 0.4, 2.3.6, 3.3 and 3.6). No address is translated.
use Rattle.std.specs.Prelude.{ℕ, ◌==◌, ◌&&◌, not, Bool, false, IsTrue, IfSome, if◌then◌else◌, List, [], ◌∷◌, take, position, codes, Option, Some, None, unwrap_or, option_map, option_and_then}
use Rattle.texts.specs.declared.ranges.BaseSize.{BaseSize}
use Rattle.fdt_tree.specs.Tree.{Bytes, Tree, property_of}
use Rattle.fdt_nodes.specs.Controllers.{gic_of}
use Rattle.fdt_nodes.specs.Nodes.{Node, node_found}
use Rattle.domain_bindings.specs.Reasons.{is_not_pages, is_too_high}
use Rattle.domain_bindings.specs.Hosts.{reg_of}
use Rattle.domain_bindings.specs.declared.host.Host.{Host}

-- whole pages, at least one, that end at or below 2^40
abbrev pub is_usable : BaseSize → Bool
is_usable range = not (is_not_pages range) && not (is_too_high range)

-- an address and a size as a range
abbrev pub as_range : ℕ × ℕ → BaseSize
as_range area = record { base = area.0; size = area.1 }

-- the first two of some entries, where both are usable
abbrev pub first_two : List BaseSize → Option ((ℕ × ℕ) × (ℕ × ℕ))
first_two (one ∷ other ∷ rest) = if is_usable one && is_usable other then Some ((one.base, one.size), (other.base, other.size)) else None
first_two _ = None

-- the host's areas: the distributor and the redistributors, which are the first two entries of `reg` of its GIC
abbrev pub areas_of : Tree → Option ((ℕ × ℕ) × (ℕ × ℕ))
areas_of whole = option_and_then (λ (gic : Node). first_two (reg_of gic)) (gic_of whole)

-- the bytes before the first mark, where there is one
abbrev pub before_mark : ℕ → Bytes → Option Bytes
before_mark mark bytes = option_map (λ at. take at bytes) (position (λ byte. byte == mark) bytes)

-- the first string of a property of the node that a path finds: the bytes before the first NUL (2.2.4)
abbrev pub first_string_at : Tree → Bytes → Bytes → Option Bytes
first_string_at whole path name = option_and_then (λ (node : Node). option_and_then (before_mark 0) (property_of node.properties name)) (node_found whole path)

-- a text up to its first `:`, or all of it
abbrev pub up_to_colon : Bytes → Bytes
up_to_colon text = unwrap_or (before_mark 58 text) text

-- what `/chosen` names as its output; behind a `:` stand the settings of the line
abbrev pub output_name : Tree → Option Bytes
output_name whole = option_map up_to_colon (first_string_at whole (codes "/chosen") (codes "stdout-path"))

-- a text begins with `/`
abbrev pub is_path : Bytes → Bool
is_path [] = false
is_path (first ∷ rest) = first == 47

-- the path of a name: itself, or what the alias of this name says, as it stands
abbrev pub path_named : Tree → Bytes → Option Bytes
path_named whole name = if is_path name then Some name else first_string_at whole (codes "/aliases") name

-- the node of the host's console
abbrev pub console_node : Tree → Option Node
console_node whole = option_and_then (node_found whole) (option_and_then (path_named whole) (output_name whole))

-- the page of a console at an address
abbrev pub console_range : ℕ → BaseSize
console_range address = record { base = address; size = 0x1000 }

-- the address of the first of some entries, where a page at it is usable
abbrev pub first_page : List BaseSize → Option ℕ
first_page [] = None
first_page (first ∷ rest) = if is_usable (console_range first.base) then Some first.base else None

-- the address of the host's console: that of the first entry of its `reg`
abbrev pub console_of : Tree → Option ℕ
console_of whole = option_and_then (λ (node : Node). first_page (reg_of node)) (console_node whole)

-- the host's areas and its console are usable, where there are such
pub record HasUsableDevices (host : Host) : Type 0 where
  pub areas : IfSome host.areas (λ areas. IsTrue (is_usable (as_range areas.0) && is_usable (as_range areas.1)))
  pub console : IfSome host.console (λ address. IsTrue (is_usable (console_range address)))
