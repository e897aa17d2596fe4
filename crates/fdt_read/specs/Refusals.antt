-- The first refusal of a file that is no flattened tree.
use Rattle.std.specs.Prelude.{ℕ, ◌-◌, ◌%◌, Bool, true, false, ◌==◌, nat_lt, ◌&&◌, ◌||◌, not, List, [], ◌∷◌, ◌++◌, if◌then◌else◌, Option, Some, None, length, count_by}
use Rattle.std.specs.List.{list_any}
use Rattle.std.specs.Option.{option_or}
use Rattle.texts.specs.Rows.{first_that_applies}
use Rattle.fdt_tree.specs.Tree.{Bytes, depth_limit}
use Rattle.fdt_read.specs.declared.fault.FdtFault.{FdtFault}
use Rattle.fdt_read.specs.declared.fault.FdtFault.TheVariants.{Magic, Version, Bounds, Token as BadToken, Name, Order, Deep}
use Rattle.fdt_read.specs.Header.{magic, total_size, structure_offset, structure_end, strings_end, reservations_offset, version, last_compatible_version}
use Rattle.fdt_read.specs.Reservations.{reservations_end}
use Rattle.fdt_read.specs.Tokens.{Token, begin_node, end_node, property, nop, end, broken, tokens}
use Rattle.fdt_read.specs.Spelling.{is_name}

-- The refusals of the header and of where the blocks lie, in their order (5.2).
abbrev pub layout_rows : Bytes → List (Bool × FdtFault)
layout_rows bytes =
    (nat_lt (length bytes) 4 || not (magic bytes == 0xd00dfeed), Magic) ∷ (nat_lt (length bytes) 40, Bounds 0) ∷ (nat_lt (version bytes) 17 || nat_lt 17 (last_compatible_version bytes), Version) ∷ (nat_lt (total_size bytes) 40 || nat_lt (length bytes) (total_size bytes), Bounds 4) ∷ (not (structure_offset bytes % 4 == 0) || nat_lt (total_size bytes) (structure_end bytes), Bounds 8) ∷ (nat_lt (total_size bytes) (strings_end bytes), Bounds 12) ∷ []

-- Whether the reservation block begins where it may not, or does not end (5.3).
abbrev pub is_reservations_fault : Bytes → Bool
is_reservations_fault bytes = not (reservations_offset bytes % 8 == 0) || not (reservations_end bytes)

-- The first fault of the header and of the reservations; Bounds names the field of the header that places a block.
abbrev pub header_fault : Bytes → Option FdtFault
header_fault bytes = first_that_applies (layout_rows bytes ++ (is_reservations_fault bytes, Bounds 16) ∷ [])

-- Whether a token is BEGIN_NODE (5.4.1).
abbrev pub is_begin : Token → Bool
is_begin (begin_node name) = true
is_begin _ = false

-- Whether a token is END_NODE (5.4.1).
abbrev pub is_end_node : Token → Bool
is_end_node end_node = true
is_end_node _ = false

-- Whether a token is PROP (5.4.1).
abbrev pub is_property : Token → Bool
is_property (property name value) = true
is_property _ = false

-- Whether a token is NOP (5.4.1).
abbrev pub is_nop : Token → Bool
is_nop nop = true
is_nop _ = false

-- Whether a token is END (5.4.1).
abbrev pub is_end : Token → Bool
is_end end = true
is_end _ = false

-- Whether no token stands here.
abbrev pub is_broken : Token → Bool
is_broken broken = true
is_broken _ = false

-- How many nodes are open after these tokens.
abbrev pub open_after : List Token → ℕ
open_after before = count_by is_begin before - count_by is_end_node before

-- Whether a node stands among these tokens.
abbrev pub has_node : List Token → Bool
has_node before = list_any is_begin before

-- Whether the last token that is no PROP and no NOP is END_NODE, if that was so before these tokens.
abbrev pub after_child_from : Bool → List Token → Bool
after_child_from last [] = last
after_child_from last (token ∷ rest) =
    after_child_from (if is_property token || is_nop token then last else is_end_node token) rest

-- Whether the last of these tokens that is no PROP and no NOP is END_NODE.
abbrev pub after_child : List Token → Bool
after_child before = after_child_from false before

-- Whether a token is of no use where so many nodes are open and a node stands before it or none does.
abbrev pub is_misplaced : ℕ → Bool → Token → Bool
is_misplaced level started token =
    is_broken token || (is_end token && nat_lt 0 level) || (not started && not (is_nop token || is_begin token)) || (started && (level == 0 && not (is_nop token || is_end token)))

-- Whether a token has a name that it may not have. The root's is not looked at.
abbrev pub is_misnamed : Bool → Token → Bool
is_misnamed started (begin_node name) = started && not (is_name name)
is_misnamed started (property None value) = true
is_misnamed started (property (Some name) value) = length name == 0
is_misnamed started _ = false

-- The refusals of a token at an offset, in their order (5.4.2).
abbrev pub rows_at : ℕ → Bool → Bool → ℕ → Token → List (Bool × FdtFault)
rows_at level started past_child offset token =
    (is_misplaced level started token, BadToken offset) ∷ (is_misnamed started token, Name offset) ∷ (is_property token && past_child, Order offset) ∷ (is_begin token && level == depth_limit, Deep offset) ∷ []

-- The fault of a token at an offset, where these tokens stand before it.
abbrev pub fault_after : List Token → ℕ × Token → Option FdtFault
fault_after before found =
    first_that_applies (rows_at (open_after before) (has_node before) (after_child before) found.0 found.1)

-- The fault of the first token that is refused.
abbrev pub first_fault : List Token → List (ℕ × Token) → Option FdtFault
first_fault before [] = None
first_fault before (found ∷ rest) = option_or (fault_after before found) (first_fault (before ++ found.1 ∷ []) rest)

-- The first refusal of a file.
abbrev pub refusal : Bytes → Option FdtFault
refusal bytes = option_or (header_fault bytes) (first_fault [] (tokens bytes))
