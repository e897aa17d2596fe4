-- For proofs and private contracts alone: how the reader goes on from byte to byte. A text departs from every source at the first byte where it cannot.
use Rattle.std.specs.Prelude.{ℕ, zero, suc, ◌+◌, ◌*◌, ◌^◌, Bool, true, false, ◌==◌, ◌&&◌, ◌||◌, nat_lt, if◌then◌else◌, slice_get, Option, Some, None, option_map, codes}
use Rattle.std.specs.Char.{digit_value}
use Rattle.fdt_tree.specs.Tree.{Bytes}
use Rattle.source_text.specs.Characters.{is_property_byte, is_node_byte, is_string_byte, is_space}
use Rattle.source_text.specs.declared.state.Comment.{Comment}
use Rattle.source_text.specs.declared.state.Comment.TheVariants.{Outside, Fresh, Slash, ToFeed, ToStar, Star}
use Rattle.source_text.specs.declared.state.Keyword.{Keyword}
use Rattle.source_text.specs.declared.state.Keyword.TheVariants as keywords
use Rattle.source_text.specs.declared.state.Kind.{Kind}
use Rattle.source_text.specs.declared.state.Kind.TheVariants as kinds
use Rattle.source_text.specs.declared.state.Digits.{Digits}
use Rattle.source_text.specs.declared.state.Digits.TheVariants.{Zero, Prefix, Hexadecimal, Decimal}
use Rattle.source_text.specs.declared.state.Next.{Next}
use Rattle.source_text.specs.declared.state.Next.TheVariants.{Start, Word, VersionEnd, Item, Address, AddressDigits, Size, SizeDigits, ReserveEnd, RootOpen, Body, Name, AfterName, Value, Quoted, Cells, CellDigits, Pairs, Half, AfterValue, Closed, Over}
use Rattle.source_text.specs.declared.state.Action.{Action}
use Rattle.source_text.specs.declared.state.Action.TheVariants.{Pass, StartName, PushName, SetAddress, AddReserve, StartValue, PushByte, PushWord, Give, GiveEmpty, Open, Close}

-- Where a byte leads, as to comments and what comes next, and what it adds; None where it cannot stand.
abbrev pub Turn : Type 0
Turn = Option (Comment × Next × Action)

abbrev pub to : Next → Action → Turn
to next action = Some (Outside, next, action)

abbrev pub pass : Next → Turn
pass next = to next Pass

-- The digits with one more.
abbrev pub with_digit : ℕ → Digits → ℕ → Option Digits
with_digit limit Zero c = if c == 120 then Some Prefix else None
with_digit limit Prefix c = if nat_lt (digit_value c) 16 then Some (Hexadecimal (digit_value c)) else None
with_digit limit (Hexadecimal n) c =
    if nat_lt (n * 16 + digit_value c) limit then Some (Hexadecimal (n * 16 + digit_value c)) else None
with_digit limit (Decimal n) c =
    if nat_lt (n * 10 + digit_value c) limit then Some (Decimal (n * 10 + digit_value c)) else None

-- The first digit of a number.
abbrev pub first_digit : ℕ → Option Digits
first_digit c =
    if c == 48 then Some Zero else if nat_lt (digit_value c) 10 then Some (Decimal (digit_value c)) else None

-- The byte goes on with the number, or cannot stand.
abbrev pub is_digit_of : Digits → ℕ → Bool
is_digit_of Zero c = c == 120
is_digit_of Prefix c = true
is_digit_of (Hexadecimal n) c = nat_lt (digit_value c) 16
is_digit_of (Decimal n) c = nat_lt (digit_value c) 10

-- The number so far.
abbrev pub number_of : Digits → ℕ
number_of Zero = 0
number_of Prefix = 0
number_of (Hexadecimal n) = n
number_of (Decimal n) = n

abbrev pub digits_turn : (Digits → Next) → Option Digits → Turn
digits_turn next found = option_map (λ d. (Outside, next d, Pass)) found

abbrev pub may_be_property : Kind → Bool
may_be_property kinds.Node = false
may_be_property _ = true

abbrev pub may_be_node : Kind → Bool
may_be_node kinds.Property = false
may_be_node _ = true

-- One more byte of a name, which may still be that of a property, and of a node.
abbrev pub name_turn : Action → Bool → Bool → Turn
name_turn action true true = to (Name kinds.Either) action
name_turn action true false = to (Name kinds.Property) action
name_turn action false true = to (Name kinds.Node) action
name_turn action false false = None

abbrev pub after_name_turn : Kind → ℕ → Turn
after_name_turn kind c =
    if may_be_property kind && c == 59 then to (Body true) GiveEmpty else if may_be_property kind && c == 61 then to Value StartValue else if may_be_node kind && c == 123 then to (Body true) Open else None

abbrev pub only : ℕ → Turn → ℕ → Turn
only wanted turn c = if c == wanted then turn else None

abbrev pub closed_turn : ℕ → Turn
closed_turn zero = pass Over
closed_turn (suc depth) = to (Body false) Close

abbrev pub body_turn : Bool → ℕ → ℕ → Turn
body_turn fresh depth c =
    if c == 125 then pass Closed else name_turn StartName (fresh && is_property_byte c) (nat_lt depth 31 && is_node_byte c)

abbrev pub value_turn : ℕ → Turn
value_turn c = if c == 34 then pass Quoted else if c == 60 then pass (Cells true) else if c == 91 then pass Pairs else None

abbrev pub cells_turn : Bool → ℕ → Turn
cells_turn separated c =
    if c == 62 then pass AfterValue else if separated then digits_turn CellDigits (first_digit c) else None

abbrev pub pairs_turn : ℕ → Turn
pairs_turn c =
    if c == 93 then pass AfterValue else if nat_lt (digit_value c) 16 then pass (Half (digit_value c)) else None

abbrev pub after_value_turn : ℕ → Turn
after_value_turn c = if c == 44 then pass Value else if c == 59 then to (Body true) Give else None

-- A byte that is no spacing, where spacing could stand. So many nodes are open above the innermost one.
abbrev pub token_turn : Next → ℕ → ℕ → Turn
token_turn (Address read) depth c = if read then digits_turn AddressDigits (first_digit c) else None
token_turn (Size read) depth c = if read then digits_turn SizeDigits (first_digit c) else None
token_turn VersionEnd depth c = only 59 (pass Item) c
token_turn ReserveEnd depth c = only 59 (pass Item) c
token_turn RootOpen depth c = only 123 (pass (Body true)) c
token_turn (Body fresh) depth c = body_turn fresh depth c
token_turn (AfterName kind) depth c = after_name_turn kind c
token_turn Value depth c = value_turn c
token_turn (Cells separated) depth c = cells_turn separated c
token_turn Pairs depth c = pairs_turn c
token_turn AfterValue depth c = after_value_turn c
token_turn Closed depth c = only 59 (closed_turn depth) c
token_turn _ depth c = None

-- What comes next behind some spacing.
abbrev pub spaced : Next → Next
spaced (Address read) = Address true
spaced (Size read) = Size true
spaced (Cells separated) = Cells true
spaced next = next

-- Where spacing may stand: a space, the `/` of a comment, or a byte that is none.
abbrev pub gap_turn : Next → ℕ → ℕ → Turn
gap_turn next depth c =
    if is_space c then pass (spaced next) else if c == 47 then Some (Slash, next, Pass) else token_turn next depth c

-- The same, behind something that is whole with it.
abbrev pub with_action : Action → Turn → Turn
with_action action turn = option_map (λ t. (t.0, t.1, action)) turn

-- In a number: a digit, or what may stand behind it.
abbrev pub number_turn : ℕ → Digits → (Digits → Next) → Next → (ℕ → Action) → ℕ → ℕ → Turn
number_turn limit digits again behind ended depth c =
    if is_digit_of digits c then digits_turn again (with_digit limit digits c) else with_action (ended (number_of digits)) (gap_turn behind depth c)

-- The bytes of a keyword between its slashes.
abbrev pub word_text : Keyword → Bytes
word_text keywords.Version = codes "dts-v1"
word_text keywords.Reserve = codes "memreserve"

abbrev pub after_word : Keyword → Next
after_word keywords.Version = VersionEnd
after_word keywords.Reserve = Address false

-- One more byte of a keyword, behind so many: the next one, or its last slash.
abbrev pub word_turn : Keyword → ℕ → Option ℕ → ℕ → Turn
word_turn word read None c = only 47 (Some (Fresh, after_word word, Pass)) c
word_turn word read (Some wanted) c = only wanted (pass (Word word (suc read))) c

abbrev pub quoted_turn : ℕ → Turn
quoted_turn c =
    if c == 34 then to AfterValue (PushByte 0) else if is_string_byte c then to Quoted (PushByte c) else None

abbrev pub half_turn : ℕ → ℕ → Turn
half_turn high c = if nat_lt (digit_value c) 16 then to Pairs (PushByte (high * 16 + digit_value c)) else None

abbrev pub in_name_turn : Kind → ℕ → ℕ → Turn
in_name_turn kind depth c =
    if is_property_byte c || is_node_byte c then name_turn PushName (may_be_property kind && is_property_byte c) (may_be_node kind && is_node_byte c) else gap_turn (AfterName kind) depth c

-- A byte outside comments.
abbrev pub outside_turn : Next → ℕ → ℕ → Turn
outside_turn (Word word read) depth c = word_turn word read (slice_get (word_text word) read) c
outside_turn (AddressDigits d) depth c = number_turn (2 ^ 64) d AddressDigits (Size false) SetAddress depth c
outside_turn (SizeDigits d) depth c = number_turn (2 ^ 64) d SizeDigits ReserveEnd AddReserve depth c
outside_turn (CellDigits d) depth c = number_turn (2 ^ 32) d CellDigits (Cells false) PushWord depth c
outside_turn (Name kind) depth c = in_name_turn kind depth c
outside_turn Quoted depth c = quoted_turn c
outside_turn (Half high) depth c = half_turn high c
outside_turn next depth c = gap_turn next depth c

-- A byte behind a `/` that begins no comment: a keyword, or the root.
abbrev pub slash_turn : Next → ℕ → Turn
slash_turn Start c = only 100 (pass (Word keywords.Version 1)) c
slash_turn Item c =
    if c == 109 then pass (Word keywords.Reserve 1) else if c == 123 then pass (Body true) else if is_space c then pass RootOpen else None
slash_turn _ c = None

-- Where a byte leads.
abbrev pub turn : Comment → Next → ℕ → ℕ → Turn
turn Outside next depth c = outside_turn next depth c
turn Fresh next depth c = if c == 47 then None else gap_turn next depth c
turn Slash next depth c =
    if c == 47 then Some (ToFeed, next, Pass) else if c == 42 then Some (ToStar, next, Pass) else slash_turn next c
turn ToFeed next depth c = if c == 10 then pass (spaced next) else Some (ToFeed, next, Pass)
turn ToStar next depth c = if c == 42 then Some (Star, next, Pass) else Some (ToStar, next, Pass)
turn Star next depth c =
    if c == 47 then pass (spaced next) else if c == 42 then Some (Star, next, Pass) else Some (ToStar, next, Pass)

-- One node less.
abbrev pub above : ℕ → ℕ
above zero = zero
above (suc depth) = depth

-- How many nodes are open above the innermost one, behind an action.
abbrev pub depth_behind : Action → ℕ → ℕ
depth_behind Open depth = suc depth
depth_behind Close depth = above depth
depth_behind _ depth = depth

-- A text may end here, as to comments, and as to what comes next.
abbrev pub may_end : Comment → Bool
may_end Outside = true
may_end ToFeed = true
may_end _ = false

abbrev pub is_over : Next → Bool
is_over Over = true
is_over _ = false

-- A text that ends here is whole.
abbrev pub is_done : Comment → Next → Bool
is_done comment next = may_end comment && is_over next
