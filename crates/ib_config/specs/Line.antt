-- A line of a configuration of ImageBuilder (its README, section 'Config file'), in a strict form of bash's assignments.
--     NAME=VALUE  or  NAME[INDEX]=VALUE, then blanks, then nothing or a comment
use Rattle.std.specs.Prelude.{ℕ, ◌+◌, Bool, not, ◌&&◌, ◌||◌, List, [], ◌∷◌, map, length, drop, Option, Some, None, nat_le, ◌==◌, if◌then◌else◌, slice_index, codes, bytes_eq}
use Rattle.std.specs.List.{list_all, list_any, slice_split, filter_map}
use Rattle.std.specs.Option.{option_or}
use Rattle.std.specs.Str.{is_utf8}
use Rattle.std.specs.Str.Lines.{strip_carriage_return}
use Rattle.std.specs.Str.Parse.{digits_value}
use Rattle.texts.specs.Rows.{first_that_applies}
use Rattle.ib_config.specs.Runs.{run_of, after_run, first_is, is_empty}
use Rattle.ib_config.specs.declared.assignments.Key.{Key}
use Rattle.ib_config.specs.declared.fault.ConfigFault.{ConfigFault}
use Rattle.ib_config.specs.declared.fault.ConfigFault.TheVariants.{NotUtf8, BadName, BadIndex, OpenQuote, NotPlain, Unsupported}

-- the lines of a file: the parts between line feeds, each without a carriage return at its end
abbrev pub lines_of : List ℕ → List (List ℕ)
lines_of bytes = map strip_carriage_return (slice_split (λ c. c == 10) bytes)

-- a space or a tab
unfoldable pub is_blank : ℕ → Bool
is_blank c = (c == 32) || (c == 9)

-- an ASCII letter
unfoldable pub is_letter : ℕ → Bool
is_letter c = (nat_le 65 c && nat_le c 90) || (nat_le 97 c && nat_le c 122)

-- an ASCII digit
unfoldable pub is_digit : ℕ → Bool
is_digit c = nat_le 48 c && nat_le c 57

-- a letter or `_`, with which a NAME begins
unfoldable pub is_name_start : ℕ → Bool
is_name_start c = is_letter c || (c == 95)

-- a letter, a digit or `_`
unfoldable pub is_name_byte : ℕ → Bool
is_name_byte c = is_letter c || is_digit c || (c == 95)

-- the single and the double quote
abbrev pub is_quote : ℕ → Bool
is_quote c = (c == 34) || (c == 39)

-- 0x20 to 0x7e without the double quote, `$`, the backquote and the backslash
unfoldable pub is_plain : ℕ → Bool
is_plain c = nat_le 32 c && nat_le c 126 && not (list_any (λ d. c == d) (codes "\"$`\\"))

-- a value without quotes has none of these either
unfoldable pub is_bare : ℕ → Bool
is_bare c = is_plain c && not (list_any (λ d. c == d) (codes "';&|<>()"))

-- The parts of a line, from left to right: each is a function of what the part before it leaves. A part that the line does not have is whatever stands there.

-- the line from its first byte that is no blank
abbrev pub body_of : List ℕ → List ℕ
body_of line = after_run is_blank line

-- nothing, or a comment
unfoldable pub says_nothing : List ℕ → Bool
says_nothing body = is_empty body || first_is (λ c. c == 35) body

-- NAME, and what follows it
abbrev pub name_of : List ℕ → List ℕ
name_of body = run_of is_name_byte body

-- what follows the NAME
abbrev pub after_name : List ℕ → List ℕ
after_name body = after_run is_name_byte body

-- a NAME, and then `=` or `[`
unfoldable pub has_name : List ℕ → Bool
has_name body = first_is is_name_start body && first_is (λ c. (c == 61) || (c == 91)) (after_name body)

-- Of what follows the name: whether it is `[`; the digits of INDEX, and what follows them
abbrev pub has_bracket : List ℕ → Bool
has_bracket after = first_is (λ c. c == 91) after

-- the digits of INDEX
abbrev pub index_digits : List ℕ → List ℕ
index_digits after = run_of is_digit (drop 1 after)

-- what follows these digits
abbrev pub after_index : List ℕ → List ℕ
after_index after = after_run is_digit (drop 1 after)

-- one to four digits, and then `]=`
unfoldable pub has_index : List ℕ → Bool
has_index after = nat_le 1 (length (index_digits after)) && nat_le (length (index_digits after)) 4
    && first_is (λ c. c == 93) (after_index after) && first_is (λ c. c == 61) (drop 1 (after_index after))

-- what stands behind the `=`
abbrev pub value_part : List ℕ → List ℕ
value_part after = if has_bracket after then drop 2 (after_index after) else drop 1 after

-- Of that part: whether it is quoted, and its quote
abbrev pub is_quoted : List ℕ → Bool
is_quoted part = first_is is_quote part

-- the quote that a quoted value begins with
abbrev pub quote_of : List ℕ → ℕ
quote_of part = slice_index part 0

-- any byte but this quote
abbrev pub until : ℕ → ℕ → Bool
until quote c = not (c == quote)

-- a byte of a value without quotes
abbrev pub not_blank : ℕ → Bool
not_blank c = not (is_blank c)

-- the value: up to the same quote, or up to a blank or the end
abbrev pub value_of_part : List ℕ → List ℕ
value_of_part part = if is_quoted part then run_of (until (quote_of part)) (drop 1 part) else run_of not_blank part

-- the quote does not stand again
abbrev pub is_open : List ℕ → Bool
is_open part = is_quoted part && is_empty (after_run (until (quote_of part)) (drop 1 part))

-- what follows the value and its closing quote
abbrev pub tail_of_part : List ℕ → List ℕ
tail_of_part part = if is_quoted part then drop 1 (after_run (until (quote_of part)) (drop 1 part)) else after_run not_blank part

-- blanks, and then nothing or, after at least one blank, a comment
unfoldable pub is_tail : List ℕ → Bool
is_tail tail = is_empty (after_run is_blank tail) || (first_is is_blank tail && first_is (λ c. c == 35) (after_run is_blank tail))

-- a value of plain characters, and a proper end of the line
abbrev pub is_plain_part : List ℕ → Bool
is_plain_part part = list_all (if is_quoted part then is_plain else is_bare) (value_of_part part) && is_tail (tail_of_part part)

-- names of ImageBuilder that have no effect here and are refused
abbrev pub unsupported_names : List (List ℕ)
unsupported_names = codes "XEN_COLORS" ∷ codes "DOM0_COLORS" ∷ codes "DOMU_COLORS" ∷ codes "NUM_CPUPOOLS" ∷ codes "CPUPOOL" ∷ codes "DOMU_CPUPOOL"
    ∷ codes "STATIC_HEAP" ∷ codes "NUM_DT_OVERLAY" ∷ codes "DT_OVERLAY" ∷ codes "DOM0_ROOTFS" ∷ codes "DOMU_ROOTFS" ∷ codes "DOMU_PASSTHROUGH_PATHS" ∷ []

-- whether a name is one of these
unfoldable pub is_unsupported : List ℕ → Bool
is_unsupported name = list_any (bytes_eq name) unsupported_names

-- The first fault of line n.
abbrev pub body_faults : ℕ → List ℕ → List (Bool × ConfigFault)
body_faults n body =
    (not (has_name body), BadName n)
    ∷ (has_bracket (after_name body) && not (has_index (after_name body)), BadIndex n)
    ∷ (is_open (value_part (after_name body)), OpenQuote n)
    ∷ (not (is_plain_part (value_part (after_name body))), NotPlain n)
    ∷ (is_unsupported (name_of body), Unsupported n)
    ∷ []

-- the first fault of a line: that it is no UTF-8, else that of what it says
unfoldable pub line_fault : ℕ → List ℕ → Option ConfigFault
line_fault n line = first_that_applies ((not (is_utf8 line), NotUtf8 n) ∷ (if says_nothing (body_of line) then [] else body_faults n (body_of line)))

-- the variable that a line assigns, and the text that it gives it
pub record Assignment : Type 0 where
  pub key : Key
  pub text : List ℕ

-- What a line without fault assigns.
abbrev pub index_of : List ℕ → Option ℕ
index_of after = if has_bracket after then Some (digits_value 10 (index_digits after)) else None

-- what a line that says something assigns
abbrev pub assigned_by : List ℕ → Assignment
assigned_by body = record { key = record { name = name_of body; index = index_of (after_name body) }; text = value_of_part (value_part (after_name body)) }

-- what a line assigns, if it says something
unfoldable pub assignment_of : List ℕ → Option Assignment
assignment_of line = if says_nothing (body_of line) then None else Some (assigned_by (body_of line))

-- the first fault of the lines, the first of which has number n
abbrev pub first_line_fault : ℕ → List (List ℕ) → Option ConfigFault
first_line_fault n [] = None
first_line_fault n (line ∷ lines) = option_or (line_fault n line) (first_line_fault (n + 1) lines)

-- the assignments of a file without faulty lines, in their order
unfoldable pub assignments_of : List ℕ → List Assignment
assignments_of bytes = filter_map assignment_of (lines_of bytes)
