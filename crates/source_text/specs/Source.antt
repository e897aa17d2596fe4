-- Device tree source (Devicetree Specification 0.4, appendix A): which texts say which tree. Labels, references, includes, expressions, escapes in strings, `/bits/`, octal numbers and deletions are outside it.
use Rattle.std.specs.Prelude.{◌≡◌, ◌⊎◌, ℕ, suc, ◌+◌, ◌^◌, ◌<◌, ◌≤◌, Bool, true, false, ◌==◌, ◌&&◌, not, List, [], ◌∷◌, ◌++◌, length, take, filter, flat_map, nat_lt, IsTrue, codes}
use Rattle.std.specs.List.{list_all, AllByRecursion}
use Rattle.std.specs.Char.{digit_value}
use Rattle.std.specs.Str.Parse.{digits_value}
use Rattle.std.specs.Int.{w32, to_be_bytes}
use Rattle.fdt_tree.specs.Tree.{Bytes, Property, Trees, none, tree, Tree, depth_limit}
use Rattle.fdt_tree.specs.declared.reserve.Reserve.{Reserve}
use Rattle.source_text.specs.Characters.{is_property_byte, is_node_byte, is_string_byte, is_space}

-- One text after another is a text.
abbrev pub whole : List Bytes → Bytes
whole texts = flat_map (λ text. text) texts

-- No `*/` stands in a text.
abbrev pub is_open : Bytes → Bool
is_open (c ∷ d ∷ text) = not (c == 42 && d == 47) && is_open (d ∷ text)
is_open _ = true

-- A comment `/* .. */`, which ends at the first `*/`.
abbrev pub IsBlock : Bytes → Type 0
IsBlock text = (inner : Bytes) × IsTrue (is_open (inner ++ codes "*")) × (text ≡ codes "/*" ++ (inner ++ codes "*/"))

-- `//` and a text without a line feed.
abbrev pub IsOpenLine : Bytes → Type 0
IsOpenLine text = (inner : Bytes) × IsTrue (list_all (λ c. not (c == 10)) inner) × (text ≡ codes "//" ++ inner)

-- A comment `// ..`, with the line feed behind it.
abbrev pub IsLine : Bytes → Type 0
IsLine text = (start : Bytes) × IsOpenLine start × (text ≡ start ++ 10 ∷ [])

-- A space or a comment.
abbrev pub IsSpacing : Bytes → Type 0
IsSpacing text = ((c : ℕ) × IsTrue (is_space c) × (text ≡ c ∷ [])) ⊎ (IsBlock text ⊎ IsLine text)

-- Any run of spaces and comments.
abbrev pub IsBlank : Bytes → Type 0
IsBlank text = (parts : List Bytes) × AllByRecursion IsSpacing parts × (text ≡ whole parts)

-- One that is not empty.
abbrev pub IsSeparator : Bytes → Type 0
IsSeparator text = IsBlank text × (0 < length text)

-- Behind a `/` no comment begins: there `//` and `/*` would begin one a character earlier.
abbrev pub begins_no_comment : Bytes → Bool
begins_no_comment [] = true
begins_no_comment (c ∷ text) = not (c == 47)

-- What may stand behind a `/`.
abbrev pub IsBlankAfterSlash : Bytes → Type 0
IsBlankAfterSlash text = IsBlank text × IsTrue (begins_no_comment text)

-- Behind the last semicolon a `//` may reach up to the end.
abbrev pub IsLastBlank : Bytes → Type 0
IsLastBlank text = IsBlank text ⊎ ((start last : Bytes) × IsBlank start × IsOpenLine last × (text ≡ start ++ last))

-- At least one digit of a base.
abbrev pub are_digits : ℕ → Bytes → Bool
are_digits base [] = false
are_digits base (c ∷ digits) = list_all (λ c. nat_lt (digit_value c) base) (c ∷ digits)

-- Decimal digits without a leading zero; a `0` alone has none.
abbrev pub is_decimal : Bytes → Bool
is_decimal [] = false
is_decimal (c ∷ []) = nat_lt (digit_value c) 10
is_decimal (c ∷ digits) = not (c == 48) && are_digits 10 (c ∷ digits)

-- A number: `0x` and hexadecimal digits, or decimal digits.
abbrev pub IsNumber : Bytes → ℕ → Type 0
IsNumber text number =
    ((digits : Bytes) × IsTrue (are_digits 16 digits) × (text ≡ codes "0x" ++ digits) × (number ≡ digits_value 16 digits)) ⊎ (IsTrue (is_decimal text) × (number ≡ digits_value 10 text))

-- `/memreserve/`, an address and a size, each below 2^64, a semicolon, and spacing.
pub record IsReserve (text : Bytes) (reserve : Reserve) : Type 0 where
  pub before : Bytes
  pub address : Bytes
  pub between : Bytes
  pub size : Bytes
  pub after : Bytes
  pub behind : Bytes
  pub separators : IsSeparator before × IsTrue (begins_no_comment before) × IsSeparator between
  pub blanks : IsBlank after × IsBlank behind
  pub numbers : IsNumber address reserve.address × IsNumber size reserve.size
  pub limits : (reserve.address < 2 ^ 64) × (reserve.size < 2 ^ 64)
  pub spelled : text ≡ whole (codes "/memreserve/" ∷ before ∷ address ∷ between ∷ size ∷ after ∷ codes ";" ∷ behind ∷ [])

-- A list of things, one text for each.
abbrev pub AreEach : {A : Type 0} → (Bytes → A → Type 0) → Bytes → List A → Type 0
AreEach Is text [] = text ≡ []
AreEach Is text (x ∷ xs) = (first : Bytes) × (rest : Bytes) × Is first x × AreEach Is rest xs × (text ≡ first ++ rest)

-- Numbers below 2^32, spacing between each two and perhaps behind the last.
abbrev pub AreWords : Bytes → List ℕ → Type 0
AreWords text [] = text ≡ []
AreWords text (n ∷ []) =
    (digits : Bytes) × (behind : Bytes) × IsNumber digits n × (n < 2 ^ 32) × IsBlank behind × (text ≡ digits ++ behind)
AreWords text (n ∷ m ∷ ns) =
    (digits : Bytes) × (between : Bytes) × (rest : Bytes) × IsNumber digits n × (n < 2 ^ 32) × IsSeparator between × AreWords rest (m ∷ ns) × (text ≡ digits ++ (between ++ rest))

-- Two hexadecimal digits, and perhaps spacing behind them.
abbrev pub IsPair : Bytes → ℕ → Type 0
IsPair text byte =
    (high : ℕ) × (low : ℕ) × (behind : Bytes) × IsTrue (are_digits 16 (high ∷ low ∷ [])) × IsBlank behind × (text ≡ high ∷ low ∷ behind) × (byte ≡ digits_value 16 (high ∷ low ∷ []))

-- Strings: characters in quotes, which are these and a NUL.
abbrev pub IsQuoted : Bytes → Bytes → Type 0
IsQuoted text value =
    (inner : Bytes) × IsTrue (list_all is_string_byte inner) × (text ≡ codes "\"" ++ (inner ++ codes "\"")) × (value ≡ inner ++ 0 ∷ [])

-- Cells: numbers in `<` `>`, which are big-endian words.
abbrev pub IsCells : Bytes → Bytes → Type 0
IsCells text value =
    (blank : Bytes) × (inner : Bytes) × (numbers : List ℕ) × IsBlank blank × AreWords inner numbers × (text ≡ codes "<" ++ (blank ++ (inner ++ codes ">"))) × (value ≡ flat_map (to_be_bytes w32) numbers)

-- Bytes: pairs of digits in `[` `]`.
abbrev pub IsByteRow : Bytes → Bytes → Type 0
IsByteRow text value =
    (blank : Bytes) × (inner : Bytes) × IsBlank blank × AreEach IsPair inner value × (text ≡ codes "[" ++ (blank ++ (inner ++ codes "]")))

-- A value.
abbrev pub IsValue : Bytes → Bytes → Type 0
IsValue text value = IsQuoted text value ⊎ (IsCells text value ⊎ IsByteRow text value)

-- One more value, behind a comma.
abbrev pub IsNextValue : Bytes → Bytes → Type 0
IsNextValue text value =
    (before : Bytes) × (after : Bytes) × (last : Bytes) × IsBlank before × IsBlank after × IsValue last value × (text ≡ before ++ (codes "," ++ (after ++ last)))

-- Values, at least one, with commas between them: their bytes one after another.
abbrev pub AreValues : Bytes → Bytes → Type 0
AreValues text value =
    (first : Bytes) × (others : Bytes) × (one : Bytes) × (more : List Bytes) × IsValue first one × AreEach IsNextValue others more × (text ≡ first ++ others) × (value ≡ one ++ whole more)

-- A property's name, and a node's: at least one character.
abbrev pub is_name_of : (ℕ → Bool) → Bytes → Bool
is_name_of is_byte [] = false
is_name_of is_byte (c ∷ name) = list_all is_byte (c ∷ name)

-- What stands between a property's name and its semicolon: nothing, or `=` and values.
abbrev pub IsGiven : Bytes → Bytes → Type 0
IsGiven text value =
    ((text ≡ []) × (value ≡ [])) ⊎ ((before : Bytes) × (values : Bytes) × (after : Bytes) × IsBlank before × AreValues values value × IsBlank after × (text ≡ codes "=" ++ (before ++ (values ++ after))))

-- A property, and spacing behind it.
abbrev pub IsProperty : Bytes → Property → Type 0
IsProperty text property =
    (after : Bytes) × (given : Bytes) × (behind : Bytes) × IsTrue (is_name_of is_property_byte property.0) × IsBlank after × IsGiven given property.1 × IsBlank behind × (text ≡ property.0 ++ (after ++ (given ++ (codes ";" ++ behind))))

-- A body: spacing, properties, and then nodes.
abbrev pub IsBody : (Bytes → Type 0) → Bytes → List Property → Type 0
IsBody AreChildren text properties =
    (blank : Bytes) × (first : Bytes) × (nodes : Bytes) × IsBlank blank × AreEach IsProperty first properties × AreChildren nodes × (text ≡ blank ++ (first ++ nodes))

-- A body in braces, a semicolon, and between them spacing.
abbrev pub IsBraced : (Bytes → Type 0) → Bytes → List Property → Type 0
IsBraced AreChildren text properties =
    (body : Bytes) × (after : Bytes) × IsBody AreChildren body properties × IsBlank after × (text ≡ codes "{" ++ (body ++ (codes "}" ++ (after ++ codes ";"))))

-- Nodes at a depth, and spacing behind each.
abbrev pub AreNodes : ℕ → Bytes → Trees → Type 0
AreNodes depth text none = text ≡ []
AreNodes depth text (tree name properties children rest) =
    (gap : Bytes) × (braced : Bytes) × (behind : Bytes) × (others : Bytes) × (depth ≤ depth_limit) × IsTrue (is_name_of is_node_byte name) × IsBlank gap × IsBraced (λ inner. AreNodes (suc depth) inner children) braced properties × IsBlank behind × AreNodes depth others rest × (text ≡ name ++ (gap ++ (braced ++ (behind ++ others))))

-- A pair of two zeros says nothing.
abbrev pub is_said : Reserve → Bool
is_said reserve = not (reserve.address == 0 && reserve.size == 0)

-- The reservations that are said.
abbrev pub AreReserves : Bytes → List Reserve → Type 0
AreReserves text reserves = (all : List Reserve) × AreEach IsReserve text all × (reserves ≡ filter is_said all)

-- The version, and spacing round its parts.
abbrev pub IsVersion : Bytes → Type 0
IsVersion text =
    (before : Bytes) × (between : Bytes) × (behind : Bytes) × IsBlank before × IsBlankAfterSlash between × IsBlank behind × (text ≡ before ++ (codes "/dts-v1/" ++ (between ++ (codes ";" ++ behind))))

-- The root: a `/`, and its body.
abbrev pub IsRoot : Bytes → Tree → Type 0
IsRoot text t =
    (gap : Bytes) × (braced : Bytes) × (behind : Bytes) × IsBlankAfterSlash gap × IsBraced (λ inner. AreNodes 2 inner t.children) braced t.properties × IsLastBlank behind × (t.name ≡ []) × (text ≡ codes "/" ++ (gap ++ (braced ++ behind)))

-- A text says these reservations and this tree.
pub record IsSource (text : Bytes) (reserves : List Reserve) (t : Tree) : Type 0 where
  pub version_text : Bytes
  pub reserves_text : Bytes
  pub root_text : Bytes
  pub version : IsVersion version_text
  pub reserved : AreReserves reserves_text reserves
  pub root : IsRoot root_text t
  pub spelled : text ≡ version_text ++ (reserves_text ++ root_text)

-- A text says nothing.
abbrev pub SaysNone : Bytes → Type 0
SaysNone text = (reserves : List Reserve) (t : Tree) → IsSource text reserves t → ⊥

-- A text begins a source: with some continuation it says something.
abbrev pub Begins : Bytes → Type 0
Begins text = (more : Bytes) × (reserves : List Reserve) × (t : Tree) × IsSource (text ++ more) reserves t

-- Where a text that says nothing first departs from every source: the bytes before it begin one, and with the next they do not; or all of it begins one.
pub record DepartsAt (text : Bytes) (offset : ℕ) : Type 0 where
  pub says_none : SaysNone text
  pub before : Begins (take offset text)
  pub next : (offset ≡ length text) ⊎ ((offset < length text) × (Begins (take (offset + 1) text) → ⊥))
