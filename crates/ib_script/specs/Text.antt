-- The text of a script, as U-Boot's command line reads it: each command is one line, its words with one space between them, ended by a line feed.
use Rattle.std.specs.Prelude.{ℕ, ◌/◌, ◌%◌, false, List, [], ◌∷◌, ◌++◌, map, ◌==◌, if◌then◌else◌, codes}
use Rattle.std.specs.List.{flat_map}
use Rattle.std.specs.Fmt.{digit_glyph}
use Rattle.texts.specs.NumberTexts.{hexadecimal}
use Rattle.ib_config.specs.Runs.{first_is, is_empty}
use Rattle.ib_script.specs.declared.command.Command.{Command}
use Rattle.ib_script.specs.declared.command.Command.TheVariants.{Load, Addr, Resize, Mknod, Set, SetEnv, Booti}
use Rattle.ib_script.specs.declared.command.Piece.{Piece}
use Rattle.ib_script.specs.declared.command.Piece.TheVariants.{Cells, Bytes, Word}

-- words, each behind a space
abbrev pub spaced : List (List ℕ) → List ℕ
spaced words = flat_map (λ word. 32 ∷ word) words

-- words, with a space between each two
abbrev pub joined : List (List ℕ) → List ℕ
joined [] = []
joined (word ∷ words) = word ++ spaced words

-- a byte as two hexadecimal digits
abbrev pub two_digits : ℕ → List ℕ
two_digits byte = digit_glyph false (byte / 16) ∷ digit_glyph false (byte % 16) ∷ []

-- a piece of a value: cells stand as `<0x0 0x1>`, bytes as `[0a 0b]`, and a word as `"word"`
unfoldable pub piece_word : Piece → List ℕ
piece_word (Cells cells) = codes "<" ++ joined (map hexadecimal cells) ++ codes ">"
piece_word (Bytes bytes) = codes "[" ++ joined (map two_digits bytes) ++ codes "]"
piece_word (Word text) = codes "\"" ++ text ++ codes "\""

-- the name of a property: one that begins with `#` has a backslash before it, since `#` begins a comment
abbrev pub prop_word : List ℕ → List ℕ
prop_word name = if first_is (λ c. c == 35) name then 92 ∷ name else name

-- the words of a command; a variable's text is a word where it is not empty
unfoldable pub words_of_command : Command → List (List ℕ)
words_of_command (Load how address name) = how ∷ hexadecimal address ∷ name ∷ []
words_of_command (Addr address) = codes "fdt" ∷ codes "addr" ∷ hexadecimal address ∷ []
words_of_command (Resize bytes) = codes "fdt" ∷ codes "resize" ∷ hexadecimal bytes ∷ []
words_of_command (Mknod path name) = codes "fdt" ∷ codes "mknod" ∷ path ∷ name ∷ []
words_of_command (Set path prop value) = codes "fdt" ∷ codes "set" ∷ path ∷ prop_word prop ∷ map piece_word value
words_of_command (SetEnv name value) = codes "setenv" ∷ name ∷ (if is_empty value then [] else value ∷ [])
words_of_command (Booti kernel tree) = codes "booti" ∷ hexadecimal kernel ∷ codes "-" ∷ hexadecimal tree ∷ []

-- the line of a command
unfoldable pub line_of_command : Command → List ℕ
line_of_command command = joined (words_of_command command) ++ codes "\n"

-- the lines of all commands
unfoldable pub text_of : List Command → List ℕ
text_of commands = flat_map line_of_command commands
