-- The words of a value: numbers of four bytes, the most significant first (Devicetree Specification 0.4, 2.2.4, u32).
use Rattle.std.specs.Prelude.{ℕ, ◌+◌, List, [], ◌∷◌, if◌then◌else◌, nat_lt, take, drop, Option, Some, None, option_map, option_and_then}
use Rattle.std.specs.Int.{w32, from_be_bytes}
use Rattle.fdt_tree.specs.Tree.{Bytes, cell}
use Rattle.indexed_tree.specs.Words.{with_word}
use Rattle.overlaid_trees.specs.Turns.{all}

-- the greatest phandle that there is (0xffffffff is kept for a target that is not resolved)
abbrev pub last_phandle : ℕ
last_phandle = 4294967294

-- a number moved up, where it stays a phandle
abbrev pub moved : ℕ → ℕ → Option ℕ
moved by number = if nat_lt last_phandle (number + by) then None else Some (number + by)

-- the word at an offset, where it lies within the bytes
abbrev pub word_at : Bytes → ℕ → Option ℕ
word_at bytes offset = cell (take 4 (drop offset bytes))

-- the bytes with another word at an offset, where a word lies there
abbrev pub replaced : ℕ → Bytes → ℕ → Option Bytes
replaced number bytes offset = option_map (λ _. with_word bytes offset number) (word_at bytes offset)

-- the bytes with the word at an offset moved up
abbrev pub with_moved : ℕ → Bytes → ℕ → Option Bytes
with_moved by bytes offset = option_map (with_word bytes offset) (option_and_then (moved by) (word_at bytes offset))

-- the words that bytes are, where they are whole words
abbrev pub words : Bytes → Option (List ℕ)
words [] = Some []
words (a ∷ b ∷ c ∷ d ∷ bytes) = option_map (λ numbers. from_be_bytes w32 (a ∷ b ∷ c ∷ d ∷ []) ∷ numbers) (words bytes)
words _ = None

-- the bytes with the words moved up that lie at the offsets that other bytes list, one after the other
abbrev pub with_all_moved : ℕ → Bytes → Bytes → Option Bytes
with_all_moved by offsets bytes = option_and_then (all (with_moved by) bytes) (words offsets)
