-- What a run says on `err`: a message is one line, behind the name of the program.
use Rattle.std.specs.Prelude.{ℕ, List, ◌++◌, codes, decimal}

-- the line of a program's message, ended by a line feed
abbrev pub line : List ℕ → List ℕ → List ℕ
line program message = program ++ (codes ": " ++ (message ++ codes "\n"))

-- memory ran out
abbrev pub memory_message : List ℕ
memory_message = codes "out of memory"

-- what is said about a file
abbrev pub file_message : List ℕ → List ℕ → List ℕ
file_message name text = name ++ (codes ": " ++ text)

-- a file that is longer than its limit, in bytes
abbrev pub longer_message : List ℕ → ℕ → List ℕ
longer_message name limit = file_message name (codes "longer than " ++ decimal limit)
