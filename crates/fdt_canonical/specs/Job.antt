-- What a run is called to do by its words and by the files.
use Rattle.std.specs.Prelude.{ℕ, ◌≤◌, ◌⊎◌, List, [], codes, length, Option}
use Rattle.outside.specs.Outside.{File}
use Rattle.fdt_write.specs.Flattened.{flattened, length_limit}
use Rattle.run_steps.specs.Endings.{Outcome}
use Rattle.run_steps.specs.Steps.{IsWriting}
use Rattle.tree_files.specs.Lengths.{IsLengthRefusal}
use Rattle.tree_files.specs.Trees.{FlatTree, AfterTreeFile}
use Rattle.filters.specs.Words.{asked_file}
use Rattle.filters.specs.Filters as filters

-- the program's name
abbrev pub program_name : List ℕ
program_name = codes "fdt_canonical"

-- the words ask for no tree, and the line of usage is said
abbrev pub AreRefused : List (List ℕ) → List ℕ → Type 0
AreRefused words text = filters.AreRefused program_name words text

-- the canonical spelling of a flattened tree
abbrev pub spelling : FlatTree → List ℕ
spelling tree = flattened tree.reserves tree.boot tree.root

-- what a tree of this name calls for: its canonical spelling is the report, or it is too long and refused
abbrev pub IsRespelling : List ℕ → FlatTree → Outcome → Type 0
IsRespelling name tree outcome =
    IsLengthRefusal name (length (spelling tree)) outcome ⊎ ((length (spelling tree) ≤ length_limit) × IsWriting [] (spelling tree) outcome)

-- a tree's file is read, and its tree is respelled
abbrev pub IsFileRespelling : Option (List File) → List ℕ → Outcome → Type 0
IsFileRespelling told name outcome = AfterTreeFile told name (IsRespelling name) outcome

-- the words and the files call for this outcome, by what the files hold where that is told, and else by some answers of theirs
abbrev pub CallsFor : List (List ℕ) → Option (List File) → Outcome → Type 0
CallsFor words told outcome = filters.OnAsked (IsFileRespelling told) (asked_file words) outcome
